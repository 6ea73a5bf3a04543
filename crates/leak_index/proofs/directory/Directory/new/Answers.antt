-- One more block starts in a page that is listed, or in one that is listed now.
use Rattle.leak_blocks.specs.declared.block.Block.{Block}
use Rattle.leak_index.proofs.Listing.{listed_more, listed_same}
use Rattle.leak_index.proofs.directory.Directory.new.Goals.{then-page-next+in_ok-push+in_ok-push-2, else-page-next}
use Rattle.leak_index.proofs.directory.Directory.new.Goals as goal

abbrev empty : Block
empty = record { start = 0; size = 0; line = 0; caller = (0, 0) }

pub loop-number-preserved : goal.loop-number-preserved
loop-number-preserved c =
    elim c.if-page-next.branch [
      | then-page-next+in_ok-push+in_ok-push-2 w ↦
          rw (w.pages-is, w.firsts-is, w.next-is, w.in_ok-push.ensures.items, w.in_ok-push-2.ensures.items)
          (listed_more _ _ _ _ _ empty c.requires c.loop-number-test.true w.if-page-next.true c.loop-number.invariant)
      | else-page-next w ↦
          rw (w.pages-is, w.firsts-is, w.next-is)
          (listed_same _ _ _ _ _ empty c.requires c.loop-number-test.true w.if-page-next.false c.loop-number.invariant)
    ]
