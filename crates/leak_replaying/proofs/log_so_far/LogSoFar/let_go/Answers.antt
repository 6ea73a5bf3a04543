-- The live blocks are held, each with the number of its caller's text.
use Rattle.std.proofs.Common.{◌<◌, List, ℕ, true, length, sym, subst}
use Rattle.std.proofs.lemmas.Bool.{both_ways}
use Rattle.std.specs.List.{All}
use Rattle.leak_blocks.specs.declared.block.Block.{Block}
use Rattle.leak_replaying.specs.Numbering.{AreNumberedBy}
use Rattle.leak_replaying.proofs.NumberingLemmas.{within_numbers}
use Rattle.leak_replaying.proofs.FinishingLemmas.{live_numbered}
use Rattle.leak_replaying.proofs.log_so_far.LogSoFar.let_go.Goals as goal

pub gather-requires : goal.gather-requires
gather-requires c =
    let inside : All (λ n. n < length c.args.stage.allocated.items) c.numbers-3.result.now = c.numbers-3.ensures.within c.requires.1 c.requires.3 in
    subst (λ (ns : List ℕ). All (λ k. k < length ns) c.numbers-3.result.now) (sym c.as_slice.ensures.value)
    (within_numbers c.requires.0 c.args.stage.allocated.items c.args.self.now.texts c.args.self.now.numbers.items c.numbers-3.result.now c.requires.2.texts inside)

pub returns-clause-ok : goal.returns-clause-ok
returns-clause-ok c = λ passed lines has after.
    let live = c.in_ok-live.ensures.live lines after in (
      record {
        are = has.are;
        bytes = has.bytes;
        count = has.count;
        texts = subst (λ (bs : List Block). AreNumberedBy passed bs c.args.self.now.texts c.in_ok-self.field-0.items) (sym live)
            (live_numbered c.args.self.now passed lines c.args.stage has after c.as_slice.result.now c.numbers-3.result.now c.in_ok-self.field-0.items
            c.as_slice.ensures.value c.numbers-3.ensures.value (c.numbers-3.ensures.within lines after) c.in_ok-self.ensures);
        all = λ wanted. absurd (both_ways _ c.if-self.false wanted);
      },
      c.in_ok-live.ensures.after lines after,
    )
