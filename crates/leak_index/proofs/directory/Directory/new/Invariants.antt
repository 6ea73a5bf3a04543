-- The pages of the blocks so far are listed.
use Rattle.leak_index.proofs.Listing.{AreListedTo}
use Rattle.leak_index.proofs.directory.Directory.new.Given as goal

abbrev pub invariant-loop-number : goal.invariant-loop-number
invariant-loop-number l = AreListedTo l.blocks l.number l.next l.pages.items l.firsts.items
