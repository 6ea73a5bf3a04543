-- None of the words so far leads to the block.
use Rattle.std.proofs.Common.{ℕ, ◌<◌, get_or}
use Rattle.leak_index.specs.Hits.{hits_of}
use Rattle.leak_marks.specs.Lists.{Has}
use Rattle.leak_why.proofs.finding.first_register.Given as goal

abbrev pub invariant-loop-i : goal.invariant-loop-i
invariant-loop-i g l = (k : ℕ) → k < l.i → ¬ Has (hits_of (g.L.Lookup.index l.lookup) (get_or l.registers k 0)) l.block
