-- None of the words before the address leads to the block.
use Rattle.std.proofs.Common.{◌-◌, ◌≤◌}
use Rattle.leak_why.specs.Leading.{NoneLeads}
use Rattle.leak_why.proofs.finding.first_root_word.Given as goal

abbrev pub invariant-loop-address : goal.invariant-loop-address
invariant-loop-address g l = record {
  low : l.from ≤ l.at;
  none : NoneLeads l.roots.skips_links (g.W.Words.word_at l.words) (g.L.Lookup.index l.lookup) l.from l.to l.at l.block;
}

abbrev pub decreases-loop-address : goal.decreases-loop-address
decreases-loop-address g l = 18446744073709551616 - l.at
