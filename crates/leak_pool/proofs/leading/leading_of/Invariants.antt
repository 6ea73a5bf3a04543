-- Of the ranges so far those that lead to a block are kept.
use Rattle.std.proofs.Common.{◌≡◌, filter, take}
use Rattle.leak_pool.specs.Leading.{leads}
use Rattle.leak_pool.proofs.leading.leading_of.Given as goal

abbrev pub invariant-loop-range : goal.invariant-loop-range
invariant-loop-range g l = l.kept.items ≡ filter (leads l.roots.skips_links (g.W.Words.word_at l.words) (g.L.Lookup.index l.lookup)) (take l.range-index l.ranges)
