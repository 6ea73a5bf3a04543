-- The targets of the lists so far are blocks.
use Rattle.std.proofs.Common.{ℕ, ◌<◌, Bor, List, [], get_or, map}
use Rattle.leak_marks.specs.Lists.{Has}
use Rattle.leak_tests_marking.proofs.lists.lists_of.Given as goal

abbrev pub invariant-loop-list : goal.invariant-loop-list
invariant-loop-list l = (p b : ℕ) → p < l.list-index → Has (get_or (map (λ (x : Bor (List ℕ)). x.now) l.lists) p []) b → b < l.blocks
