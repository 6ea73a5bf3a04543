-- From the lemmas of ListLemmas.
use Rattle.std.proofs.Common.{ℕ, List, [], ◌<◌, sym, subst, ⊎_elim, arith}
use Rattle.std.specs.List.{AllByRecursion}
use Rattle.leak_marks.specs.Lists.{Has}
use Rattle.leak_marks.proofs.ListLemmas.{here, at_head}
use Rattle.leak_pool.specs.declared.start.Part.{Part}
use Rattle.leak_tests_marking.proofs.pool.starts.from_first.Goals as goal

pub mark_from-requires-clause-start : goal.mark_from-requires-clause-start
mark_from-requires-clause-start g c κs within = record {
  inside = λ b h. ⊎_elim (λ e. omega (arith, c.requires)) (λ n. absurd (let z : 0 < 0 = n in omega arith)) (at_head 0 [] b (subst (λ (l : List ℕ). Has l b) c.in_ok-marked.ensures.items h));
  rescan = subst (λ (l : List (ℕ × Part)). AllByRecursion (λ part. Has c.in_ok-marked.marked.items part.0) l) (sym c.in_ok-rescan.ensures.items) (subst (λ (l : List ℕ). Has l 0) (sym c.in_ok-marked.ensures.items) (here 0 []), tt);
}
