-- The laws of whole runs, from the lemmas on chains and on the workers' lists.
use Rattle.std.proofs.Common.{◌≡◌, ℕ, not, cond, ◌&&◌, ◌||◌, sym, ap, ◌∙◌, List, [], replicate, slice_index_or}
use Rattle.std.specs.List.{concat}
use Rattle.std.proofs.lemmas.List.{get_or-replicate}
use Rattle.leak_marks.specs.Lists.{has}
use Rattle.leak_marks.specs.Reach.{Graph}
use Rattle.leak_marks.specs.Runs.{Attempt, IsWholeRun, claims_after, targets_in}
use Rattle.leak_marks.proofs.ListLemmas.{to_has, of_has}
use Rattle.leak_marks.proofs.ReachLemmas.{lawful_reach, reach_attempted, none_earlier}
use Rattle.leak_marks.proofs.RunLemmas.{is_claimed, is_first_by, of_first_by, to_first_by, claimed_after_run, once_after_run, list_after_run, nothing_claimed, nothing_twice, in_range_of}
use Rattle.leak_marks.proofs.laws.whole_runs.Goals as goal

claimed_is_attempted : (graph : Graph) (n : ℕ) (run : List Attempt) → IsWholeRun graph n run → (b : ℕ) → is_claimed (claims_after n run) b ≡ has (targets_in run) b
claimed_is_attempted graph n run whole b =
    claimed_after_run (replicate n []) run (in_range_of n run whole.in_range) b ∙ ap (λ t. t || has (targets_in run) b) (nothing_claimed n b)

pub returns-clause-reach : goal.returns-clause-reach
returns-clause-reach c graph n run whole b =
    (lawful_reach graph [] run (none_earlier graph) whole.lawful b, λ r. reach_attempted graph n run whole b r.0 r.1)

pub returns-clause-first : goal.returns-clause-first
returns-clause-first c graph n run whole w b h =
    let list : List ℕ = slice_index_or (claims_after n run) w [] in
    let same : has list b ≡ is_first_by w b run =
    list_after_run (replicate n []) run (in_range_of n run whole.in_range) w b
    ∙ ap (λ t. has t b || (not (is_claimed (replicate n []) b) && is_first_by w b run)) (get_or-replicate n w [] [] h)
    ∙ ap (λ t. not t && is_first_by w b run) (nothing_claimed n b) in (
      (λ i. of_first_by w b run (sym same ∙ to_has list b i)),
      (λ f. of_has list b (same ∙ to_first_by w b run f)),
    )

pub returns-clause-partition : goal.returns-clause-partition
returns-clause-partition c graph n run whole = record {
  once = λ b r.
      once_after_run (replicate n []) run (in_range_of n run whole.in_range) (nothing_twice n) b
      ∙ ap (λ t. cond t 1 0) (claimed_is_attempted graph n run whole b ∙ to_has (targets_in run) b (reach_attempted graph n run whole b r.0 r.1));
  only = λ b t. lawful_reach graph [] run (none_earlier graph) whole.lawful b (of_has (targets_in run) b (sym (claimed_is_attempted graph n run whole b) ∙ to_has (concat (claims_after n run)) b t));
}
