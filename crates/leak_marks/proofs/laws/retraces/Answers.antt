-- A chain from the start goes on outside it from what the parts lead to.
use Rattle.std.proofs.Common.{ℕ, ◌⊎◌, inl, inr, ⊎_elim, List, [], ◌∷◌, ◌++◌, slice_index_or}
use Rattle.leak_marks.specs.Lists.{Has}
use Rattle.leak_marks.specs.Reach.{Reach, IsChain}
use Rattle.leak_marks.specs.Retraces.{whole_graph, retrace_graph, AreEnough}
use Rattle.leak_marks.proofs.ListLemmas.{none_has, has_front, has_back, of_append, has_or_not}
use Rattle.leak_marks.proofs.laws.retraces.Goals as goal

module _ (roots : List ℕ) (targets : List (List ℕ)) (start parts : List ℕ) (e : AreEnough targets start parts) where
  -- a block that something leads to is in the start or reached, whichever it is led to by
  outside : (b : ℕ) → (¬ Has start b → Reach (retrace_graph roots targets start parts) b) → Has start b ⊎ Reach (retrace_graph roots targets start parts) b
  outside b reach = ⊎_elim (λ s. inl s) (λ out. inr (reach out)) (has_or_not start b)

  first : (b : ℕ) → Has (roots ++ parts) b → Has start b ⊎ Reach (retrace_graph roots targets start parts) b
  first b h = outside b (λ out. ([], (out, h)))

  to_retrace : (b : ℕ) (before : List ℕ) → IsChain (whole_graph roots targets start) (b ∷ before) → Has start b ⊎ Reach (retrace_graph roots targets start parts) b
  to_retrace b [] c = elim (of_append start roots b c.1) [ inl s ↦ inl s | inr r ↦ first b (has_front roots parts b r) ]
  to_retrace b (s ∷ before) c = elim (to_retrace s before c.2) [
    | inl given ↦ elim (e.enough s b given c.1) [ inl p ↦ first b (has_back roots parts b p) | inr g ↦ inl g ]
    | inr r ↦ outside b (λ out. (s ∷ r.0, (out, c.1, r.1)))
  ]

  of_retrace : (b : ℕ) (before : List ℕ) → IsChain (retrace_graph roots targets start parts) (b ∷ before) → Reach (whole_graph roots targets start) b
  of_retrace b [] c = elim (of_append roots parts b c.1) [
    | inl r ↦ ([], (none_has b, has_back start roots b r))
    | inr p ↦ let s : (s : ℕ) × Has start s × Has (slice_index_or targets s []) b = e.of_start b p in
        (s.0 ∷ [], (none_has b, s.2, (none_has s.0, has_front start roots s.0 s.1)))
  ]
  of_retrace b (s ∷ before) c = let r : Reach (whole_graph roots targets start) s = of_retrace s before c.2 in (s ∷ r.0, (none_has b, c.1, r.1))

pub returns : goal.returns
returns c roots targets start parts e b = (
  λ r. to_retrace roots targets start parts e b r.0 r.1,
  λ h. elim h [ inl s ↦ ([], (none_has b, has_front start roots b s)) | inr r ↦ of_retrace roots targets start parts e b r.0 r.1 ],
)
