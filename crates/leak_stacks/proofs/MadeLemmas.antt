-- What is made of addresses, one after another.
use Rattle.std.proofs.Common.{◌≡◌, ℕ, zero, suc, ◌+◌, ◌-◌, ◌*◌, ◌%◌, ◌^◌, ◌<◌, ◌≤◌, List, [], ◌∷◌, Option, Some, None, IsSome, inl, inr, refl, sym, ap, ◌∙◌, arith}
use Rattle.std.specs.Prelude.{filter_map}
use Rattle.std.specs.List.{cons_option, range_with_len}
use Rattle.std.proofs.lemmas.Bool.{cases_lt}
use Rattle.leak_elf.specs.Words.{word_of}
use Rattle.leak_elf.specs.Aligned.{aligned_words}
use Rattle.leak_stacks.specs.Stacks.{made_from}

module _ {X : Type 0} (f : ℕ → Option X) where
  pub made_done : (from end : ℕ) → end ≤ from → made_from f from end ≡ []
  unfolding made_from
  made_done from end h = let z : end - from ≡ 0 = omega arith in rw z refl

  pub made_take : (from end : ℕ) → from < end → made_from f from end ≡ cons_option (f from) (made_from f (from + 1) end)
  unfolding made_from
  made_take from end h = let z : end - from ≡ suc (end - (from + 1)) = omega arith in rw z refl

  -- addresses of which nothing is made
  made_skip_by : (k from end : ℕ) → ((a : ℕ) → from ≤ a → a < from + k → f a ≡ None) → made_from f from end ≡ made_from f (from + k) end
  made_skip_by zero from end none = let z : from ≡ from + 0 = omega arith in ap (λ (n : ℕ). made_from f n end) z
  made_skip_by (suc k) from end none = elim (cases_lt from end) [
    | inl h ↦
        made_take from end h
        ∙ ap (λ (o : Option X). cons_option o (made_from f (from + 1) end)) (none from (omega arith) (omega arith))
        ∙ made_skip_by k (from + 1) end (λ a l m. none a (omega arith) (omega arith))
        ∙ (let z : from + 1 + k ≡ from + suc k = omega arith in ap (λ (n : ℕ). made_from f n end) z)
    | inr h ↦ made_done from end h ∙ sym (made_done (from + suc k) end (omega arith))
  ]

  pub made_skip : (from to end : ℕ) → from ≤ to → ((a : ℕ) → from ≤ a → a < to → f a ≡ None) → made_from f from end ≡ made_from f to end
  made_skip from to end l none =
      let z : from + (to - from) ≡ to = omega arith in
      made_skip_by (to - from) from end (λ a m n. none a m (omega arith)) ∙ ap (λ (n : ℕ). made_from f n end) z

  pub made_none : (from end : ℕ) → ((a : ℕ) → from ≤ a → a < end → f a ≡ None) → made_from f from end ≡ []
  made_none from end none = elim (cases_lt from end) [
    | inl h ↦ made_skip from end end (omega arith) none ∙ made_done end end (omega arith)
    | inr h ↦ made_done from end h
  ]

  -- the next address of which something may be made
  pub made_next : (from place next end : ℕ) → from ≤ place → place < end → place < next → ((a : ℕ) → from ≤ a → a < place → f a ≡ None) → ((a : ℕ) → place < a → a < next → f a ≡ None)
      → made_from f from end ≡ cons_option (f place) (made_from f next end)
  made_next from place next end l m n before behind =
      made_skip from place end l before
      ∙ made_take place end m
      ∙ ap (λ (xs : List X). cons_option (f place) xs) (made_skip (place + 1) next end (omega arith) (λ a g h. behind a (omega arith) h))

wordless : (o : Option ℕ) → (IsSome o → ⊥) → o ≡ None
wordless None h = refl
wordless (Some n) h = absurd (h refl)

-- an address behind a multiple of 8, up to the next multiple, has no word
pub no_word_between : (file : List ℕ) (place next a : ℕ) → place % 8 ≡ 0 → next ≤ place + 8 → place < a → a < next → word_of file a ≡ None
no_word_between file place next a multiple near behind before =
    wordless (word_of file a) (λ some. let e = aligned_words file a some in absurd (omega arith))
