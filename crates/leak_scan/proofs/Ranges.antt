-- Words at ranges of addresses.
use Rattle.std.proofs.Common.{◌≡◌, ℕ, zero, suc, ◌+◌, ◌-◌, ◌%◌, ◌<◌, ◌≤◌, refl, ap, sym, ◌∙◌, subst, List, [], ◌∷◌, ◌++◌, Option, Some, None, IsSome, arith}
use Rattle.std.specs.List.{cons_option}
use Rattle.leak_scan.specs.Positions.{words_from}

-- only multiples of 8 have a word
abbrev pub IsAligned : (ℕ → Option ℕ) → Type 0
IsAligned f = (a : ℕ) → IsSome (f a) → a % 8 ≡ 0

none_or_some : (x : Option ℕ) → (IsSome x → ⊥) → x ≡ None
none_or_some None h = refl
none_or_some (Some v) h = absurd (h refl)

pub none_between : (f : ℕ → Option ℕ) (a : ℕ) → IsAligned f → (a % 8 ≡ 0 → ⊥) → f a ≡ None
none_between f a aligned h = none_or_some (f a) (λ s. h (aligned a s))

-- the same words, by the same numbers
pub same_range : (f : ℕ → Option ℕ) (from to count left : ℕ) → from ≡ to → count ≡ left → words_from f from count ≡ words_from f to left
same_range f from to count left e d = rw (e, d) refl

-- no words at no addresses
pub no_addresses : (f : ℕ → Option ℕ) (from : ℕ) → words_from f from 0 ≡ []
unfolding words_from
no_addresses f from = refl

pub step : (f : ℕ → Option ℕ) (from count : ℕ) → words_from f from (suc count) ≡ cons_option (f from) (words_from f (from + 1) count)
unfolding words_from
step f from count = refl

-- none of the addresses has a word
pub nothing_in : (f : ℕ → Option ℕ) (from count : ℕ) → ((a : ℕ) → from ≤ a → a < from + count → f a ≡ None) → words_from f from count ≡ []
nothing_in f from zero h = no_addresses f from
nothing_in f from (suc n) h =
    step f from n ∙ ap (λ o. cons_option o (words_from f (from + 1) n)) (h from (omega arith) (omega arith))
    ∙ nothing_in f (from + 1) n (λ a l u. h a (omega (arith, l)) (omega (arith, u)))

-- the first n addresses have none
pub skip : (f : ℕ → Option ℕ) (n from count to left : ℕ) → to ≡ from + n → left ≡ count - n → ((a : ℕ) → from ≤ a → a < from + n → f a ≡ None) → words_from f from count ≡ words_from f to left
skip f zero from count to left e d h = same_range f from to count left (omega (arith, e)) (omega (arith, d))
skip f (suc n) from zero to left e d h = no_addresses f from ∙ sym (same_range f to to left 0 refl (omega (arith, d)) ∙ no_addresses f to)
skip f (suc n) from (suc count) to left e d h =
    step f from count ∙ ap (λ o. cons_option o (words_from f (from + 1) count)) (h from (omega arith) (omega arith))
    ∙ skip f n (from + 1) count to left (omega (arith, e)) (omega (arith, d)) (λ a l u. h a (omega (arith, l)) (omega (arith, u)))

-- the first address has one, and the 7 after it have none
pub one_word : (f : ℕ → Option ℕ) (from count w : ℕ) → IsAligned f → f from ≡ Some w → 0 < count → words_from f from count ≡ w ∷ words_from f (from + 8) (count - 8)
one_word f from zero w aligned e h = absurd (omega (arith, h))
one_word f from (suc count) w aligned e h =
    let at : from % 8 ≡ 0 = aligned from (subst (λ (x : Option ℕ). IsSome x) (sym e) refl) in
    step f from count ∙ ap (λ o. cons_option o (words_from f (from + 1) count)) e
    ∙ ap (λ ws. w ∷ ws) (skip f 7 (from + 1) count (from + 8) (suc count - 8) (omega arith) (omega arith) (λ a l u. none_between f a aligned (λ z. omega (arith, at, z, l, u))))

-- the same words if the maps agree
pub agreeing : (f g : ℕ → Option ℕ) (from count : ℕ) → ((a : ℕ) → from ≤ a → a < from + count → f a ≡ g a) → words_from f from count ≡ words_from g from count
agreeing f g from zero h = no_addresses f from ∙ sym (no_addresses g from)
agreeing f g from (suc n) h =
    step f from n ∙ rw (h from (omega arith) (omega arith), agreeing f g (from + 1) n (λ a l u. h a (omega (arith, l)) (omega (arith, u)))) (sym (step g from n))

-- the words at the first n addresses, and the others. There may be fewer addresses, if the others up to n have no word
pub split : (f : ℕ → Option ℕ) (n from count to : ℕ) → to ≡ from + n → ((a : ℕ) → from + count ≤ a → a < from + n → f a ≡ None) → words_from f from count ≡ words_from f from n ++ words_from f to (count - n)
split f zero from count to e h = same_range f from to count (count - 0) (omega (arith, e)) (omega arith) ∙ ap (λ ws. ws ++ words_from f to (count - 0)) (sym (no_addresses f from))
split f (suc n) from zero to e h =
    no_addresses f from ∙ sym (
    ap (λ ws. ws ++ words_from f to (0 - suc n)) (nothing_in f from (suc n) (λ a l u. h a (omega (arith, l)) (omega (arith, u))))
    ∙ same_range f to to (0 - suc n) 0 refl (omega arith) ∙ no_addresses f to)
split f (suc n) from (suc count) to e h =
    step f from count
    ∙ ap (λ ws. cons_option (f from) ws) (split f n (from + 1) count to (omega (arith, e)) (λ a l u. h a (omega (arith, l)) (omega (arith, u))))
    ∙ joined (f from) (words_from f (from + 1) n) (words_from f to (count - n))
    ∙ ap (λ ws. ws ++ words_from f to (count - n)) (sym (step f from n))
    ∙ ap (λ ws. words_from f from (suc n) ++ ws) (same_range f to to (count - n) (suc count - suc n) refl (omega arith))
  where
    joined : (o : Option ℕ) (xs ys : List ℕ) → cons_option o (xs ++ ys) ≡ cons_option o xs ++ ys
    joined None xs ys = refl
    joined (Some x) xs ys = refl
