-- Lists of the consecutive numbers that pass a test.
use Rattle.std.proofs.Common.{◌≡◌, ℕ, zero, suc, ◌+◌, ◌<◌, ◌≤◌, ◌==◌, ◌⊎◌, inl, inr, Bool, true, false, cond, ◌∷◌, filter, get_or, refl, sym, ap, ◌∙◌, arith}
use Rattle.std.specs.List.{range_with_len}
use Rattle.std.specs.List.Sorted.{IsStrictlySortedBy}
use Rattle.std.specs.Ordering.{nat_cmp}
use Rattle.std.specs.declared.cmp.Ordering.TheVariants.{Less, Equal, Greater}
use Rattle.std.proofs.lemmas.Bool.{cases_eq, lt-ltb}
use Rattle.std.proofs.lemmas.List.Kept.{IsStrictlySortedBy-filter}
use Rattle.leak_lemmas.proofs.Orders.{nat_less as below_less}
use Rattle.leak_marks.proofs.ElementLemmas.{has_filter, of_filter, of_range}
use Rattle.leak_without.proofs.GoingLemmas.{has_range}
use Rattle.leak_alike.proofs.Ranges.{range_each}
use Rattle.leak_laws.specs.HolderMeaning.{Numbers}

range_sorted : (a n : ℕ) → IsStrictlySortedBy nat_cmp (range_with_len a n)
unfolding IsStrictlySortedBy
range_sorted a zero = tt
range_sorted a (suc n) = (range_each (λ x. nat_cmp a x ≡ Less) (a + 1) n (λ x low high. below_less a x (omega arith)), range_sorted (a + 1) n)

pub passing_sorted : (p : ℕ → Bool) (n : ℕ) → IsStrictlySortedBy nat_cmp (filter p (range_with_len 0 n))
passing_sorted p n = IsStrictlySortedBy-filter nat_cmp p (range_with_len 0 n) (range_sorted 0 n)

abbrev pub passing : (P : ℕ → Type 0) (p : ℕ → Bool) (n : ℕ) → ((x : ℕ) → x < n → p x ≡ true → P x) → ((x : ℕ) → P x → (x < n) × (p x ≡ true)) → Numbers P
passing P p n to from = record {
  list = filter p (range_with_len 0 n);
  ascending = passing_sorted p n;
  each = λ x. (
    λ i. (let parts = of_filter p (range_with_len 0 n) x i in let low = of_range n 0 x parts.0 in to x (omega (arith, low.1)) parts.1),
    λ holds. (let back = from x holds in has_filter p (range_with_len 0 n) x (has_range n x back.0) back.1),
  );
}

-- the first that passes is no greater than another
pub record IsFirst (p : ℕ → Bool) (x y : ℕ) : Type 0 where
  pub passes : p x ≡ true
  pub least : x ≤ y

pub first_passing : (p : ℕ → Bool) (a n y : ℕ) → a ≤ y → y < a + n → p y ≡ true → IsFirst p (get_or (filter p (range_with_len a n)) 0 0) y
first_passing p a zero y low high is = absurd (omega arith)
first_passing p a (suc n) y low high is = go (p a) refl (cases_eq a y) (λ later. first_passing p (a + 1) n y later (omega arith) is)
  where
    go : (t : Bool) → p a ≡ t → (a ≡ y) ⊎ (a ≡ y → ⊥) → (a + 1 ≤ y → IsFirst p (get_or (filter p (range_with_len (a + 1) n)) 0 0) y)
        → IsFirst p (get_or (cond t (a ∷ filter p (range_with_len (a + 1) n)) (filter p (range_with_len (a + 1) n))) 0 0) y
    go true e c later = record { passes = e; least = low }
    go false e (inl same) later = let f : p y ≡ false = ap p (sym same) ∙ e in absurd (cc)
    go false e (inr apart) later = later (omega (arith, apart))
