-- Lists of consecutive numbers.
use Rattle.std.proofs.Common.{◌≡◌, ℕ, zero, suc, ◌+◌, ◌<◌, ◌≤◌, Bool, false, List, [], ◌∷◌, ◌++◌, filter, refl, ap, arith}
use Rattle.std.specs.List.{range_with_len}

pub range-append : (a x y : ℕ) → range_with_len a (x + y) ≡ range_with_len a x ++ range_with_len (a + x) y
range-append a zero y = let e : zero + y ≡ y = omega arith in let f : a + zero ≡ a = omega arith in rw (e, f) refl
range-append a (suc x) y =
    let e : suc x + y ≡ suc (x + y) = omega arith in
    let f : a + suc x ≡ a + 1 + x = omega arith in
    rw (e, f) (ap (λ (xs : List ℕ). a ∷ xs) (range-append (a + 1) x y))

pub filter_same : (p q : ℕ → Bool) (a n : ℕ) → ((x : ℕ) → a ≤ x → x < a + n → p x ≡ q x) → filter p (range_with_len a n) ≡ filter q (range_with_len a n)
filter_same p q a zero h = refl
filter_same p q a (suc n) h = rw (h a (omega arith) (omega arith), filter_same p q (a + 1) n (λ x l m. h x (omega arith) (omega arith))) refl

pub filter_none : (p : ℕ → Bool) (a n : ℕ) → ((x : ℕ) → a ≤ x → x < a + n → p x ≡ false) → filter p (range_with_len a n) ≡ []
filter_none p a zero h = refl
filter_none p a (suc n) h = rw (h a (omega arith) (omega arith)) (filter_none p (a + 1) n (λ x l m. h x (omega arith) (omega arith)))
