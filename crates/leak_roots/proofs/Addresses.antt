-- Lists of consecutive numbers, and the multiples of 8 among them.
use Rattle.std.proofs.Common.{◌≡◌, ℕ, zero, suc, ◌+◌, ◌-◌, ◌*◌, ◌/◌, ◌%◌, ◌<◌, ◌≤◌, true, false, eqb, ◌⊎◌, inl, inr, List, [], ◌∷◌, ◌++◌, map, filter, refl, sym, ap, ◌∙◌, append-nil, arith}
use Rattle.std.specs.List.{range_with_len}
use Rattle.std.proofs.lemmas.Bool.{cases_eq, ne_eqb, eq-eqb}
use Rattle.std.proofs.lemmas.List.{map-append}
use Rattle.std.proofs.lemmas.List.Elements.{filter-append}
use Rattle.std.proofs.lemmas.List.FromFn.{map-range_with_len_more}
use Rattle.leak_lemmas.proofs.Ranges.{range-append}
use Rattle.leak_roots.specs.Places.{addresses_in, aligned_places}

pub range_more : (a n : ℕ) → range_with_len a (suc n) ≡ range_with_len a n ++ (a + n) ∷ []
range_more a n = let e : suc n ≡ n + 1 = omega arith in ap (λ (k : ℕ). range_with_len a k) e ∙ range-append a n 1

-- two such lists that begin alike, or are empty
pub range_same : (a b m n : ℕ) → m ≡ n → (0 < m → a ≡ b) → range_with_len a m ≡ range_with_len b n
range_same a b zero n e h = rw (← e) refl
range_same a b (suc m) n e h = let p : a ≡ b = h (omega arith) in ap (λ (k : ℕ). range_with_len k (suc m)) p ∙ ap (λ (k : ℕ). range_with_len b k) e

pub map_shift : {X : Type 0} (f g : ℕ → X) (a b n : ℕ) → ((i : ℕ) → f (a + i) ≡ g (b + i)) → map f (range_with_len a n) ≡ map g (range_with_len b n)
map_shift f g a b zero h = refl
map_shift f g a b (suc n) h =
    let here : f a ≡ g b = let e : a + 0 ≡ a = omega arith in let e' : b + 0 ≡ b = omega arith in rw (e, e') at (h 0) in
    rw here (ap (λ (xs : List _). g b ∷ xs) (map_shift f g (a + 1) (b + 1) n (λ i. let e : a + 1 + i ≡ a + (1 + i) = omega arith in let e' : b + 1 + i ≡ b + (1 + i) = omega arith in rw (e, e') (h (1 + i)))))

-- how many multiples of 8 there are from a up to a + n
eighths : ℕ → ℕ → ℕ
eighths a n = (a + n + 7) / 8 - (a + 7) / 8

one_eighth : (a n : ℕ) → (((a + n) % 8 ≡ 0) ⊎ ((a + n) % 8 ≡ 0 → ⊥))
    → filter (λ x. eqb (x % 8) 0) (range_with_len a n) ≡ map (λ i. 8 * ((a + 7) / 8) + 8 * i) (range_with_len 0 (eighths a n))
    → filter (λ x. eqb (x % 8) 0) (range_with_len a (suc n)) ≡ map (λ i. 8 * ((a + 7) / 8) + 8 * i) (range_with_len 0 (eighths a (suc n)))
unfolding eighths
one_eighth a n (inl e) h =
    let k = eighths a n in
    let p = λ (x : ℕ). eqb (x % 8) 0 in
    let f = λ (i : ℕ). 8 * ((a + 7) / 8) + 8 * i in
    let more : eighths a (suc n) ≡ k + 1 = omega arith in
    let place : 8 * ((a + 7) / 8) + 8 * k ≡ a + n = omega arith in
    let test : eqb ((a + n) % 8) 0 ≡ true = eq-eqb _ _ e in
    let left : filter p (range_with_len a (suc n)) ≡ map f (range_with_len 0 k) ++ (a + n) ∷ [] =
    ap (filter p) (range_more a n) ∙ filter-append p (range_with_len a n) ((a + n) ∷ []) ∙ (rw (h, test) refl) in
    let right : map f (range_with_len 0 (eighths a (suc n))) ≡ map f (range_with_len 0 k) ++ (a + n) ∷ [] =
    ap (λ (j : ℕ). map f (range_with_len 0 j)) more ∙ map-range_with_len_more f 0 k k (omega arith) ∙ ap (λ (v : ℕ). map f (range_with_len 0 k) ++ v ∷ []) place in
    left ∙ sym right
one_eighth a n (inr e) h =
    let k = eighths a n in
    let p = λ (x : ℕ). eqb (x % 8) 0 in
    let f = λ (i : ℕ). 8 * ((a + 7) / 8) + 8 * i in
    let more : eighths a (suc n) ≡ k = omega arith in
    let test : eqb ((a + n) % 8) 0 ≡ false = ne_eqb _ _ e in
    let left : filter p (range_with_len a (suc n)) ≡ map f (range_with_len 0 k) =
    ap (filter p) (range_more a n) ∙ filter-append p (range_with_len a n) ((a + n) ∷ []) ∙ (rw (h, test) (append-nil (map f (range_with_len 0 k)))) in
    left ∙ sym (ap (λ (j : ℕ). map f (range_with_len 0 j)) more)

all_eighths : (a n : ℕ) → filter (λ x. eqb (x % 8) 0) (range_with_len a n) ≡ map (λ i. 8 * ((a + 7) / 8) + 8 * i) (range_with_len 0 (eighths a n))
unfolding eighths
all_eighths a zero = let z : eighths a zero ≡ 0 = omega arith in rw z refl
all_eighths a (suc n) = one_eighth a n (cases_eq ((a + n) % 8) 0) (all_eighths a n)

-- the multiples of 8 between two addresses are a range, if there are any
pub aligned_some : (from to first last : ℕ) → first ≡ (from + 7) / 8 → last ≡ to / 8 → first < last → aligned_places from to ≡ addresses_in (8 * first, 8 * last)
unfolding eighths
aligned_some from to first last f l h =
    let n = to - 7 - from in
    let same : eighths from n ≡ (8 * last - 8 * first) / 8 = omega arith in
    all_eighths from n ∙ (rw (same, ← f) refl)

pub aligned_none : (from to : ℕ) → to / 8 ≤ (from + 7) / 8 → aligned_places from to ≡ []
unfolding eighths
aligned_none from to h =
    let n = to - 7 - from in
    let same : eighths from n ≡ 0 = omega arith in
    all_eighths from n ∙ (rw same refl)

-- a range is cut in two
pub addresses_in-split : (a b c : ℕ) → a % 8 ≡ 0 → b % 8 ≡ 0 → c % 8 ≡ 0 → a ≤ b → b ≤ c → addresses_in (a, c) ≡ addresses_in (a, b) ++ addresses_in (b, c)
addresses_in-split a b c p q r l m =
    let x = (b - a) / 8 in
    let y = (c - b) / 8 in
    let sum : (c - a) / 8 ≡ x + y = omega arith in
    let shift : (i : ℕ) → a + 8 * (x + i) ≡ b + 8 * (0 + i) = λ i. omega arith in
    rw (sum, range-append 0 x y, map-append (λ (i : ℕ). a + 8 * i) (range_with_len 0 x) (range_with_len (0 + x) y))
    (ap (λ (xs : List ℕ). map (λ i. a + 8 * i) (range_with_len 0 x) ++ xs) (map_shift (λ (i : ℕ). a + 8 * i) (λ (i : ℕ). b + 8 * i) (0 + x) 0 y (λ i. omega arith)))
