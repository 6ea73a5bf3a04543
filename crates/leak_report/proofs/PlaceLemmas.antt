-- Texts of bytes are in the same order by their places as by their bytes.
use Rattle.std.proofs.Common.{◌≡◌, ℕ, ◌+◌, ◌-◌, ◌*◌, ◌<◌, ◌≤◌, ◌⊎◌, inl, inr, suc, zero, Bool, true, false, cond, List, [], ◌∷◌, length, take, drop, get_or, refl, sym, ap, ◌∙◌, arith}
use Rattle.std.specs.Prelude.{nat_lt, nat_eq, slice_range}
use Rattle.std.specs.Cmp.Lexicographic.{slice_cmp}
use Rattle.std.specs.declared.cmp.Ordering.TheVariants.{Less, Equal, Greater}
use Rattle.std.specs.Ordering.{nat_cmp, ordering_then}
use Rattle.std.proofs.Math.Nat.{mul-le-mul_right}
use Rattle.std.proofs.lemmas.List.{drop_more, drop_all, get_or-drop}
use Rattle.std.proofs.lemmas.Bool.{cases_order, lt-ltb, le-ltb}
use Rattle.std.proofs.lemmas.Cmp.{tied_itself, nat_cmp_total}
use Rattle.leak_lemmas.proofs.Bytes.{AreBytes}
use Rattle.leak_report.specs.Totals.{text_at}
use Rattle.leak_report.specs.Places.{weight, number_of, place_of}

behind : (x : ℕ) (xs : List ℕ) → AreBytes (x ∷ xs) → AreBytes xs
behind x xs bytes i = bytes (suc i)

front : (x : ℕ) (xs : List ℕ) → AreBytes (x ∷ xs) → x < 256
front x xs bytes = bytes 0

number_of-nil : (n i : ℕ) → number_of n i [] ≡ 0
number_of-nil zero i = refl
number_of-nil (suc n) i = omega (arith, number_of-nil n (suc i))

number_of-cons : (n i x : ℕ) (xs : List ℕ) → number_of n (suc i) (x ∷ xs) ≡ number_of n i xs
number_of-cons zero i x xs = refl
number_of-cons (suc n) i x xs = ap (λ (k : ℕ). get_or xs i 0 * weight n + k) (number_of-cons n (suc i) x xs)

number_of-first : (n x : ℕ) (xs : List ℕ) → number_of (suc n) 0 (x ∷ xs) ≡ x * weight n + number_of n 0 xs
number_of-first n x xs = ap (λ (k : ℕ). x * weight n + k) (number_of-cons n 0 x xs)

number_of-small : (n : ℕ) (xs : List ℕ) → AreBytes xs → number_of n 0 xs < weight n
number_of-small zero xs bytes = omega arith
number_of-small (suc n) [] bytes = omega (arith, number_of-nil (suc n) 0, number_of-nil n 0, number_of-small n [] bytes)
number_of-small (suc n) (x ∷ xs) bytes =
    let most : x * weight n ≤ 255 * weight n = mul-le-mul_right (weight n) (omega (arith, front x xs bytes)) in
    omega (arith, number_of-first n x xs, number_of-small n xs (behind x xs bytes), most)

-- ---- the order of two numbers

below : (x y : ℕ) → x < y → nat_cmp x y ≡ Less
below x y h = let is : nat_lt x y ≡ true = lt-ltb x y h in ap (λ t. cond t Less (cond (nat_eq x y) Equal Greater)) is

first_decides : (x y : ℕ) (xs ys : List ℕ) → x < y → slice_cmp nat_cmp (x ∷ xs) (y ∷ ys) ≡ Less
first_decides x y xs ys h = ap (λ o. ordering_then o (slice_cmp nat_cmp xs ys)) (below x y h)

itself : (x : ℕ) → nat_cmp x x ≡ Equal
itself x = tied_itself nat_cmp_total x

rest_decides : (x y : ℕ) (xs ys : List ℕ) → x ≡ y → slice_cmp nat_cmp xs ys ≡ Less → slice_cmp nat_cmp (x ∷ xs) (y ∷ ys) ≡ Less
rest_decides x y xs ys e less =
    ap (λ (z : ℕ). ordering_then (nat_cmp x z) (slice_cmp nat_cmp xs ys)) (sym e)
    ∙ ap (λ o. ordering_then o (slice_cmp nat_cmp xs ys)) (itself x) ∙ less

number_tells : (n : ℕ) (a b : List ℕ) → AreBytes a → AreBytes b → number_of n 0 a < number_of n 0 b → slice_cmp nat_cmp a b ≡ Less
number_tells zero a b p q h = absurd (omega arith)
number_tells (suc n) a [] p q h = absurd (omega (arith, number_of-nil (suc n) 0))
number_tells (suc n) [] (y ∷ b) p q h = refl
number_tells (suc n) (x ∷ a) (y ∷ b) p q h = go (cases_order x y) (number_tells n a b (behind x a p) (behind y b q))
  where
    go : (x ≡ y) ⊎ ((x < y) ⊎ (y < x)) → (number_of n 0 a < number_of n 0 b → slice_cmp nat_cmp a b ≡ Less) → slice_cmp nat_cmp (x ∷ a) (y ∷ b) ≡ Less
    go (inr (inl less)) later = first_decides x y a b less
    go (inl e) later =
        let same : x * weight n ≡ y * weight n = ap (λ (k : ℕ). k * weight n) e in
        rest_decides x y a b e (later (omega (arith, h, same, number_of-first n x a, number_of-first n y b)))
    go (inr (inr more)) later =
        let most : (y + 1) * weight n ≤ x * weight n = mul-le-mul_right (weight n) (omega (arith, more)) in
        absurd (omega (arith, h, most, number_of-first n x a, number_of-first n y b, number_of-small n b (behind y b q)))

-- ---- places

place_below : (p x : ℕ) (ps xs : List ℕ) → x < p → place_of (p ∷ ps) (x ∷ xs) ≡ 0
place_below p x ps xs h = ap (λ t. cond t 0 (cond (nat_lt p x) 18446744073709551615 (place_of ps xs))) (lt-ltb x p h)

place_above : (p x : ℕ) (ps xs : List ℕ) → p < x → place_of (p ∷ ps) (x ∷ xs) ≡ 18446744073709551615
place_above p x ps xs h =
    ap (λ t. cond t 0 (cond (nat_lt p x) 18446744073709551615 (place_of ps xs))) (le-ltb x p (omega (arith, h)))
    ∙ ap (λ t. cond t 18446744073709551615 (place_of ps xs)) (lt-ltb p x h)

place_within : (p x : ℕ) (ps xs : List ℕ) → p ≡ x → place_of (p ∷ ps) (x ∷ xs) ≡ place_of ps xs
place_within p x ps xs e =
    ap (λ t. cond t 0 (cond (nat_lt p x) 18446744073709551615 (place_of ps xs))) (le-ltb x p (omega (arith, e)))
    ∙ ap (λ t. cond t 18446744073709551615 (place_of ps xs)) (le-ltb p x (omega (arith, e)))

place_of-small : (ps xs : List ℕ) → AreBytes xs → place_of ps xs ≤ 18446744073709551615
place_of-small [] xs bytes = let small : number_of 8 0 xs < 18446744073709551616 = number_of-small 8 xs bytes in omega (arith, small)
place_of-small (p ∷ ps) [] bytes = omega arith
place_of-small (p ∷ ps) (x ∷ xs) bytes = go (cases_order p x) (place_of-small ps xs (behind x xs bytes))
  where
    go : (p ≡ x) ⊎ ((p < x) ⊎ (x < p)) → place_of ps xs ≤ 18446744073709551615 → place_of (p ∷ ps) (x ∷ xs) ≤ 18446744073709551615
    go (inl e) small = omega (arith, place_within p x ps xs e, small)
    go (inr (inl above)) small = omega (arith, place_above p x ps xs above)
    go (inr (inr low)) small = omega (arith, place_below p x ps xs low)

-- if the places of two texts differ, they tell the order of the texts
pub place_tells : (ps a b : List ℕ) → AreBytes a → AreBytes b → place_of ps a < place_of ps b → slice_cmp nat_cmp a b ≡ Less
place_tells [] a b p q h = number_tells 8 a b p q h
place_tells (c ∷ ps) a [] p q h = absurd (omega (arith, h))
place_tells (c ∷ ps) [] (y ∷ b) p q h = refl
place_tells (c ∷ ps) (x ∷ a) (y ∷ b) p q h = go (cases_order c x) (cases_order c y) (place_tells ps a b (behind x a p) (behind y b q))
  where
    go : (c ≡ x) ⊎ ((c < x) ⊎ (x < c)) → (c ≡ y) ⊎ ((c < y) ⊎ (y < c)) → (place_of ps a < place_of ps b → slice_cmp nat_cmp a b ≡ Less)
        → slice_cmp nat_cmp (x ∷ a) (y ∷ b) ≡ Less
    go first (inr (inr low)) later = absurd (omega (arith, h, place_below c y ps b low))
    go (inl e) (inl f) later =
        rest_decides x y a b (sym e ∙ f) (later (omega (arith, h, place_within c x ps a e, place_within c y ps b f)))
    go (inl e) (inr (inl above)) later = first_decides x y a b (omega (arith, e, above))
    go (inr (inl above)) second later = absurd (omega (arith, h, place_above c x ps a above, place_of-small (c ∷ ps) (y ∷ b) q))
    go (inr (inr low)) (inl f) later = first_decides x y a b (omega (arith, low, f))
    go (inr (inr low)) (inr (inl above)) later = first_decides x y a b (omega (arith, low, above))

-- ---- the rest of a prefix and of a text

place_rest : (ps xs : List ℕ) (i : ℕ) → i < length ps → i < length xs
    → place_of (drop i ps) (drop i xs) ≡ place_of (get_or ps i 0 ∷ drop (i + 1) ps) (get_or xs i 0 ∷ drop (i + 1) xs)
place_rest ps xs i p q = ap (λ (t : List ℕ). place_of t (drop i xs)) (drop_more ps i 0 p) ∙ ap (λ (t : List ℕ). place_of (get_or ps i 0 ∷ drop (i + 1) ps) t) (drop_more xs i 0 q)

pub text_ends : (ps xs : List ℕ) (i : ℕ) → i < length ps → length xs ≤ i → place_of (drop i ps) (drop i xs) ≡ 0
text_ends ps xs i p q = ap (λ (t : List ℕ). place_of t (drop i xs)) (drop_more ps i 0 p) ∙ ap (λ (t : List ℕ). place_of (get_or ps i 0 ∷ drop (i + 1) ps) t) (drop_all i xs q)

pub byte_below : (ps xs : List ℕ) (i : ℕ) → i < length ps → i < length xs → get_or xs i 0 < get_or ps i 0 → place_of (drop i ps) (drop i xs) ≡ 0
byte_below ps xs i p q h = place_rest ps xs i p q ∙ place_below (get_or ps i 0) (get_or xs i 0) (drop (i + 1) ps) (drop (i + 1) xs) h

pub byte_above : (ps xs : List ℕ) (i : ℕ) → i < length ps → i < length xs → get_or ps i 0 < get_or xs i 0 → place_of (drop i ps) (drop i xs) ≡ 18446744073709551615
byte_above ps xs i p q h = place_rest ps xs i p q ∙ place_above (get_or ps i 0) (get_or xs i 0) (drop (i + 1) ps) (drop (i + 1) xs) h

pub bytes_agree : (ps xs : List ℕ) (i : ℕ) → i < length ps → i < length xs → get_or ps i 0 ≡ get_or xs i 0
    → place_of (drop i ps) (drop i xs) ≡ place_of (drop (i + 1) ps) (drop (i + 1) xs)
bytes_agree ps xs i p q h = place_rest ps xs i p q ∙ place_within (get_or ps i 0) (get_or xs i 0) (drop (i + 1) ps) (drop (i + 1) xs) h

pub prefix_ends : (ps xs : List ℕ) (n : ℕ) → length ps ≤ n → place_of (drop n ps) xs ≡ number_of 8 0 xs
prefix_ends ps xs n h = ap (λ (t : List ℕ). place_of t xs) (drop_all n ps h)

-- ---- bytes of texts

bytes_take : (n : ℕ) (xs : List ℕ) → AreBytes xs → AreBytes (take n xs)
bytes_take zero [] bytes i = omega arith
bytes_take zero (x ∷ xs) bytes i = omega arith
bytes_take (suc n) [] bytes i = omega arith
bytes_take (suc n) (x ∷ xs) bytes zero = bytes 0
bytes_take (suc n) (x ∷ xs) bytes (suc i) = bytes_take n xs (behind x xs bytes) i

bytes_drop : (n : ℕ) (xs : List ℕ) → AreBytes xs → AreBytes (drop n xs)
bytes_drop n xs bytes i = omega (arith, get_or-drop n xs i 0, bytes (n + i))

pub bytes_of_text : (log : List ℕ) (caller : ℕ × ℕ) → AreBytes log → AreBytes (text_at log caller)
bytes_of_text log caller bytes = go (nat_lt caller.0 caller.1)
  where
    mark : AreBytes (63 ∷ [])
    mark zero = omega arith
    mark (suc i) = omega arith

    go : (t : Bool) → AreBytes (cond t (slice_range log caller.0 caller.1) (63 ∷ []))
    go true = bytes_take (caller.1 - caller.0) (drop caller.0 log) (bytes_drop caller.0 log bytes)
    go false = mark
