-- Lists that are told by what they hold.
use Rattle.std.proofs.Common.{◌≡◌, ℕ, suc, ◌+◌, ◌<◌, ⊎_elim, Bool, true, false, List, [], ◌∷◌, length, Some, slice_get, refl, sym, ap, subst, arith}
use Rattle.std.specs.Prelude.{slice_index}
use Rattle.std.specs.List.Sorted.{IsStrictlyIncreasing}
use Rattle.leak_marks.specs.Lists.{Has}
use Rattle.leak_marks.proofs.ListLemmas.{none_has, here, there, at_head}

-- tests of as many places that are true at the same ones
pub bools_are_one : (xs ys : List Bool) → length xs ≡ length ys
    → ((i : ℕ) → i < length xs → slice_get xs i ≡ Some true → slice_get ys i ≡ Some true) → ((i : ℕ) → i < length xs → slice_get ys i ≡ Some true → slice_get xs i ≡ Some true) → xs ≡ ys
bools_are_one [] [] n to from = refl
bools_are_one [] (y ∷ ys) n to from = absurd (omega (arith, n))
bools_are_one (x ∷ xs) [] n to from = absurd (omega (arith, n))
bools_are_one (x ∷ xs) (y ∷ ys) n to from =
    let first : x ≡ y = go x y (λ e. let f = to 0 (omega arith) (ap (λ (b : Bool). Some b) e) in cc) (λ e. let f = from 0 (omega arith) (ap (λ (b : Bool). Some b) e) in cc) in
    let rest : xs ≡ ys = bools_are_one xs ys (omega (arith, n)) (λ i l e. to (suc i) (omega arith) e) (λ i l e. from (suc i) (omega arith) e) in
    cc
  where
    go : (a b : Bool) → (a ≡ true → b ≡ true) → (b ≡ true → a ≡ true) → a ≡ b
    go true b f g = sym (f refl)
    go false true f g = g refl
    go false false f g = refl

rest_ascends : (x : ℕ) (xs : List ℕ) → IsStrictlyIncreasing (x ∷ xs) → IsStrictlyIncreasing xs
rest_ascends x xs up k low =
    let e : suc k + 1 ≡ suc (k + 1) = omega arith in
    subst (λ (m : ℕ). slice_index xs k < slice_index (x ∷ xs) m) e (up (suc k) (omega arith))

first_below : (x : ℕ) (xs : List ℕ) → IsStrictlyIncreasing (x ∷ xs) → (z : ℕ) → Has xs z → x < z
first_below x [] up z has = absurd (none_has z has)
first_below x (w ∷ ws) up z has =
    let low : x < w = up 0 (omega arith) in
    ⊎_elim (λ (e : w ≡ z). omega (arith, low, e)) (λ (h : Has ws z). omega (arith, low, first_below w ws (rest_ascends x (w ∷ ws) up) z h)) (at_head w ws z has)

-- ascending lists of the same numbers
pub ascending_are_one : (xs ys : List ℕ) → IsStrictlyIncreasing xs → IsStrictlyIncreasing ys → ((z : ℕ) → Has xs z → Has ys z) → ((z : ℕ) → Has ys z → Has xs z) → xs ≡ ys
ascending_are_one [] [] up vp to from = refl
ascending_are_one [] (y ∷ ys) up vp to from = absurd (none_has y (from y (here y ys)))
ascending_are_one (x ∷ xs) [] up vp to from = absurd (none_has x (to x (here x xs)))
ascending_are_one (x ∷ xs) (y ∷ ys) up vp to from =
    let first : x ≡ y = same in
    let rest : xs ≡ ys = ascending_are_one xs ys (rest_ascends x xs up) (rest_ascends y ys vp) (later x y xs ys same up to) (later y x ys xs (sym same) vp from) in
    cc
  where
    same : x ≡ y
    same =
        ⊎_elim (λ (e : y ≡ x). sym e)
        (λ (h : Has ys x). ⊎_elim (λ (e : x ≡ y). e) (λ (g : Has xs y). absurd (let l : y < x = first_below y ys vp x h in let m : x < y = first_below x xs up y g in omega arith)) (at_head x xs y (from y (here y ys))))
        (at_head y ys x (to x (here x xs)))

    later : (a b : ℕ) (left right : List ℕ) → a ≡ b → IsStrictlyIncreasing (a ∷ left) → ((z : ℕ) → Has (a ∷ left) z → Has (b ∷ right) z) → (z : ℕ) → Has left z → Has right z
    later a b left right e up to z has =
        ⊎_elim (λ (f : b ≡ z). absurd (let l : a < z = first_below a left up z has in omega arith)) (λ (h : Has right z). h) (at_head b right z (to z (there a left z has)))
