-- Elements of lists, by recursion, and that a list in strict order is given by its elements.
use Rattle.std.proofs.Common.{◌≡◌, ℕ, ◌<◌, suc, zero, Bool, true, false, cond, List, [], ◌∷◌, ◌++◌, length, get_or, map, filter, Some, ◌⊎◌, inl, inr, refl, sym, ap, subst, ◌∙◌, arith}
use Rattle.std.specs.Prelude.{slice_get}
use Rattle.std.specs.List.{AllByRecursion, All, Contains}
use Rattle.std.specs.List.Sorted.{IsStrictlySortedBy, IsPermutation}
use Rattle.std.specs.Cmp.{IsTotalOrder}
use Rattle.std.specs.declared.cmp.Ordering.{Ordering}
use Rattle.std.specs.declared.cmp.Ordering.TheVariants.{Less, Equal, Greater}
use Rattle.std.specs.Ordering.{ordering_reverse}
use Rattle.std.proofs.lemmas.Cmp.{tied_itself}
use Rattle.std.proofs.lemmas.Map.Keys.{sorted_head, sorted_tail}
use Rattle.std.proofs.lemmas.List.Sorted.{All-permutation, Contains-permutation}

-- x is an element
abbrev pub Has : {X : Type 0} → List X → X → Type 0
Has [] x = ⊥
Has (y ∷ ys) x = (y ≡ x) ⊎ Has ys x

pub each_has : {X : Type 0} (P : X → Type 0) (xs : List X) (x : X) → AllByRecursion P xs → Has xs x → P x
each_has P [] x all has = absurd has
each_has P (y ∷ ys) x all (inl e) = subst P e all.0
each_has P (y ∷ ys) x all (inr has) = each_has P ys x all.1 has

pub each_implied : {X : Type 0} (P Q : X → Type 0) → ((x : X) → P x → Q x) → (xs : List X) → AllByRecursion P xs → AllByRecursion Q xs
each_implied P Q f [] all = tt
each_implied P Q f (x ∷ xs) all = (f x all.0, each_implied P Q f xs all.1)

pub each_itself : {X : Type 0} (xs : List X) → AllByRecursion (Has xs) xs
each_itself [] = tt
each_itself (x ∷ xs) = (inl refl, each_implied (Has xs) (Has (x ∷ xs)) (λ y h. inr h) xs (each_itself xs))

pub each_mapped : {X Y : Type 0} (f : X → Y) (P : Y → Type 0) (xs : List X) → AllByRecursion (λ x. P (f x)) xs → AllByRecursion P (map f xs)
each_mapped f P [] all = tt
each_mapped f P (x ∷ xs) all = (all.0, each_mapped f P xs all.1)

pub Has-map : {X Y : Type 0} (f : X → Y) (xs : List X) (x : X) → Has xs x → Has (map f xs) (f x)
Has-map f [] x has = has
Has-map f (y ∷ ys) x (inl e) = inl (ap f e)
Has-map f (y ∷ ys) x (inr has) = inr (Has-map f ys x has)

-- one after the other
pub each_append : {X : Type 0} (P : X → Type 0) (xs ys : List X) → AllByRecursion P xs → AllByRecursion P ys → AllByRecursion P (xs ++ ys)
each_append P [] ys p q = q
each_append P (x ∷ xs) ys p q = (p.0, each_append P xs ys p.1 q)

pub each_push : {X : Type 0} (P : X → Type 0) (xs : List X) (x : X) → AllByRecursion P xs → P x → AllByRecursion P (xs ++ x ∷ [])
each_push P [] x all here = (here, tt)
each_push P (y ∷ xs) x all here = (all.0, each_push P xs x all.1 here)

-- what passes a test
pub each_filtered : {X : Type 0} (p : X → Bool) (P : X → Type 0) (xs : List X) → AllByRecursion P xs → AllByRecursion (λ x. P x × (p x ≡ true)) (filter p xs)
each_filtered p P [] all = tt
each_filtered {X} p P (x ∷ xs) all = go (p x) refl (each_filtered p P xs all.1)
  where
    go : (t : Bool) → p x ≡ t → AllByRecursion (λ x. P x × (p x ≡ true)) (filter p xs) → AllByRecursion (λ x. P x × (p x ≡ true)) (cond t (x ∷ filter p xs) (filter p xs))
    go true e rest = ((all.0, e), rest)
    go false e rest = rest

pub Has-filter : {X : Type 0} (p : X → Bool) (xs : List X) (x : X) → Has xs x → p x ≡ true → Has (filter p xs) x
Has-filter p [] x has passes = has
Has-filter {X} p (y ∷ ys) x (inl e) passes =
    let first : p y ≡ true = ap p e ∙ passes in
    let P : Bool → Type 0 = λ t. Has (cond t (y ∷ filter p ys) (filter p ys)) x in
    subst P (sym first) (inl e)
Has-filter {X} p (y ∷ ys) x (inr has) passes =
    elim (p y) as (λ t. Has (cond t (y ∷ filter p ys) (filter p ys)) x) [ true ↦ inr (Has-filter p ys x has passes) | false ↦ Has-filter p ys x has passes ]

-- by places
pub each_from_All : {X : Type 0} (P : X → Type 0) (xs : List X) → All P xs → AllByRecursion P xs
each_from_All P [] all = tt
each_from_All P (x ∷ xs) all = (all 0 x (omega arith), each_from_All P xs (λ k d h. all (suc k) d (omega arith)))

pub All-from_each : {X : Type 0} (P : X → Type 0) (xs : List X) → AllByRecursion P xs → All P xs
All-from_each P [] all k d h = absurd (omega arith)
All-from_each P (x ∷ xs) all zero d h = all.0
All-from_each P (x ∷ xs) all (suc k) d h = All-from_each P xs all.1 k d (omega arith)

-- the element at a place
pub each_at : {X : Type 0} (P : X → Type 0) (xs : List X) (n : ℕ) (x : X) → AllByRecursion P xs → slice_get xs n ≡ Some x → P x
each_at P [] n x all e = cc
each_at P (y ∷ ys) zero x all e = let same : y ≡ x = cc in subst P same all.0
each_at P (y ∷ ys) (suc n) x all e = each_at P ys n x all.1 e

pub each_moved : {X : Type 0} (P : X → Type 0) (xs ys : List X) → IsPermutation xs ys → AllByRecursion P xs → AllByRecursion P ys
each_moved P xs ys moved all = each_from_All P ys (All-permutation P xs ys moved (All-from_each P xs all))

pub Has-get : {X : Type 0} (xs : List X) (k : ℕ) (d : X) → k < length xs → Has xs (get_or xs k d)
Has-get [] k d h = absurd (omega arith)
Has-get (x ∷ xs) zero d h = inl refl
Has-get (x ∷ xs) (suc k) d h = inr (Has-get xs k d (omega arith))

pub get_Has : {X : Type 0} (xs : List X) (x : X) → Has xs x → Contains xs x
get_Has [] x has = absurd has
get_Has (y ∷ ys) x (inl e) = (0, omega arith, e)
get_Has (y ∷ ys) x (inr has) = let at = get_Has ys x has in (suc at.0, omega (arith, at.1), at.2)

pub Has-moved : {X : Type 0} (xs ys : List X) (x : X) → IsPermutation xs ys → Has xs x → Has ys x
Has-moved xs ys x moved has =
    let at : Contains ys x = Contains-permutation xs ys x moved (get_Has xs x has) in
    subst (λ y. Has ys y) at.2 (Has-get ys at.0 x at.1)

-- the first of one list is the first of the other
heads : {X : Type 0} (R : X → X → Ordering) (o : IsTotalOrder R) (x y : X) (xs ys : List X) → AllByRecursion (λ z. R x z ≡ Less) xs
    → AllByRecursion (λ z. R y z ≡ Less) ys → (y ≡ x) ⊎ Has ys x → (x ≡ y) ⊎ Has xs y → x ≡ y
heads R o x y xs ys above below (inl e) back = sym e
heads R o x y xs ys above below (inr has) (inl e) = e
heads R o x y xs ys above below (inr has) (inr back) =
    let up : R x y ≡ Less = each_has (λ z. R x z ≡ Less) xs y above back in
    let down : R y x ≡ Less = each_has (λ z. R y z ≡ Less) ys x below has in
    let turned : R x y ≡ Greater = o.antisymm x y ∙ ap ordering_reverse down in
    cc

-- without the first, which is below the others
strip : {X : Type 0} (R : X → X → Ordering) (o : IsTotalOrder R) (x : X) (xs ys : List X) → AllByRecursion (λ z. R x z ≡ Less) xs
    → AllByRecursion (Has (x ∷ ys)) xs → AllByRecursion (Has ys) xs
strip R o x [] ys above all = tt
strip {X} R o x (z ∷ xs) ys above all = (other all.0, strip R o x xs ys above.1 all.1)
  where
    other : (x ≡ z) ⊎ Has ys z → Has ys z
    other (inl e) =
        let itself : R x x ≡ Less = ap (R x) e ∙ above.0 in
        let tied : R x x ≡ Equal = tied_itself o x in
        absurd (cc)
    other (inr has) = has

pub same_elements : {X : Type 0} (R : X → X → Ordering) (o : IsTotalOrder R) (xs ys : List X) → IsStrictlySortedBy R xs → IsStrictlySortedBy R ys
    → AllByRecursion (Has ys) xs → AllByRecursion (Has xs) ys → xs ≡ ys
same_elements R o [] [] up down to from = refl
same_elements R o [] (y ∷ ys) up down to from = absurd from.0
same_elements R o (x ∷ xs) [] up down to from = absurd to.0
same_elements {X} R o (x ∷ xs) (y ∷ ys) up down to from =
    let e : x ≡ y = heads R o x y xs ys (sorted_head R x xs up) (sorted_head R y ys down) to.0 from.0 in
    let P : X → Type 0 = λ w. IsStrictlySortedBy R (w ∷ ys) → AllByRecursion (Has (w ∷ ys)) xs → AllByRecursion (Has (x ∷ xs)) ys → x ∷ xs ≡ w ∷ ys in
    let at : P x = λ down to from. ap (λ l. x ∷ l) (same_elements R o xs ys (sorted_tail R x xs up) (sorted_tail R x ys down)
    (strip R o x xs ys (sorted_head R x xs up) to) (strip R o x ys xs (sorted_head R x ys down) from)) in
    subst P e at down to.1 from.1
