-- Sums by text: if texts differ, what has a text counts under one of them.
use Rattle.std.proofs.Common.{◌≡◌, ℕ, ◌+◌, inl, inr, Bool, true, false, cond, List, [], ◌∷◌, length, map, filter, sum_by, bytes_eq, refl, sym, ap, subst, ◌∙◌, arith}
use Rattle.std.specs.Prelude.{⊤}
use Rattle.std.specs.List.{AllByRecursion}
use Rattle.std.proofs.lemmas.Bool.{false_from_ne_true}
use Rattle.std.proofs.lemmas.List.Sums.{sum_by-cons}
use Rattle.std.proofs.lemmas.Slice.Eq.{bytes_eq-Decides}
use Rattle.leak_lemmas.proofs.Sums.{sum_same}
use Rattle.leak_lemmas.proofs.Members.{Has, each_has, each_implied}

-- the texts differ from one another
abbrev pub AreApart : List (List ℕ) → Type 0
AreApart [] = ⊤
AreApart (t ∷ ts) = AllByRecursion (λ u. bytes_eq t u ≡ false) ts × AreApart ts

-- the same of elements of which something is known
pub sum_same_of : {X : Type 0} (P : X → Type 0) (f g : X → ℕ) → ((x : X) → P x → f x ≡ g x) → (xs : List X) → AllByRecursion P xs → sum_by f xs ≡ sum_by g xs
sum_same_of P f g same [] all = refl
sum_same_of P f g same (x ∷ xs) all = omega (arith, sum_by-cons f x xs, sum_by-cons g x xs, same x all.0, sum_same_of P f g same xs all.1)

pub sum_both : {X : Type 0} (f g : X → ℕ) (xs : List X) → sum_by (λ x. f x + g x) xs ≡ sum_by f xs + sum_by g xs
sum_both f g [] = refl
sum_both f g (x ∷ xs) = omega (arith, sum_by-cons (λ y. f y + g y) x xs, sum_by-cons f x xs, sum_by-cons g x xs, sum_both f g xs)

sum_zero : {X : Type 0} (f : X → ℕ) (xs : List X) → AllByRecursion (λ x. f x ≡ 0) xs → sum_by f xs ≡ 0
sum_zero f [] all = refl
sum_zero f (x ∷ xs) all = omega (arith, sum_by-cons f x xs, all.0, sum_zero f xs all.1)

pub sum_map : {X Y : Type 0} (g : X → Y) (f : Y → ℕ) (xs : List X) → sum_by f (map g xs) ≡ sum_by (λ x. f (g x)) xs
sum_map g f [] = refl
sum_map g f (x ∷ xs) = omega (arith, sum_by-cons f (g x) (map g xs), sum_by-cons (λ y. f (g y)) x xs, sum_map g f xs)

pub length_sum : {X : Type 0} (xs : List X) → length xs ≡ sum_by (λ x. 1) xs
length_sum [] = refl
length_sum {X} (x ∷ xs) = omega (arith, sum_by-cons (λ (y : X). 1) x xs, length_sum xs)

-- ---- one text

is_same : (k t : List ℕ) → k ≡ t → bytes_eq k t ≡ true
is_same k t e = (bytes_eq-Decides k t).1 e

is_other : (k t : List ℕ) → bytes_eq t k ≡ false → bytes_eq k t ≡ false
is_other k t differ = false_from_ne_true (bytes_eq k t) (λ yes. let e : k ≡ t = (bytes_eq-Decides k t).0 yes in let f : bytes_eq t k ≡ true = is_same t k (sym e) in absurd (cc))

none_counts : (k : List ℕ) (v : ℕ) (ts : List (List ℕ)) → AllByRecursion (λ u. bytes_eq k u ≡ false) ts → sum_by (λ t. cond (bytes_eq k t) v 0) ts ≡ 0
none_counts k v ts all = sum_zero (λ t. cond (bytes_eq k t) v 0) ts (each_implied (λ u. bytes_eq k u ≡ false) (λ u. cond (bytes_eq k u) v 0 ≡ 0) (λ u differ. ap (λ (b : Bool). cond b v 0) differ) ts all)

once_counts : (k : List ℕ) (v : ℕ) (ts : List (List ℕ)) → AreApart ts → Has ts k → sum_by (λ t. cond (bytes_eq k t) v 0) ts ≡ v
once_counts k v [] apart has = absurd has
once_counts k v (t ∷ ts) apart (inl e) =
    let here : cond (bytes_eq k t) v 0 ≡ v = ap (λ (b : Bool). cond b v 0) (is_same k t (sym e)) in
    let rest = none_counts k v ts (subst (λ (u : List ℕ). AllByRecursion (λ s. bytes_eq u s ≡ false) ts) e apart.0) in
    omega (arith, sum_by-cons (λ s. cond (bytes_eq k s) v 0) t ts, here, rest)
once_counts k v (t ∷ ts) apart (inr has) =
    let differ : bytes_eq t k ≡ false = each_has (λ u. bytes_eq t u ≡ false) ts k apart.0 has in
    let here : cond (bytes_eq k t) v 0 ≡ 0 = ap (λ (b : Bool). cond b v 0) (is_other k t differ) in
    omega (arith, sum_by-cons (λ s. cond (bytes_eq k s) v 0) t ts, here, once_counts k v ts apart.1 has)

-- ---- all texts that pass

-- what has the text
abbrev pub of_text : {X : Type 0} → (X → List ℕ) → List ℕ → List X → List X
of_text key t xs = filter (λ x. bytes_eq (key x) t) xs

one_more : {X : Type 0} (w : X → ℕ) (x : X) (xs : List X) (b : Bool) → sum_by w (cond b (x ∷ xs) xs) ≡ cond b (w x) 0 + sum_by w xs
one_more w x xs true = sum_by-cons w x xs
one_more w x xs false = omega arith

nothing : (ts : List (List ℕ)) → sum_by (λ t. 0) ts ≡ 0
nothing [] = refl
nothing (t ∷ ts) = omega (arith, sum_by-cons (λ (u : List ℕ). 0) t ts, nothing ts)

-- the sums by texts that pass add up to the sum of what has such a text
pub sum_texts : {X : Type 0} (key : X → List ℕ) (w : X → ℕ) (passes : List ℕ → Bool) (ts : List (List ℕ)) (xs : List X) → AreApart ts
    → AllByRecursion (λ t. passes t ≡ true) ts → AllByRecursion (λ x. passes (key x) ≡ true → Has ts (key x)) xs
    → sum_by (λ t. sum_by w (of_text key t xs)) ts ≡ sum_by w (filter (λ x. passes (key x)) xs)
sum_texts key w passes ts [] apart pass all = nothing ts
sum_texts {X} key w passes ts (x ∷ xs) apart pass all =
    let more = sum_same (λ t. sum_by w (of_text key t (x ∷ xs))) (λ t. cond (bytes_eq (key x) t) (w x) 0 + sum_by w (of_text key t xs)) (λ t. one_more w x (of_text key t xs) (bytes_eq (key x) t)) ts in
    let split = sum_both (λ t. cond (bytes_eq (key x) t) (w x) 0) (λ t. sum_by w (of_text key t xs)) ts in
    let one = go (passes (key x)) refl in
    let right = one_more w x (filter (λ y. passes (key y)) xs) (passes (key x)) in
    omega (arith, more, split, one, right, sum_texts key w passes ts xs apart pass all.1)
  where
    go : (b : Bool) → passes (key x) ≡ b → sum_by (λ t. cond (bytes_eq (key x) t) (w x) 0) ts ≡ cond b (w x) 0
    go true is = once_counts (key x) (w x) ts apart (all.0 is)
    go false is =
        none_counts (key x) (w x) ts
        (each_implied (λ t. passes t ≡ true) (λ t. bytes_eq (key x) t ≡ false)
        (λ t yes. false_from_ne_true (bytes_eq (key x) t) (λ same. let e : key x ≡ t = (bytes_eq-Decides (key x) t).0 same in let f : passes (key x) ≡ true = ap passes e ∙ yes in absurd (cc))) ts pass)
