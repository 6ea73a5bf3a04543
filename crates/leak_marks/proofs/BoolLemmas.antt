-- Tests, and how they combine.
use Rattle.std.proofs.Common.{◌≡◌, ◌≢◌, ℕ, Bool, true, false, not, cond, ◌&&◌, ◌||◌, ◌⊎◌, inl, inr, refl, sym, subst, ◌∙◌, true≢false, eqb→eq, ◌==◌, T, List, ◌++◌}
use Rattle.std.specs.Bool.{passes}
use Rattle.std.proofs.Math.Facts.{yes_eqb}
use Rattle.std.proofs.lemmas.List.Folds.{list_any-append}
use Rattle.leak_marks.specs.Lists.{has}

pub or_cases : (x y : Bool) → (x || y) ≡ true → (x ≡ true) ⊎ (y ≡ true)
or_cases true y h = inl refl
or_cases false y h = inr h

pub same_number : (m n : ℕ) → (m == n) ≡ true → m ≡ n
same_number m n h = eqb→eq m n (passes _ h)

pub true_of_T : (b : Bool) → T b → b ≡ true
true_of_T true t = refl
true_of_T false t = elim t [ ]

pub equal_itself : (m n : ℕ) → m ≡ n → (m == n) ≡ true
equal_itself m n e = true_of_T _ (yes_eqb e)

pub other_number : (m n : ℕ) → (m == n) ≡ false → n ≢ m
other_number m n h e = true≢false (sym (equal_itself m n (sym e)) ∙ h)

pub has-append : (xs ys : List ℕ) (b : ℕ) → has (xs ++ ys) b ≡ (has xs b || has ys b)
has-append xs ys b = list_any-append (λ c. c == b) xs ys

-- x before y, if z is between
pub or_between : (x y z : Bool) → ((x || z) || y) ≡ ((x || y) || z)
or_between true y z = refl
or_between false true true = refl
or_between false true false = refl
or_between false false true = refl
or_between false false false = refl

combine_same : (h c v f : Bool) → ((h || (not c && (v && true))) || (not (c || true) && f)) ≡ (h || (not c && v))
combine_same true c v f = refl
combine_same false true v f = refl
combine_same false false true f = refl
combine_same false false false f = refl

combine_other : (h c v o f : Bool) → ((h || (not c && (v && false))) || (not (o || false) && f)) ≡ (h || (not o && f))
combine_other true c v o f = refl
combine_other false true v true f = refl
combine_other false true v false f = refl
combine_other false false true true f = refl
combine_other false false true false f = refl
combine_other false false false true f = refl
combine_other false false false false f = refl

-- an attempt and the rest of the run, as tests: e says that the attempt is at the block that is asked about
pub combine : (h c v e o f : Bool) → (e ≡ true → o ≡ c) → ((h || (not c && (v && e))) || (not (o || e) && f)) ≡ (h || (not o && cond e v f))
combine h c v true o f s = subst (λ (x : Bool). ((h || (not c && (v && true))) || (not (x || true) && f)) ≡ (h || (not x && v))) (sym (s refl)) (combine_same h c v f)
combine h c v false o f s = combine_other h c v o f
