-- Sums over views.
use Rattle.std.proofs.Common.{◌≡◌, ℕ, zero, suc, ◌+◌, ◌≤◌, List, [], ◌∷◌, ◌++◌, set, refl, sym, ap, arith}
use mathlib.Core.Option.{some, some-ne-none, some-injective}
use lib.ListN.{get_elem?}
use Rattle.leak_marks.specs.declared.view.View.{View}
use Rattle.leak_marks.specs.Marks.{total}

-- the sum after one view has changed
pub total_set : (f : View → ℕ) (views : List View) (j : ℕ) (v w : View) → get_elem? views j ≡ some v → total f (set views j w) + f v ≡ total f views + f w
total_set f [] j v w e = absurd (some-ne-none v (sym e))
total_set f (x ∷ xs) zero v w e = let is : f x ≡ f v = ap f (some-injective x v e) in omega arith
total_set f (x ∷ xs) (suc j) v w e = let r = total_set f xs j v w e in omega arith

pub total_snoc : (f : View → ℕ) (views : List View) (w : View) → total f (views ++ w ∷ []) ≡ total f views + f w
total_snoc f [] w = omega arith
total_snoc f (x ∷ xs) w = let r = total_snoc f xs w in omega arith

pub one_le_total : (f : View → ℕ) (views : List View) (j : ℕ) (v : View) → get_elem? views j ≡ some v → f v ≤ total f views
one_le_total f [] j v e = absurd (some-ne-none v (sym e))
one_le_total f (x ∷ xs) zero v e = let is : f x ≡ f v = ap f (some-injective x v e) in omega arith
one_le_total f (x ∷ xs) (suc j) v e = let r = one_le_total f xs j v e in omega arith

module _ (f g : View → ℕ) where
  none_left : (views : List View) → ((j : ℕ) (u : View) → get_elem? views j ≡ some u → g u ≡ 0 → f u ≡ 0) → total g views ≡ 0 → total f views ≡ 0
  none_left [] h e = refl
  none_left (x ∷ xs) h e = let here : f x ≡ 0 = h 0 x refl (omega arith) in let r : total f xs ≡ 0 = none_left xs (λ j u at. h (suc j) u at) (omega arith) in omega arith

  -- if one view has all of g, and f is 0 wherever g is, it has all of f
  pub alone : (views : List View) (j : ℕ) (v : View) → get_elem? views j ≡ some v → ((k : ℕ) (u : View) → get_elem? views k ≡ some u → g u ≡ 0 → f u ≡ 0) → total g views ≡ g v → total f views ≡ f v
  alone [] j v e h t = absurd (some-ne-none v (sym e))
  alone (x ∷ xs) zero v e h t = let is : f x ≡ f v = ap f (some-injective x v e) in let is' : g x ≡ g v = ap g (some-injective x v e) in
      let r : total f xs ≡ 0 = none_left xs (λ k u at. h (suc k) u at) (omega arith) in omega arith
  alone (x ∷ xs) (suc j) v e h t = let le : g v ≤ total g xs = one_le_total g xs j v e in let here : f x ≡ 0 = h 0 x refl (omega arith) in
      let r : total f xs ≡ f v = alone xs j v e (λ k u at. h (suc k) u at) (omega arith) in omega arith
