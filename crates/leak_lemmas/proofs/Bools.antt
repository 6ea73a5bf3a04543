-- What is true, and what is not.
use Rattle.std.proofs.Common.{◌≡◌, Bool, true, false, ◌&&◌, not, refl}

pub and_left : (x y : Bool) → (x && y) ≡ true → x ≡ true
and_left true y e = refl
and_left false y e = e

pub and_right : (x y : Bool) → (x && y) ≡ true → y ≡ true
and_right true y e = e
and_right false y e = absurd (let f : false ≡ true = e in cc)

pub not_true : (t : Bool) → not t ≡ true → t ≡ true → ⊥
not_true true e h = let x : false ≡ true = e in cc
not_true false e h = let x : false ≡ true = h in cc

pub flipped : (b : Bool) → not b ≡ true → b ≡ false
flipped true e = absurd (cc)
flipped false e = refl
