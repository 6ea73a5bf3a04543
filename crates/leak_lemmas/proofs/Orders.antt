-- Orders of two things, and of numbers.
use Rattle.std.proofs.Common.{◌≡◌, ℕ, ◌<◌, Bool, true, false, cond, refl, ap}
use Rattle.std.specs.Prelude.{◌==◌}
use Rattle.std.specs.declared.cmp.Ordering.{Ordering}
use Rattle.std.specs.declared.cmp.Ordering.TheVariants.{Less, Equal, Greater}
use Rattle.std.specs.Ordering.{is_lt, nat_cmp, ordering_then}
use Rattle.std.proofs.lemmas.Bool.{lt-ltb}

pub not_first : (o : Ordering) → is_lt o ≡ false → (o ≡ Equal → ⊥) → o ≡ Greater
not_first Less e ne = cc
not_first Equal e ne = absurd (ne refl)
not_first Greater e ne = refl

pub first : (o : Ordering) → is_lt o ≡ true → o ≡ Less
first Less e = refl
first Equal e = cc
first Greater e = cc

pub second_tied : (a b : Ordering) → ordering_then a b ≡ Equal → b ≡ Equal
second_tied Less b e = cc
second_tied Equal b e = e
second_tied Greater b e = cc

pub nat_less : (m n : ℕ) → m < n → nat_cmp m n ≡ Less
nat_less m n lt = ap (λ (b : Bool). cond b Less (cond (m == n) Equal Greater)) (lt-ltb m n lt)
