-- Lists of bytes.
use Rattle.std.proofs.Common.{ℕ, zero, suc, List, [], ◌∷◌, ◌++◌, drop, arith}
use Rattle.leak_alike.specs.SiftedCores.{AreBytes}

pub bytes_none : AreBytes []
bytes_none i = omega arith

pub bytes_append : (xs ys : List ℕ) → AreBytes xs → AreBytes ys → AreBytes (xs ++ ys)
bytes_append [] ys first second i = second i
bytes_append (x ∷ xs) ys first second zero = first zero
bytes_append (x ∷ xs) ys first second (suc i) = bytes_append xs ys (λ j. first (suc j)) second i

pub bytes_drop : (n : ℕ) (xs : List ℕ) → AreBytes xs → AreBytes (drop n xs)
bytes_drop zero xs bytes = bytes
bytes_drop (suc n) [] bytes = bytes
bytes_drop (suc n) (x ∷ xs) bytes = bytes_drop n xs (λ i. bytes (suc i))
