-- Lists of bytes.
use Rattle.std.proofs.Common.{Fits, ℕ, ◌<◌, List, get_or, arith}
use Rattle.std.specs.Int.{w8}

-- each is a byte
abbrev pub AreBytes : List ℕ → Type 0
AreBytes xs = (i : ℕ) → get_or xs i 0 < 256

pub are_bytes : (xs : List ℕ) → ((i : ℕ) → Fits w8 (get_or xs i 0)) → AreBytes xs
are_bytes xs h i = let b : Fits w8 (get_or xs i 0) = h i in omega (arith, b)
