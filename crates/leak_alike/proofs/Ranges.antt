-- What holds of consecutive numbers.
use Rattle.std.proofs.Common.{ℕ, zero, suc, ◌+◌, ◌<◌, ◌≤◌, arith}
use Rattle.std.specs.List.{AllByRecursion, range_with_len}

pub range_each : (P : ℕ → Type 0) (a n : ℕ) → ((x : ℕ) → a ≤ x → x < a + n → P x) → AllByRecursion P (range_with_len a n)
range_each P a zero each = tt
range_each P a (suc n) each = (each a (omega arith) (omega arith), range_each P (a + 1) n (λ x low high. each x (omega arith) (omega arith)))
