-- Digits and their values.
use Rattle.std.proofs.Common.{ℕ, ◌<◌, arith, IsTrue}
use Rattle.std.proofs.lemmas.Bool.Decides.{nat_tests}
use Rattle.leak_mtrace.specs.Number.{is_digit, digit_value}

-- a digit is below 16
pub digit_below : (b : ℕ) → IsTrue (is_digit b) → digit_value b < 16
digit_below b h = grind (arith, nat_tests)
