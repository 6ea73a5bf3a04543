-- Numbers that are read digit by digit.
use Rattle.std.proofs.Common.{ℕ, ◌+◌, ◌*◌, ◌^◌, ◌<◌, ◌≤◌, arith}
use Rattle.std.proofs.Math.Nat.{pow-le-pow_right}

-- there is room for one more of 16 digits
pub digit_room : (v i : ℕ) → v < 16 ^ i → i < 16 → 16 * v + 15 < 2 ^ 64
digit_room v i h k =
    let few : i ≤ 15 = omega arith in
    let top : 16 ^ i ≤ 16 ^ 15 = pow-le-pow_right (omega arith) few in
    omega (arith, top, h)
