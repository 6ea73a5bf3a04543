-- 16 digits fit.
use Rattle.std.proofs.Common.{◌+◌, ◌*◌, ◌^◌, ◌<◌, arith}
use Rattle.leak_lemmas.proofs.Numbers.{digit_room}
use Rattle.leak_request.proofs.address.address.Goals as goal

pub overflow_mul-value : goal.overflow_mul-value
overflow_mul-value c =
    let few : c.loop-byte.byte-index < 16 = omega arith in
    let room : 16 * c.loop-byte.value + 15 < 2 ^ 64 = digit_room c.loop-byte.value c.loop-byte.byte-index c.loop-byte.invariant.small few in
    omega arith

pub overflow_add-value : goal.overflow_add-value
overflow_add-value c =
    let few : c.loop-byte.byte-index < 16 = omega arith in
    let room : 16 * c.loop-byte.value + 15 < 2 ^ 64 = digit_room c.loop-byte.value c.loop-byte.byte-index c.loop-byte.invariant.small few in
    let below : c.in_ok-digit.field-0 < 16 = c.in_ok-digit.ensures.low in
    omega arith
