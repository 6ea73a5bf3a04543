-- The digits that are left give the value, and say whether all are digits.
use Rattle.std.proofs.Common.{◌≡◌, ◌+◌, ◌*◌, ◌^◌, ◌<◌, drop}
use Rattle.std.specs.List.{fold, list_all}
use Rattle.leak_request.specs.Address.{is_digit, digit_value, value_of}
use Rattle.leak_request.proofs.address.address.Given as goal

abbrev pub invariant-loop-byte : goal.invariant-loop-byte
invariant-loop-byte l = record {
  value : fold (λ n d. 16 * n + digit_value d) l.value (drop l.byte-index l.digits) ≡ value_of l.digits;
  all : list_all is_digit (drop l.byte-index l.digits) ≡ list_all is_digit l.digits;
  small : l.value < 16 ^ l.byte-index;
}
