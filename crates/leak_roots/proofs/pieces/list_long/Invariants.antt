-- The ranges so far were listed and counted.
use Rattle.std.proofs.Common.{◌≡◌, ◌*◌, ◌<◌, ◌^◌}
use Rattle.leak_roots.specs.Cut.{pieces_before}
use Rattle.leak_roots.specs.Numbers.{AreListed}
use Rattle.leak_roots.proofs.pieces.list_long.Given as goal

abbrev pub invariant-loop-place : goal.invariant-loop-place
invariant-loop-place l = record {
  listed : AreListed l.words l.ranges 0 l.long.items l.place;
  counted : l.count ≡ pieces_before l.words l.ranges l.place;
  few : 8 * l.count < 2 ^ 64;
}
