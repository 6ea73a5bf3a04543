-- The blocks of the start so far are seen, and nothing else was claimed.
use Rattle.std.proofs.Common.{◌≡◌, take}
use Rattle.leak_marks.specs.Lists.{Within}
use Rattle.leak_marks.specs.Seats.{IsSound}
use Rattle.leak_pool.proofs.marking_by_rounds.claim_start.Given as goal

abbrev pub invariant-loop-block : goal.invariant-loop-block
invariant-loop-block l = record {
  table : l.seat.table ≡ l.initial.seat.table;
  share : l.seat.share ≡ l.initial.seat.share;
  sound : IsSound l.seat;
  claims : Within l.seat.claims (take l.block-index l.start);
  seen : Within (take l.block-index l.start) l.seat.seen;
}
