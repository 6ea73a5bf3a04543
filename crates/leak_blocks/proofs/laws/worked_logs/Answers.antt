-- Each log is computed.
use Rattle.std.proofs.Common.{refl}
use Rattle.leak_blocks.specs.Live.{live_of, replay_of}
use Rattle.leak_blocks.proofs.laws.worked_logs.Goals as goal

pub returns : goal.returns
unfolding live_of replay_of
returns c = record {
  side_by_side = refl;
  empty_twice = refl;
  over_both = refl;
  freed_twice = refl;
  moved = refl;
  failed = refl;
  displaced = refl;
  by_address = refl;
}
