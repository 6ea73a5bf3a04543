-- Each is computed.
use Rattle.std.proofs.Common.{refl}
use Rattle.leak_blocks.specs.Live.{live_of}
use Rattle.leak_scan.specs.Targets.{block_words_on}
use Rattle.leak_later.specs.Differing.{differs, reread_of}
use Rattle.leak_later.specs.Kept.{kept_of, fresh_of, absent_of}
use Rattle.leak_later.proofs.laws.worked_cores.Goals as goal

pub returns : goal.returns
unfolding live_of block_words_on differs reread_of kept_of fresh_of absent_of
returns c = record {
  kept_none = refl;
  fresh_first = refl;
  absent_first = refl;
  kept_all = refl;
  fresh_none = refl;
  absent_none = refl;
  changed = refl;
  other_page = refl;
  same = refl;
  none_readable = refl;
  new_page = refl;
  reread = refl;
}
