-- Each row is computed, except the lines of its logs.
use Rattle.std.proofs.Common.{refl, []}
use Rattle.std.specs.Fmt.{digits}
use Rattle.leak_blocks.specs.Live.{live_of, replay_of}
use Rattle.leak_growth.specs.Report.{growths_of, report_of}
use Rattle.leak_examples.proofs.GrowthLogs.{both_is, both_lines, first_is, first_lines, less_is, less_lines, longer_is, longer_lines, more_is, more_lines, ranked_is, ranked_lines, replaced_is, replaced_lines, shorter_is, shorter_lines}
use Rattle.leak_examples.proofs.GrowthTests.{have_grown}
use Rattle.leak_examples.proofs.growth.worked_growths.Goals as goal

pub returns : goal.returns
unfolding digits live_of replay_of growths_of report_of
returns c = record {
  more = have_grown _ _ first_lines more_lines _ _ _ _ first_is more_is refl refl refl refl refl refl;
  same = have_grown _ _ first_lines first_lines [] _ _ _ first_is first_is refl refl refl refl refl refl;
  less = have_grown _ _ first_lines less_lines _ _ _ _ first_is less_is refl refl refl refl refl refl;
  replaced = have_grown _ _ first_lines replaced_lines _ _ _ _ first_is replaced_is refl refl refl refl refl refl;
  ranked = have_grown _ _ both_lines ranked_lines _ _ _ _ both_is ranked_is refl refl refl refl refl refl;
  no_prefix = ((longer_lines, longer_is), (shorter_lines, shorter_is), refl);
}
