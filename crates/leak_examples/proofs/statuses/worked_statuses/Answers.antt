-- Each row is computed.
use Rattle.std.proofs.Common.{refl}
use Rattle.std.specs.Fmt.{digits}
use Rattle.leak_report.specs.Warnings.{warnings_of}
use Rattle.leak_examples.proofs.statuses.worked_statuses.Goals as goal

pub returns : goal.returns
unfolding digits warnings_of
returns c = record {
  none = refl;
  some = refl;
  many = refl;
  strict = refl;
  strict_leaks = refl;
  warned = refl;
  warned_leaks = refl;
  strict_warned = refl;
  strict_warned_leaks = refl;
  fits = refl;
  misfit = refl;
  misfit_of_other_heap = refl;
  held = refl;
  held_in_an_odd_core = refl;
  lost_in_an_odd_core = refl;
  lost = refl;
}
