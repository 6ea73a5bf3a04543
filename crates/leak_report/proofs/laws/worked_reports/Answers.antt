-- Each report is computed.
use Rattle.std.proofs.Common.{refl}
use Rattle.std.specs.Fmt.{digits}
use Rattle.leak_report.specs.Totals.{rows_of}
use Rattle.leak_report.specs.Report.{text_of}
use Rattle.leak_report.proofs.laws.worked_reports.Goals as goal

pub returns : goal.returns
unfolding digits rows_of text_of
returns c = record { nothing = refl; leaked = refl; marked = refl; counts = refl; two = refl; freed = refl; dead = refl; only_dead = refl; callers = refl; neighbors = refl; ring = refl; empty_block = refl; half_held = refl; chain = refl; all_fit = refl; misfits = refl }
