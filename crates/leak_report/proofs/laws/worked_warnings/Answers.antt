-- Each text is computed.
use Rattle.std.proofs.Common.{refl}
use Rattle.std.specs.Fmt.{digits}
use Rattle.leak_report.specs.Warnings.{warnings_of}
use Rattle.leak_report.proofs.laws.worked_warnings.Goals as goal

pub returns : goal.returns
unfolding digits warnings_of
returns c = record { nothing_odd = refl; no_block = refl; no_chunks = refl; in_order = refl; two_inputs = refl; second_alone = refl }
