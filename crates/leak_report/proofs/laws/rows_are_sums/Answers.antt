-- From the lemmas of Sums.
use Rattle.std.proofs.Common.{sym, subst}
use Rattle.leak_report.specs.Laws.{AreSums}
use Rattle.leak_report.proofs.Sums.{one_list, rows_sum_up}
use Rattle.leak_report.proofs.laws.rows_are_sums.Goals as goal

pub returns : goal.returns
returns c = λ log leaks rows. (one_list log leaks rows, λ e. subst (AreSums log leaks) (sym e) (rows_sum_up log leaks))
