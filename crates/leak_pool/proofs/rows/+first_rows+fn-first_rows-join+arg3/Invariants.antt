-- Each call lists one row less.
use Rattle.std.proofs.Common.{◌+◌, ◌*◌}
use Rattle.leak_pool.proofs.rows.+first_rows+fn-first_rows-join+arg3.Given as goal

abbrev pub decreases-first_rows : goal.decreases-first_rows
decreases-first_rows g l = 2 * l.shape.count

abbrev pub decreases-join+arg3 : goal.decreases-join+arg3
decreases-join+arg3 g l = 2 * l.before.count + 1
