-- Each call has fewer workers.
use Rattle.std.proofs.Common.{◌+◌, ◌-◌, ◌*◌}
use Rattle.leak_pool.proofs.sharing.+fn-scan_shares-join+arg2+fn-scan_shares-join+arg3+scan_shares.Given as goal

abbrev pub decreases-scan_shares : goal.decreases-scan_shares
decreases-scan_shares g l = 2 * (l.high - l.low)

abbrev pub decreases-join+arg2 : goal.decreases-join+arg2
decreases-join+arg2 g l = 2 * (l.high - l.middle) + 1

abbrev pub decreases-join+arg3 : goal.decreases-join+arg3
decreases-join+arg3 g l = 2 * (l.middle - l.low) + 1
