-- The caller goes on with one worker less.
use Rattle.std.proofs.Common.{◌+◌, ◌*◌}
use Rattle.leak_pool.proofs.leading.+fn-leading_shares-of_front+leading_shares.Given as goal

abbrev pub decreases-of_front : goal.decreases-of_front
decreases-of_front g l = 2 * l.fewer.workers + 1

abbrev pub decreases-leading_shares : goal.decreases-leading_shares
decreases-leading_shares g l = 2 * l.team.now.workers
