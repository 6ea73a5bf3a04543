-- The caller goes on with one share less.
use Rattle.std.proofs.Common.{◌+◌, ◌*◌}
use Rattle.leak_chunks.proofs.threads.+count_by_shares+fn-count_by_shares-of_front.Given as goal

abbrev pub decreases-count_by_shares : goal.decreases-count_by_shares
decreases-count_by_shares g l = 2 * l.shares

abbrev pub decreases-of_front : goal.decreases-of_front
decreases-of_front g l = 2 * l.left + 1
