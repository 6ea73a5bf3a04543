-- The caller goes on with one worker less.
use Rattle.std.proofs.Common.{◌+◌, ◌*◌}
use Rattle.leak_replaying.proofs.sharing.+fn-read_parts-of_front+read_parts.Given as goal

abbrev pub decreases-of_front : goal.decreases-of_front
decreases-of_front g l = 2 * l.left + 1

abbrev pub decreases-read_parts : goal.decreases-read_parts
decreases-read_parts g l = 2 * l.count
