-- The caller goes on with one sifter less.
use Rattle.std.proofs.Common.{◌+◌, ◌*◌}
use Rattle.leak_sift.proofs.threads.+fn-sift_parts-of_front+sift_parts.Given as goal

abbrev pub decreases-of_front : goal.decreases-of_front
decreases-of_front g l = 2 * l.left + 1

abbrev pub decreases-sift_parts : goal.decreases-sift_parts
decreases-sift_parts g l = 2 * l.count
