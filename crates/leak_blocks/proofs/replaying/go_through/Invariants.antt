-- The reader and the replay have come equally far.
use Rattle.std.proofs.Common.{◌≡◌, ◌+◌, ◌-◌, cond, length}
use Rattle.leak_blocks.proofs.ReadLemmas.{HaveReadStage}
use Rattle.leak_blocks.proofs.replaying.go_through.Given as goal

abbrev pub invariant-loop-more : goal.invariant-loop-more
invariant-loop-more l = HaveReadStage l.more l.reader l.stage × (l.reader.bytes ≡ l.bytes)

abbrev pub decreases-loop-more : goal.decreases-loop-more
decreases-loop-more l = cond l.more (1 + (length l.bytes - l.reader.count)) 0
