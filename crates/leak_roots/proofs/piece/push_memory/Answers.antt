-- From the lemmas of Cutting.
use Rattle.std.proofs.Common.{refl, ◌+◌, ◌*◌}
use Rattle.leak_roots.proofs.Cutting.{memory_first, memory_more}
use Rattle.leak_roots.proofs.piece.push_memory.Goals as goal

pub loop-from-init : goal.loop-from-init
loop-from-init c = memory_first _ _ _ c.requires.range

pub loop-from-preserved : goal.loop-from-preserved
loop-from-preserved c =
    memory_more c.args.range c.args.words c.args.pieces.now.items c.loop-from.pieces.items c.push.new.self.items c.loop-from.from (c.loop-from.from + 8 * c.min.result)
    c.requires.range c.requires.some c.loop-from-test.true (rw c.min.ensures refl) c.loop-from.invariant c.in_ok-push.ensures.items
