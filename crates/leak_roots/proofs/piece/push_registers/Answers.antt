-- From the lemmas of Cutting.
use Rattle.std.proofs.Common.{refl, ◌+◌, length}
use Rattle.leak_roots.proofs.Cutting.{registers_first, registers_more}
use Rattle.leak_roots.proofs.piece.push_registers.Goals as goal

pub loop-from-init : goal.loop-from-init
loop-from-init c = registers_first _ _ _

pub loop-from-preserved : goal.loop-from-preserved
loop-from-preserved c =
    registers_more (length c.args.registers.now) c.args.words c.args.pieces.now.items c.loop-from.pieces.items c.push.new.self.items c.loop-from.from (c.loop-from.from + c.min.result)
    c.requires c.loop-from-test.true (rw c.min.ensures refl) c.loop-from.invariant c.in_ok-push.ensures.items
