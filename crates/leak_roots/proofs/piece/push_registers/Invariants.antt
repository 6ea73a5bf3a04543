-- The register words so far were cut.
use Rattle.std.proofs.Common.{◌-◌, length}
use Rattle.leak_roots.proofs.Cutting.{AreRegistersCut}
use Rattle.leak_roots.proofs.piece.push_registers.Given as goal

abbrev pub invariant-loop-from : goal.invariant-loop-from
invariant-loop-from l = AreRegistersCut (length l.registers) l.words l.initial.pieces.items l.pieces.items l.from

abbrev pub decreases-loop-from : goal.decreases-loop-from
decreases-loop-from l = length l.registers - l.from
