-- The blocks so far were numbered.
use Rattle.std.proofs.Common.{take}
use Rattle.leak_replaying.specs.Numbering.{NumbersMore}
use Rattle.leak_replaying.proofs.numbering.number_callers.Given as goal

abbrev pub invariant-loop-block : goal.invariant-loop-block
invariant-loop-block l = NumbersMore l.before l.window (take l.block-index l.blocks) l.initial.texts l.initial.numbers.items l.texts l.numbers.items
