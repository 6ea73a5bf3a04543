-- The block before ends before this one begins, and the others end before that.
use Rattle.std.specs.Bool.{passes}
use Rattle.std.proofs.Common.{◌-◌, ltb→lt, arith}
use Rattle.leak_index.specs.Ranks.{none}
use Rattle.leak_index.proofs.Near.{ascending}
use Rattle.leak_index.proofs.RowCounts.{apart_last}
use Rattle.leak_index.proofs.ranks.is_apart.Goals as goal

pub overflow_sub-result : goal.overflow_sub-result
overflow_sub-result c = omega (arith, c.requires.here, ascending c.args.blocks.now c.requires.disjoint (c.args.number - 1) c.args.number none (omega arith) c.requires.inside)

pub returns : goal.returns
returns c = λ t. apart_last c.args.blocks.now c.args.number c.requires.disjoint c.requires.inside c.if-number-eq0.false (omega (arith, c.requires.here, ltb→lt _ _ (passes _ t)))
