-- From the lemmas of AloneLemmas.
use Rattle.std.proofs.Common.{[]}
use Rattle.leak_pool.proofs.AloneLemmas.{taken_none, marks_more, taken_new, taken_old}
use Rattle.leak_pool.proofs.alone.take.Goals as goal

pub returns-clause-marks : goal.returns-clause-marks
returns-clause-marks c = marks_more c.args.set.now c.args.list.now.items c.push.new.self.items c.args.block c.requires.block c.if-set-block.false c.in_ok-push.ensures.items c.requires.marks

pub returns-clause-done : goal.returns-clause-done
returns-clause-done c = taken_new [] c.args.list.now.items c.args.list.now.items c.push.new.self.items c.args.block (taken_none c.args.list.now.items) c.in_ok-push.ensures.items

pub returns-then-set-block-clause-done : goal.returns-then-set-block-clause-done
returns-then-set-block-clause-done c = taken_old [] c.args.list.now.items c.args.list.now.items c.args.block (taken_none c.args.list.now.items) (c.requires.marks.only c.args.block c.if-set-block.true)
