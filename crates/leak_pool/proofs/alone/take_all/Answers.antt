-- From the lemmas of AloneLemmas.
use Rattle.std.proofs.Common.{◌∷◌, [], arith, refl}
use Rattle.leak_pool.proofs.AloneLemmas.{next_is_target, next_left, taken_both, taken_none}
use Rattle.leak_pool.proofs.alone.take_all.Goals as goal

pub overflow_cast-block : goal.overflow_cast-block
overflow_cast-block g c =
    let i = c.requires.inside c.in-Some.block (next_is_target c.loop-block.yielded c.loop-block.block-iterator c.next.new.self _ c.args.targets c.in-Some.block c.in-Some.ensures.steps c.loop-block.invariant.targets c.into_iter-block-iterator.ensures.into_iter_gives) in omega (arith, i, c.requires.few)

pub take-requires-clause-block : goal.take-requires-clause-block
take-requires-clause-block g c =
    let i = c.requires.inside c.in-Some.block (next_is_target c.loop-block.yielded c.loop-block.block-iterator c.next.new.self _ c.args.targets c.in-Some.block c.in-Some.ensures.steps c.loop-block.invariant.targets c.into_iter-block-iterator.ensures.into_iter_gives) in omega (arith, i, c.loop-block.auto.set)

pub loop-block-init : goal.loop-block-init
loop-block-init g c = record { targets = refl; marks = c.requires.marks; taken = taken_none c.args.list.now.items }

pub loop-block-preserved : goal.loop-block-preserved
loop-block-preserved g c = record {
  targets = next_left c.loop-block.yielded c.loop-block.block-iterator c.next.new.self _ c.in-Some.block c.in-Some.ensures.steps c.loop-block.invariant.targets;
  marks = c.take.ensures.marks;
  taken = taken_both c.loop-block.yielded (c.in-Some.block ∷ []) c.args.list.now.items c.loop-block.list.items c.take.new.list.items c.loop-block.invariant.taken c.in_ok-take.ensures.done;
}
