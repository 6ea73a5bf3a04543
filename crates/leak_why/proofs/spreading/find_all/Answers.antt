-- From the lemmas of AloneLemmas and EntryLemmas.
use Rattle.std.proofs.Common.{◌∷◌, [], arith}
use Rattle.leak_pool.proofs.AloneLemmas.{next_is_target, next_left}
use Rattle.leak_why.proofs.FoundLemmas.{found_none, found_both}
use Rattle.leak_why.proofs.spreading.find_all.Goals as goal

pub find-requires-clause-block : goal.find-requires-clause-block
find-requires-clause-block g c =
    let i = c.requires.inside c.in-Some.block (next_is_target c.loop-block.yielded c.loop-block.block-iterator c.next.new.self _ c.args.targets c.in-Some.block c.in-Some.ensures.steps c.loop-block.invariant.targets c.into_iter-block-iterator.ensures.into_iter_gives) in omega (arith, i, c.loop-block.auto.seen)

pub loop-block-init : goal.loop-block-init
loop-block-init g c = record {
  targets = cc;
  marks = c.requires.marks;
  found = found_none c.args.source c.args.entries.now.items;
}

pub loop-block-preserved : goal.loop-block-preserved
loop-block-preserved g c = record {
  targets = next_left c.loop-block.yielded c.loop-block.block-iterator c.next.new.self _ c.in-Some.block c.in-Some.ensures.steps c.loop-block.invariant.targets;
  marks = c.find.ensures.marks;
  found = found_both c.args.source c.loop-block.yielded (c.in-Some.block ∷ []) c.args.entries.now.items c.loop-block.entries.items c.find.new.entries.items c.loop-block.invariant.found c.in_ok-find.ensures.done;
}
