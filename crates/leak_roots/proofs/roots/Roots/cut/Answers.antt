-- From the lemmas of Cutting.
use Rattle.std.proofs.Common.{◌∙◌, ap, sym, subst}
use Rattle.leak_roots.specs.Places.{Places, AreRanges}
use Rattle.leak_roots.proofs.Cutting.{range_is, read_more, read_all}
use Rattle.leak_roots.proofs.roots.Roots.cut.Goals as goal

pub push_memory-requires-clause-range : goal.push_memory-requires-clause-range
push_memory-requires-clause-range c =
    range_is c.deref-range-items.result.now c.loop-range.range-index (0, 0) (subst AreRanges (sym c.deref-range-items.ensures.value) c.self.invariant) c.loop-range-test.true

pub loop-range-preserved : goal.loop-range-preserved
loop-range-preserved c =
    read_more c.args.self.now c.args.words c.loop-range.range-index c.deref-range-items.result.now c.loop-range.pieces.items c.push_memory.new.pieces.items (0, 0)
    (c.deref-range-items.ensures.value ∙ ap (λ (p : Places). p.memory) c.self.view_is) c.loop-range-test.true c.loop-range.invariant
    c.in_ok-push_memory.ensures.places (c.in_ok-push_memory.ensures.each c.args.self.now c.loop-range.invariant.each)

pub returns-clause-ok : goal.returns-clause-ok
returns-clause-ok c =
    read_all c.args.self.now c.args.words c.loop-range.range-index c.deref-range-items.result.now c.loop-range.pieces.items (c.deref-range-items.ensures.value ∙ ap (λ (p : Places). p.memory) c.self.view_is) c.loop-range-test.false c.loop-range.invariant
