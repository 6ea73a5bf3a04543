-- Each case is that of the last two blocks that begin at the word or before it.
use Rattle.std.proofs.Common.{◌≡◌, ℕ, arith, subst, sym, true, false}
use Rattle.leak_blocks.specs.declared.block.Block.{Block}
use Rattle.leak_index.specs.Bounds.{IsCountUpTo}
use Rattle.leak_index.specs.Hits.{Index, hits_of}
use Rattle.leak_index.proofs.Near.{found_none, found_one, found_two}
use Rattle.leak_index.proofs.candidates.Candidates.hits_near.Goals as goal

abbrev empty : Block
empty = record { start = 0; size = 0; line = 0; caller = (0, 0) }

counted : (inside seen : Index) (word count : ℕ) → inside ≡ seen → IsCountUpTo seen.blocks word count → IsCountUpTo inside.blocks word count
counted inside seen word count e up = subst (λ (index : Index). IsCountUpTo index.blocks word count) (sym e) up

pub returns-then-count-eq0 : goal.returns-then-count-eq0
unfolding hits_of
returns-then-count-eq0 c = found_none _ _ _ (subst (IsCountUpTo c.args.self.now.blocks c.args.word) c.if-count-eq0.true c.requires)

pub returns-then-here : goal.returns-then-here
unfolding hits_of
returns-then-here c = rw (← c.self.view_is) (found_one _ _ _ _ empty true (counted _ _ _ _ c.self.view_is c.requires) c.if-count-eq0.false c.if-last-eq0.true c.if-here.ensures)

pub returns-else-here : goal.returns-else-here
unfolding hits_of
returns-else-here c = rw (← c.self.view_is) (found_one _ _ _ _ empty false (counted _ _ _ _ c.self.view_is c.requires) c.if-count-eq0.false c.if-last-eq0.true c.if-here.ensures)

pub returns-in-true-true : goal.returns-in-true-true
unfolding hits_of
returns-in-true-true c = rw (← c.self.view_is) (found_two _ _ _ c.args.count empty true true c.self.invariant.disjoint (counted _ _ _ _ c.self.view_is c.requires) (omega arith) (cc) (cc))

pub returns-in-true-false : goal.returns-in-true-false
unfolding hits_of
returns-in-true-false c = rw (← c.self.view_is) (found_two _ _ _ c.args.count empty true false c.self.invariant.disjoint (counted _ _ _ _ c.self.view_is c.requires) (omega arith) (cc) (cc))

pub returns-in-false-true : goal.returns-in-false-true
unfolding hits_of
returns-in-false-true c = rw (← c.self.view_is) (found_two _ _ _ c.args.count empty false true c.self.invariant.disjoint (counted _ _ _ _ c.self.view_is c.requires) (omega arith) (cc) (cc))

pub returns-in-false-false : goal.returns-in-false-false
unfolding hits_of
returns-in-false-false c = rw (← c.self.view_is) (found_two _ _ _ c.args.count empty false false c.self.invariant.disjoint (counted _ _ _ _ c.self.view_is c.requires) (omega arith) (cc) (cc))
