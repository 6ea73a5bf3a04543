-- The blocks that the allocation meets are taken out from the last one down.
use Rattle.std.proofs.Common.{◌≡◌, ℕ, true, arith, ap, ◌∙◌, if◌then◌else◌, Bool}
use Rattle.std.specs.Option.{is_some}
use Rattle.leak_blocks.proofs.ChangeLemmas.{AreLeft, left_after, left_at_last, found_entry, fewer_by}
use Rattle.leak_blocks.proofs.numbers.displace.Goals as goal

pub loop-start-smaller : goal.loop-start-smaller
loop-start-smaller c =
    let l : AreLeft c.args.allocated.now c.args.line.now c.loop-start.numbers.entries c.requires.held.0 = c.loop-start.invariant c.requires.held.0 c.requires.held.1 in
    let k : is_some c.remove.result ≡ true = ap is_some c.remove.ensures.value ∙ found_entry c.args.allocated.now c.loop-start.numbers.entries l.left c.args.line.now c.in-Some.start l.of (c.in-Some.ensures l.left l.of) in
    omega (arith, c.remove.ensures.len, ap {B = ℕ} (λ (t : Bool). if t then 1 else 0) k)

pub loop-start-preserved : goal.loop-start-preserved
loop-start-preserved c = λ blocks of.
    let l : AreLeft c.args.allocated.now c.args.line.now c.loop-start.numbers.entries blocks = c.loop-start.invariant blocks of in
    left_after c.args.allocated.now c.args.line.now c.loop-start.numbers.entries c.remove.new.self.entries blocks c.in-Some.start l (c.in-Some.ensures l.left l.of) c.remove.ensures.entries

pub overflow_sub-result : goal.overflow_sub-result
overflow_sub-result c =
    let l : AreLeft c.args.allocated.now c.args.line.now c.loop-start.numbers.entries c.requires.held.0 = c.loop-start.invariant c.requires.held.0 c.requires.held.1 in
    omega (
      arith,
      c.len.ensures.len,
      c.len-before.ensures.len,
      fewer_by c.args.line.now c.args.numbers.now.entries c.loop-start.numbers.entries c.requires.held.0 c.requires.held.1.listed
          (left_at_last c.args.allocated.now c.args.line.now c.loop-start.numbers.entries c.requires.held.0 l (c.in_default.ensures l.left l.of)),
    )

pub returns-clause-unmet : goal.returns-clause-unmet
returns-clause-unmet c = λ blocks of.
    let l : AreLeft c.args.allocated.now c.args.line.now c.loop-start.numbers.entries blocks = c.loop-start.invariant blocks of in
    left_at_last c.args.allocated.now c.args.line.now c.loop-start.numbers.entries blocks l (c.in_default.ensures l.left l.of)

pub returns-clause-count : goal.returns-clause-count
returns-clause-count c = λ blocks of.
    let l : AreLeft c.args.allocated.now c.args.line.now c.loop-start.numbers.entries blocks = c.loop-start.invariant blocks of in
    omega (
      arith,
      c.len.ensures.len,
      c.len-before.ensures.len,
      fewer_by c.args.line.now c.args.numbers.now.entries c.loop-start.numbers.entries blocks of.listed
          (left_at_last c.args.allocated.now c.args.line.now c.loop-start.numbers.entries blocks l (c.in_default.ensures l.left l.of)),
    )
