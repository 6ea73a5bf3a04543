-- The blocks that were tried are not near, and neither are those that end before the start of the last of them.
use Rattle.std.proofs.Common.{◌≡◌, ◌+◌, ◌-◌, ◌≤◌, subst, sym, ◌∙◌, arith}
use Rattle.leak_sift.proofs.NearLemmas.{AreFar, at, far_before, far_next, none_near}
use Rattle.leak_sift.proofs.near.is_near.Goals as goal

pub returns-then-saturating_sub-ge-FARTHEST : goal.returns-then-saturating_sub-ge-FARTHEST
returns-then-saturating_sub-ge-FARTHEST c =
    let blocks = c.args.blocks.now in
    let left = c.loop-left.left in
    let same : left ≡ left - 1 + 1 = omega arith in
    let tried = far_next blocks c.args.links c.args.place (left - 1) (subst (AreFar blocks c.args.links c.args.place) same c.loop-left.invariant.far) (sym c.is_near_block.ensures ∙ c.if-is_near_block.false) in
    let behind : (at blocks (left - 1)).start + 56 ≤ c.args.place = omega arith in
    none_near blocks c.args.links c.args.place
    (far_before blocks c.args.links c.args.place (left - 1) c.requires.disjoint (omega (arith, c.requires.passed.bound)) behind tried)

pub returns : goal.returns
returns c =
    let none : c.loop-left.left ≡ 0 = omega arith in
    none_near c.args.blocks.now c.args.links c.args.place (subst (AreFar c.args.blocks.now c.args.links c.args.place) none c.loop-left.invariant.far)
