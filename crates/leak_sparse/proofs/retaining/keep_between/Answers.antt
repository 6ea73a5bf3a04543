-- The bits of one group more, and its words that stay, behind those of the groups before.
use Rattle.std.proofs.Common.{◌≡◌, ◌∙◌, ℕ, ◌+◌, ◌^◌, ◌<◌, ◌≤◌, length, sym, subst, ap, set, take, count_ones, arith}
use Rattle.std.proofs.lemmas.List.{take_all}
use Rattle.leak_sparse.specs.declared.group.Group.{Group}
use Rattle.leak_sparse.specs.Groups.{AreBitsBetween, AreMoved, kept_in}
use Rattle.leak_sparse.proofs.MoveLemmas.{moved_all, moved_none}
use Rattle.leak_sparse.proofs.RankLemmas.{bits_of, kept_more}
use Rattle.leak_sparse.proofs.RetainBitsLemmas.{AreGroupsTo, group_held, groups_all, groups_next, groups_none}
use Rattle.leak_sparse.proofs.retaining.keep_between.Goals as goal

pub loop-number-init : goal.loop-number-init
loop-number-init c = record {
  groups = groups_none c.args.low c.args.high c.args.kept.now c.args.groups.now;
  moved = moved_none c.args.low c.args.high c.args.kept.now;
}

pub keep_group-bits-requires-clause-narrow : goal.keep_group-bits-requires-clause-narrow
keep_group-bits-requires-clause-narrow c =
    let same = c.loop-number.invariant.groups.rest c.loop-number.number (omega arith) in
    subst (λ (group : Group). group.bits < 2 ^ 64) (sym same) (c.requires.held.1.narrow c.loop-number.number)

pub keep_group-bits-requires-clause-held : goal.keep_group-bits-requires-clause-held
keep_group-bits-requires-clause-held c =
    let same = c.loop-number.invariant.groups.rest c.loop-number.number (omega arith) in
    let fits = group_held c.args.groups.now c.args.kept.now c.requires.held.0 c.loop-number.number c.requires.held.1 c.loop-number-test.true in
    subst (λ (group : Group). group.before + count_ones group.bits ≤ length c.loop-number.kept) (sym same) (omega (arith, fits))

pub keep_group-bits-requires-clause-order : goal.keep_group-bits-requires-clause-order
keep_group-bits-requires-clause-order c =
    let same = c.loop-number.invariant.groups.rest c.loop-number.number (omega arith) in
    let before = c.requires.held.1.before c.loop-number.number c.loop-number-test.true in
    subst (λ (group : Group). c.loop-number.front ≤ group.before) (sym same) (omega (arith, before, c.loop-number.invariant.moved.within))

pub loop-number-preserved : goal.loop-number-preserved
loop-number-preserved c =
    let groups = c.args.groups.now in
    let kept = c.args.kept.now in
    let number = c.loop-number.number in
    let to = c.loop-number.invariant in
    let same = to.groups.rest number (omega arith) in
    let before = c.requires.held.1.before number c.loop-number-test.true in
    let ranked = ap (λ (group : Group). group.before) same ∙ before in
    let moved = subst (λ (rank : ℕ). AreMoved c.args.low c.args.high kept c.loop-number.kept c.loop-number.front rank) (sym ranked) to.moved in
    let end = ap (λ (group : Group). group.before + count_ones group.bits) same ∙ ap (λ (n : ℕ). n + count_ones (bits_of groups number)) before ∙ sym (kept_more groups number) in
    let next = groups_next c.args.low c.args.high kept groups c.loop-number.groups number c.loop-number.front c.keep_group-bits.result.0 to.groups c.loop-number-test.true
    (subst (λ (group : Group). AreBitsBetween c.args.low c.args.high kept group c.keep_group-bits.result.0) same (c.keep_group-bits.ensures.bits kept moved)) in
    let later = set c.loop-number.groups number (record { bits = c.keep_group-bits.result.0; before = c.loop-number.front }) in
    record {
      groups = subst (λ (n : ℕ). AreGroupsTo c.args.low c.args.high kept groups later (number + 1) n) (sym c.keep_group-bits.ensures.count) next;
      moved = subst (λ (rank : ℕ). AreMoved c.args.low c.args.high kept c.keep_group-bits.new.kept c.keep_group-bits.result.1 rank) end (c.keep_group-bits.ensures.moved kept moved);
    }

pub returns-clause-groups : goal.returns-clause-groups
returns-clause-groups c =
    groups_all c.args.low c.args.high c.args.kept.now c.args.groups.now c.loop-number.groups c.loop-number.number c.loop-number.front c.loop-number.invariant.groups
    (omega (arith, c.loop-number-test.false))

pub returns-clause-front : goal.returns-clause-front
returns-clause-front c =
    let all : take c.loop-number.number c.args.groups.now ≡ c.args.groups.now = take_all c.loop-number.number c.args.groups.now (omega (arith, c.loop-number-test.false)) in
    let end = ap kept_in all ∙ sym c.requires.held.1.whole in
    moved_all c.args.low c.args.high c.args.kept.now c.loop-number.kept c.loop-number.front (kept_in (take c.loop-number.number c.args.groups.now)) c.loop-number.invariant.moved (omega (arith, end))
