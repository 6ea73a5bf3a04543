-- The next size word ends what is calm, or a place near one of the last two blocks that were passed.
use Rattle.std.proofs.Common.{◌+◌, ◌-◌, ◌<◌, ◌≤◌, ℕ, subst, arith}
use Rattle.leak_sift.specs.Passed.{AreBehind, AreCalm}
use Rattle.leak_sift.proofs.CalmLemmas.{calm_ahead, calm_last, calm_two}
use Rattle.leak_sift.proofs.NearLemmas.{at}
use Rattle.leak_sift.proofs.near.calm_end.Goals as goal
use Rattle.leak_sift.proofs.near.calm_end.Goals.{then-count-eq1-via-then-count-eq1, then-count-eq1-via-else-count-eq1+then-saturating_sub-ge-FARTHEST}

pub returns-then-count-eq0 : goal.returns-then-count-eq0
returns-then-count-eq0 c = calm_ahead c.args.blocks.now c.args.links c.args.place c.next_size_place-next.result (subst (λ (n : ℕ). AreBehind c.args.blocks.now n c.next_size_place-next.result) (omega arith) c.next_size_place-next.ensures)

pub returns-then-count-eq1 : goal.returns-then-count-eq1
returns-then-count-eq1 c =
    let behind : AreBehind c.args.blocks.now c.args.count c.min-end.result = record { each = λ k d h l. let e = c.next_size_place-next.ensures.each k d h l in omega arith } in
    let calm : (1 < c.args.count → (at c.args.blocks.now (c.args.count - 1)).start + 56 ≤ c.args.place) → AreCalm c.args.blocks.now c.args.links c.args.place c.min-end.result =
    λ far. calm_last c.args.blocks.now c.args.links c.args.place c.min-end.result c.args.count c.requires.disjoint (omega arith) c.requires.passed.bound behind far (λ p h l. c.near_from.ensures p h (omega arith)) in
    elim c.then-count-eq1.branch [
      | then-count-eq1-via-then-count-eq1 w ↦ calm (λ more. absurd (omega arith))
      | then-count-eq1-via-else-count-eq1+then-saturating_sub-ge-FARTHEST w ↦ calm (λ more. omega arith)
    ]

pub returns-then-saturating_sub-lt-FARTHEST : goal.returns-then-saturating_sub-lt-FARTHEST
returns-then-saturating_sub-lt-FARTHEST c = record { none = λ p h l. absurd (omega arith) }

pub returns : goal.returns
returns c =
    let behind : AreBehind c.args.blocks.now c.args.count c.min.result = record { each = λ k d h l. let e = c.next_size_place-next.ensures.each k d h l in omega arith } in
    calm_two c.args.blocks.now c.args.links c.args.place c.min.result c.args.count c.requires.disjoint (omega arith) c.requires.passed.bound behind (omega arith)
    (λ p h l. c.near_from.ensures p h (omega arith))
    (λ p h l. c.near_from-2.ensures p h (omega arith))
