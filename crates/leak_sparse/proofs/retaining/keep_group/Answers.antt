-- The word that is read is that of the lowest bit that is left.
use Rattle.std.proofs.Common.{◌≡◌, ◌∙◌, ℕ, ◌+◌, ◌*◌, ◌%◌, ◌^◌, ◌<◌, ap, refl, subst, count_ones, arith}
use Rattle.std.specs.Int.{trailing_zeros, w64}
use Rattle.leak_sparse.specs.Groups.{AreMoved}
use Rattle.leak_sparse.specs.Words.{is_between}
use Rattle.leak_sparse.proofs.BitLemmas.{grows, ones_of_none}
use Rattle.leak_sparse.proofs.MoveLemmas.{byte_bit, byte_counts, byte_le, moved_next}
use Rattle.leak_sparse.proofs.RestLemmas.{rest_all, rest_lowest, rest_next, rest_none, rest_passed}
use Rattle.leak_sparse.proofs.RetainBitsLemmas.{after_either, bits_all, bits_none, bits_skip, rank_after, rank_within}
use Rattle.leak_sparse.proofs.retaining.keep_group.Goals as goal

pub loop-rest-init : goal.loop-rest-init
loop-rest-init c =
    let none : count_ones (c.args.group.bits % 1) ≡ 0 = let e : c.args.group.bits % 1 ≡ 0 = omega arith in ap count_ones e ∙ ones_of_none in
    record {
      from = 0;
      left = rest_all c.args.group.bits c.requires.narrow;
      rank = omega (arith, none);
      order = c.requires.order;
      narrow = omega arith;
      count = omega (arith, ones_of_none);
      bits = λ all moved. bits_none c.args.low c.args.high all c.args.group;
      moved = λ all moved. moved;
    }

pub bounds-kept-rank : goal.bounds-kept-rank
bounds-kept-rank c =
    let to = c.loop-rest.invariant in
    let some : 0 < c.loop-rest.rest = omega arith in
    let low = rest_lowest c.args.group.bits c.loop-rest.rest to.from to.left some in
    omega (
      arith,
      rank_within c.args.low c.args.high c.args.kept.now c.args.group c.loop-rest.bits c.loop-rest.rank to.from (trailing_zeros w64 c.loop-rest.rest) low to.rank c.requires.narrow c.requires.held,
    )

pub bounds-kept-left : goal.bounds-kept-left
bounds-kept-left c =
    let to = c.loop-rest.invariant in
    let some : 0 < c.loop-rest.rest = omega arith in
    let low = rest_lowest c.args.group.bits c.loop-rest.rest to.from to.left some in
    omega (
      arith,
      to.order,
      rank_within c.args.low c.args.high c.args.kept.now c.args.group c.loop-rest.bits c.loop-rest.rank to.from (trailing_zeros w64 c.loop-rest.rest) low to.rank c.requires.narrow c.requires.held,
    )

pub overflow_add-bits : goal.overflow_add-bits
overflow_add-bits c =
    let to = c.loop-rest.invariant in
    let some : 0 < c.loop-rest.rest = omega arith in
    let bit = trailing_zeros w64 c.loop-rest.rest in
    let low = rest_lowest c.args.group.bits c.loop-rest.rest to.from to.left some in
    let below = byte_bit c.loop-rest.bits bit c.is_between-stays.result c.from.result c.from.ensures low.within (grows c.loop-rest.bits to.from bit to.narrow low.at_or_after) in
    omega (arith, grows (c.loop-rest.bits + c.from.result * 2 ^ bit % 2 ^ 64) (bit + 1) 64 below (omega (arith, low.within)))

pub loop-rest-preserved : goal.loop-rest-preserved
loop-rest-preserved c =
    let to = c.loop-rest.invariant in
    let some : 0 < c.loop-rest.rest = omega arith in
    let bit = trailing_zeros w64 c.loop-rest.rest in
    let low = rest_lowest c.args.group.bits c.loop-rest.rest to.from to.left some in
    let below = grows c.loop-rest.bits to.from bit to.narrow low.at_or_after in
    let stays = c.is_between-stays.result in
    let inside = rank_within c.args.low c.args.high c.args.kept.now c.args.group c.loop-rest.bits c.loop-rest.rank to.from bit low to.rank c.requires.narrow c.requires.held in
    record {
      from = bit + 1;
      left = rest_next c.args.group.bits c.loop-rest.rest to.from to.left some;
      rank = rank_after c.args.low c.args.high c.args.kept.now c.args.group c.loop-rest.bits c.loop-rest.rank to.from bit low to.rank;
      order = omega (arith, to.order, c.from-left.ensures, byte_le stays);
      narrow = byte_bit c.loop-rest.bits bit stays c.from.result c.from.ensures low.within below;
      count = omega (arith, to.count, byte_counts c.loop-rest.bits bit stays c.from.result c.from.ensures low.within below, c.from.ensures, c.from-left.ensures);
      bits = λ all moved.
          after_either c.args.low c.args.high all c.args.group c.loop-rest.bits c.loop-rest.rank to.from bit low to.rank (to.bits all moved) stays c.from.result
          (c.is_between-stays.ensures ∙ ap (is_between c.args.low c.args.high) ((to.moved all moved).rest c.loop-rest.rank (omega arith))) c.from.ensures;
      moved = λ all moved.
          moved_next c.args.low c.args.high all c.loop-rest.kept c.loop-rest.left c.loop-rest.rank _ stays c.from-left.result (to.moved all moved) (omega (arith, inside)) refl
          c.is_between-stays.ensures c.from-left.ensures;
    }

pub returns-clause-bits : goal.returns-clause-bits
returns-clause-bits c all moved =
    let to = c.loop-rest.invariant in
    let none = rest_none c.args.group.bits c.loop-rest.rest to.from to.left (omega arith) in
    bits_all c.args.low c.args.high all c.args.group c.loop-rest.bits 64
    (bits_skip c.args.low c.args.high all c.args.group c.loop-rest.bits to.from 64 (to.bits all moved) to.left.within none.each) (omega arith) (omega arith)

pub returns-clause-moved : goal.returns-clause-moved
returns-clause-moved c all moved =
    let to = c.loop-rest.invariant in
    let end : c.loop-rest.rank ≡ c.args.group.before + count_ones c.args.group.bits =
    omega (arith, to.rank, rest_passed c.args.group.bits c.loop-rest.rest to.from to.left (omega arith) c.requires.narrow) in
    subst (λ (rank : ℕ). AreMoved c.args.low c.args.high all c.loop-rest.kept c.loop-rest.left rank) end (to.moved all moved)
