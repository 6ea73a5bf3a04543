-- From the lemmas of PairLemmas.
use Rattle.std.proofs.Common.{◌<◌, ◌-◌, ◌^◌, List, ap, subst, length, arith, inl, inr}
use Rattle.leak_blocks.specs.declared.block.Block.{Block}
use Rattle.leak_search.proofs.PairLemmas.{is_true, too_many_of_two, are_read}
use Rattle.leak_search.proofs.pairs.read_two.Goals as goal

abbrev IsOver : List Block → Type 0
IsOver blocks = 2 ^ 32 - 1 < length blocks

pub returns-then-blocks-clause-refused : goal.returns-then-blocks-clause-refused
returns-then-blocks-clause-refused c = λ other. too_many_of_two _ _ _ _ _ _ c.in_ok-first.ensures.ok c.in_ok-second.ensures.ok
    (is_true _ _ c.is_continued.ensures c.if-not-is_continued.false) (inl (subst IsOver c.blocks-2.ensures.value c.if-blocks.true))

pub returns-then-blocks-2-clause-refused : goal.returns-then-blocks-2-clause-refused
returns-then-blocks-2-clause-refused c = λ other. too_many_of_two _ _ _ _ _ _ c.in_ok-first.ensures.ok c.in_ok-second.ensures.ok
    (is_true _ _ c.is_continued.ensures c.if-not-is_continued.false) (inr (subst IsOver c.blocks-3.ensures.value c.if-blocks-2.true))

pub returns-clause-read : goal.returns-clause-read
returns-clause-read c =
    let first_few : length c.in_ok-first.first.live.blocks < 2 ^ 32 = omega (arith, ap length c.blocks-2.ensures.value, c.if-blocks.false) in
    let second_few : length c.in_ok-second.second.live.blocks < 2 ^ 32 = omega (arith, ap length c.blocks-3.ensures.value, c.if-blocks-2.false) in
    are_read _ _ _ _ _ c.in_ok-first.ensures.ok c.in_ok-second.ensures.ok (is_true _ _ c.is_continued.ensures c.if-not-is_continued.false) first_few second_few
