-- The blocks that aren't at their places replace the first, if all are live.
use Rattle.std.proofs.Common.{◌≡◌, ◌≤◌, ◌∙◌, sym, ap, subst, ℕ, List, ◌++◌, length, take, drop}
use Rattle.std.proofs.lemmas.List.{with_items_is}
use Rattle.leak_blocks.specs.declared.block.Block.{Block}
use Rattle.leak_blocks.specs.Numbers.{AreNumbered}
use Rattle.leak_blocks.proofs.GatherLemmas.{all_gathered, as_many, first_gathered, halves}
use Rattle.leak_blocks.proofs.stage.blocks_of.Goals as goal

pub returns-then-numbers-len : goal.returns-then-numbers-len
returns-then-numbers-len c = rw (sym c.as_slice.ensures.value) c.gathered.ensures

pub gathered-requires-2 : goal.gathered-requires-2
gathered-requires-2 c =
    subst (λ (l : List Block). (x : List Block) × AreNumbered l (take c.moved-moved.result c.args.numbers.now) x) (sym c.as_slice-2.ensures.value)
    (take c.moved-moved.result c.requires.0, (halves c.args.allocated.items c.requires.0 c.args.numbers.now c.moved-moved.result c.requires.1).first)

pub replace_first-requires : goal.replace_first-requires
replace_first-requires c =
    let first : c.as_slice-3.result.now ≡ take c.moved-moved.result c.requires.0 = c.as_slice-3.ensures.value ∙ c.in_ok-first.ensures _
    (subst (λ (l : List Block). AreNumbered l (take c.moved-moved.result c.args.numbers.now) (take c.moved-moved.result c.requires.0)) (sym c.as_slice-2.ensures.value)
    (halves c.args.allocated.items c.requires.0 c.args.numbers.now c.moved-moved.result c.requires.1).first) in
    let long : length c.as_slice-3.result.now ≡ c.moved-moved.result =
    first_gathered c.args.allocated.items c.requires.0 c.as_slice-3.result.now c.args.numbers.now c.moved-moved.result c.requires.1 c.moved-moved.ensures.bound first in
    rw long (rw c.as_mut_slice.ensures.value (subst (λ (m : ℕ). c.moved-moved.result ≤ m) (c.if-numbers-len.false ∙ c.len.ensures ∙ c.args.allocated.ok.0) c.moved-moved.ensures.bound))

pub returns : goal.returns
returns c = λ blocks of.
    let first : c.as_slice-3.result.now ≡ take c.moved-moved.result blocks = c.as_slice-3.ensures.value ∙ c.in_ok-first.ensures _
    (subst (λ (l : List Block). AreNumbered l (take c.moved-moved.result c.args.numbers.now) (take c.moved-moved.result blocks)) (sym c.as_slice-2.ensures.value)
    (halves c.args.allocated.items blocks c.args.numbers.now c.moved-moved.result of).first) in
    let as_long : length c.args.numbers.now ≡ c.args.allocated.len = c.if-numbers-len.false ∙ c.len.ensures in
    let whole : c.replace_first.new.blocks ≡ blocks =
    c.replace_first.ensures
    ∙ ap (λ (l : List Block). c.as_slice-3.result.now ++ drop (length c.as_slice-3.result.now) l) c.as_mut_slice.ensures.value
    ∙ all_gathered c.args.allocated.items blocks c.as_slice-3.result.now c.args.numbers.now c.moved-moved.result of c.moved-moved.ensures.bound c.moved-moved.ensures.rest (as_long ∙ c.args.allocated.ok.0) first in
    with_items_is c.args.allocated c.replace_first.new.blocks
    (ap length whole ∙ sym (as_many c.args.allocated.items blocks c.args.numbers.now of) ∙ as_long)
    ∙ whole
