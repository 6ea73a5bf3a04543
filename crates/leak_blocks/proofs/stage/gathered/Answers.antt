-- Each number that is left is that of the next block.
use Rattle.std.proofs.Common.{◌≡◌, ◌∙◌, sym, ap, subst, arith, List, ◌++◌, ◌∷◌, [], ℕ, ◌+◌, ◌<◌, length, drop, get_or}
use Rattle.std.proofs.lemmas.List.{drop_more}
use Rattle.std.proofs.lemmas.Option.{get_or_from_slice_get}
use Rattle.leak_blocks.specs.declared.block.Block.{Block}
use Rattle.leak_blocks.proofs.BuildLemmas.{none_left}
use Rattle.leak_blocks.proofs.GatherLemmas.{AreGathered, IsNextOf, gathered_at_first, next_gathered, gathered_at_last}
use Rattle.leak_blocks.proofs.stage.gathered.Goals as goal

pub loop-number-init : goal.loop-number-init
loop-number-init c = λ blocks n. gathered_at_first c.args.allocated.now blocks c.in_ok-blocks.blocks.items c.args.numbers.now n c.in_ok-blocks.ensures.items

pub bounds-allocated-number : goal.bounds-allocated-number
bounds-allocated-number c =
    (next_gathered c.args.allocated.now c.requires.0 c.loop-number.blocks.items (drop c.loop-number.number-index c.args.numbers.now) _ _
    (c.loop-number.invariant c.requires.0 c.requires.1) (drop_more c.args.numbers.now c.loop-number.number-index 0 c.loop-number-test.true)).inside

pub offset_bounds-allocated-number : goal.offset_bounds-allocated-number
offset_bounds-allocated-number c =
    let inside : get_or c.args.numbers.now c.loop-number.number-index 0 < length c.args.allocated.now =
    (next_gathered c.args.allocated.now c.requires.0 c.loop-number.blocks.items (drop c.loop-number.number-index c.args.numbers.now) _ _
    (c.loop-number.invariant c.requires.0 c.requires.1) (drop_more c.args.numbers.now c.loop-number.number-index 0 c.loop-number-test.true)).inside in
    omega arith

pub loop-number-preserved : goal.loop-number-preserved
loop-number-preserved c = λ blocks of.
    let n : IsNextOf c.args.allocated.now blocks c.loop-number.blocks.items (get_or c.args.numbers.now c.loop-number.number-index 0) (drop (c.loop-number.number-index + 1) c.args.numbers.now) =
    next_gathered c.args.allocated.now blocks c.loop-number.blocks.items (drop c.loop-number.number-index c.args.numbers.now) _ _
    (c.loop-number.invariant blocks of) (drop_more c.args.numbers.now c.loop-number.number-index 0 c.loop-number-test.true) in
    let pushed : c.loop-number.blocks.items ++ n.block ∷ [] ≡ c.push.new.self.items =
    ap (λ (b : Block). c.loop-number.blocks.items ++ b ∷ []) (sym (get_or_from_slice_get c.args.allocated.now _ n.block _ n.at)) ∙ sym c.in_ok-push.ensures.items in
    subst (λ (l : List Block). AreGathered c.args.allocated.now blocks l (drop (c.loop-number.number-index + 1) c.args.numbers.now)) pushed n.later

pub returns : goal.returns
returns c = λ blocks of.
    let last : c.loop-number.number-index ≡ length c.args.numbers.now = omega arith in
    gathered_at_last c.args.allocated.now blocks c.loop-number.blocks.items (drop c.loop-number.number-index c.args.numbers.now) (c.loop-number.invariant blocks of)
    (ap (λ (k : ℕ). drop k c.args.numbers.now) last ∙ none_left c.args.numbers.now)
