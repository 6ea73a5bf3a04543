-- What is left are the blocks at the front.
use Rattle.std.proofs.Common.{◌≡◌, ◌∙◌, sym, ap, subst, List, length, take}
use Rattle.std.proofs.lemmas.List.{with_items_is}
use Rattle.leak_blocks.specs.declared.block.Block.{Block}
use Rattle.leak_blocks.specs.Numbers.{AreNumbered}
use Rattle.leak_blocks.proofs.stage.brought_forward.Goals as goal

pub returns : goal.returns
returns c = λ blocks of.
    let front : take (length c.args.numbers.now) c.bring_forward.new.allocated ≡ blocks =
    c.bring_forward.ensures blocks (subst (λ (l : List Block). AreNumbered l c.args.numbers.now blocks) (sym c.as_mut_slice.ensures.value) of) in
    c.shrink_to_fit.ensures.items
    ∙ c.truncate.ensures.items
    ∙ ap (take (length c.args.numbers.now)) (with_items_is c.args.allocated c.bring_forward.new.allocated (c.bring_forward.auto.allocated ∙ ap length c.as_mut_slice.ensures.value ∙ sym c.args.allocated.ok.0))
    ∙ front
