-- Each number is that of a block.
use Rattle.std.proofs.Common.{◌<◌, All, length, sym, subst}
use Rattle.leak_blocks.proofs.SmallLemmas.{numbers_inside}
use Rattle.leak_blocks.proofs.stage.Stage.numbers.Goals as goal

pub returns-clause-within : goal.returns-clause-within
returns-clause-within c = λ lines after.
    subst (All (λ k. k < length c.args.self.now.allocated.items)) (sym c.as_slice.ensures.value) (numbers_inside c.args.self.now.allocated.items c.args.self.now.numbers.items _ after.blocks)
