-- From what the calls promise.
use Rattle.std.proofs.Common.{◌≡◌, ◌∙◌, ap, ℕ, List, length, refl}
use Rattle.leak_blocks.specs.declared.block.Block.{Block}
use Rattle.leak_search.specs.SearchTwo.{size_of}
use Rattle.leak_search.proofs.two_cores.numbers_of.Goals as goal

pub sum_sizes-requires-clause-ascending : goal.sum_sizes-requires-clause-ascending
sum_sizes-requires-clause-ascending c = rw (c.deref.ensures.value) c.requires.fresh_ascend

pub sum_sizes-requires-clause-inside : goal.sum_sizes-requires-clause-inside
sum_sizes-requires-clause-inside c = rw (c.blocks-2.ensures.value, c.deref.ensures.value) c.requires.fresh_inside

pub returns : goal.returns
returns c =
    let count : c.len.result ≡ length c.args.carry.now.fresh.items = c.len.ensures ∙ c.args.carry.now.fresh.ok.0 in
    let bytes : c.sum_sizes.result ≡ size_of c.args.input.now.live.blocks c.args.carry.now.fresh.items =
    c.sum_sizes.ensures ∙ ap (λ (bs : List Block). size_of bs c.deref.result.now) c.blocks-2.ensures.value ∙ ap (λ (xs : List ℕ). size_of c.args.input.now.live.blocks xs) c.deref.ensures.value in
    rw (count, bytes) refl
