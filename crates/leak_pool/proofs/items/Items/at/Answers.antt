-- From the lemmas of GoingLemmas and ItemLemmas.
use Rattle.std.proofs.Common.{◌≡◌, ◌∙◌, ap, sym, length, arith}
use Rattle.std.specs.Prelude.{slice_index_or}
use Rattle.leak_pool.specs.Items.{items_in}
use Rattle.leak_pool.specs.declared.items.Items.{Items}
use Rattle.leak_pool.proofs.GoingLemmas.{blocks_long}
use Rattle.leak_pool.proofs.ItemLemmas.{roots_long, root_at}
use Rattle.leak_pool.proofs.items.Items.at.Goals as goal

pub block_at-requires : goal.block_at-requires
block_at-requires c =
    let long : length (items_in c.args.self.now) ≡ length c.in-Blocks.blocks.now = ap (λ (x : Items). length (items_in x)) c.in-Blocks.is ∙ blocks_long c.in-Blocks.blocks.now in
    omega (arith, long, c.requires)

pub returns-in-Roots : goal.returns-in-Roots
returns-in-Roots c d =
    let parts = c.in-Roots.field-0 in
    let long : length (items_in c.args.self.now) ≡ parts = ap (λ (x : Items). length (items_in x)) c.in-Roots.is ∙ roots_long parts in
    sym (root_at parts c.args.k d (omega (arith, long, c.requires))) ∙ ap (λ (x : Items). slice_index_or (items_in x) c.args.k d) (sym c.in-Roots.is)

pub returns-in-Blocks : goal.returns-in-Blocks
returns-in-Blocks c d = c.block_at.ensures d ∙ ap (λ (x : Items). slice_index_or (items_in x) c.args.k d) (sym c.in-Blocks.is)
