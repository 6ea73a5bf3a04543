-- From the lemmas of ItemLemmas.
use Rattle.std.proofs.Common.{◌≤◌, length, leb→le, sym, subst}
use Rattle.std.specs.Prelude.{◌↔◌}
use Rattle.std.specs.Bool.{passes}
use Rattle.std.proofs.lemmas.Bool.{le-leb}
use Rattle.leak_pool.specs.Items.{items_in, AreMany}
use Rattle.leak_pool.specs.declared.items.Items.{Items}
use Rattle.leak_pool.proofs.ItemLemmas.{blocks_many}
use Rattle.leak_pool.proofs.items.Items.are_many.Goals as goal

pub returns-in-Blocks : goal.returns-in-Blocks
returns-in-Blocks c =
    let blocks = c.in-Blocks.blocks.now in
    let many : (1000 ≤ length blocks) ↔ AreMany (items_in c.args.self.now) = subst (λ (x : Items). (1000 ≤ length blocks) ↔ AreMany (items_in x)) (sym c.in-Blocks.is) (blocks_many blocks) in
    (λ t. many.0 (leb→le 1000 (length blocks) (passes _ t)), λ m. le-leb 1000 (length blocks) (many.1 m))
