-- From the lemmas of ItemLemmas.
use Rattle.std.proofs.Common.{◌∙◌, ap, sym, length}
use Rattle.leak_pool.specs.Items.{items_in}
use Rattle.leak_pool.specs.declared.items.Items.{Items}
use Rattle.leak_pool.proofs.ItemLemmas.{roots_long}
use Rattle.leak_pool.proofs.items.Items.len.Goals as goal

pub returns-in-Roots : goal.returns-in-Roots
returns-in-Roots c = sym (roots_long c.in-Roots.parts) ∙ ap (λ (x : Items). length (items_in x)) (sym c.in-Roots.is)
