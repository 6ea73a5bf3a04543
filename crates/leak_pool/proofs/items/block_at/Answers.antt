-- From lemmas of std.
use Rattle.std.proofs.Common.{sym}
use Rattle.std.proofs.lemmas.List.{get_or-map}
use Rattle.leak_pool.specs.declared.target_source.Item.TheVariants.{Block}
use Rattle.leak_pool.proofs.items.block_at.Goals as goal

pub returns : goal.returns
returns c d = sym (get_or-map Block c.args.blocks.now c.args.k 0 d c.requires)
