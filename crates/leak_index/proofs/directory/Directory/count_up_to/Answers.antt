-- The blocks of one page are counted, and those before them.
use Rattle.std.proofs.Common.{◌-◌, refl, arith}
use Rattle.std.proofs.lemmas.Grind.{common_steps}
use Rattle.leak_index.proofs.Narrowing.{apart_part, counted}
use Rattle.leak_index.proofs.directory.Directory.count_up_to.Goals as goal

pub count_up_to-requires : goal.count_up_to-requires
count_up_to-requires c = apart_part c.narrow-low.result.0 (c.narrow-low.result.1 - c.narrow-low.result.0) c.args.blocks.now c.requires.disjoint

pub returns : goal.returns
returns c = counted _ _ _ _ _ _ refl (grind (arith, common_steps)) c.narrow-low.ensures c.count_up_to.ensures
