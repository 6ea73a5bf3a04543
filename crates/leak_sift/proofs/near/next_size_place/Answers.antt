-- Blocks ascend, and so do their size words.
use Rattle.std.proofs.Common.{ap, arith}
use Rattle.leak_lemmas.proofs.Lists.{any_default}
use Rattle.leak_blocks.specs.declared.block.Block.{Block}
use Rattle.leak_index.specs.Ranks.{none}
use Rattle.leak_sift.proofs.NearLemmas.{rising}
use Rattle.leak_sift.proofs.near.next_size_place.Goals as goal

pub returns-then-count-blocks : goal.returns-then-count-blocks
returns-then-count-blocks c = record { each = λ k d h l. let up = rising c.args.blocks.now c.requires.disjoint c.args.count k d h l in omega (arith, ap (λ (b : Block). b.start) (any_default c.args.blocks.now c.args.count d none (omega arith))) }
