-- Each word's are.
use Rattle.std.proofs.Common.{length, ◌<◌}
use Rattle.leak_scan.proofs.Ahead.{all_targets}
use Rattle.leak_scan.proofs.laws.targets_are_blocks.Goals as goal

pub returns : goal.returns
returns c index words = all_targets (λ block. block < length index.blocks) index words (λ word. c.hits_are_blocks.ensures index word)
