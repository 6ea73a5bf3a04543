-- Each row is computed.
use Rattle.std.proofs.Common.{refl}
use Rattle.leak_elf.specs.Words.{words_between}
use Rattle.leak_index.specs.Hits.{hits_of}
use Rattle.leak_scan.specs.Targets.{block_words_on, targets_of, block_targets}
use Rattle.leak_scan.proofs.laws.worked_targets.Goals as goal

pub returns : goal.returns
unfolding words_between hits_of block_words_on targets_of block_targets
returns c = record { words = refl; short = refl; paged = refl; targets = refl; both = refl; second = refl; end = refl; left_out = refl }
