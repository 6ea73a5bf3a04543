-- Each is computed.
use Rattle.std.proofs.Common.{refl}
use Rattle.leak_index.specs.Hits.{hits_of}
use Rattle.leak_elf.specs.Words.{words_between}
use Rattle.leak_scan.specs.Targets.{targets_of, block_targets}
use Rattle.leak_scan.specs.Heads.{heads_of}
use Rattle.leak_scan.proofs.laws.worked_heads.Goals as goal

pub returns : goal.returns
unfolding hits_of words_between targets_of block_targets heads_of
returns c = record { own_word = refl; past_the_end = refl; left_out = refl; ring = refl; marked = refl }
