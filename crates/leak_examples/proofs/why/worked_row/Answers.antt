-- Each row is computed: a chain, and levels of the blocks, or a set that chains don't leave.
use Rattle.std.proofs.Common.{refl}
use Rattle.std.proofs.Common.{ap, ◌==◌}
use Rattle.std.specs.Prelude.{count_by}
use Rattle.std.specs.Fmt.{digits}
use Rattle.std.specs.List.{range_with_len}
use Rattle.leak_index.specs.Hits.{hits_of}
use Rattle.leak_elf.specs.Words.{words_between}
use Rattle.leak_scan.specs.Targets.{block_targets, targets_of}
use Rattle.leak_pool.specs.Marking.{graph_of}
use Rattle.leak_examples.proofs.ChainTests.{answers, told}
use Rattle.leak_examples.proofs.why.worked_row.Goals as goal

pub returns-clause-chains : goal.returns-clause-chains
unfolding hits_of words_between block_targets targets_of graph_of
returns-clause-chains c = record {
  last = answers _ _ _ _ _ _ (range_with_len 0 100) refl;
  first = answers _ _ _ _ _ _ (range_with_len 0 100) refl;
  second = answers _ _ _ _ _ _ (range_with_len 0 100) refl;
}

pub returns-clause-text : goal.returns-clause-text
unfolding digits
returns-clause-text c = record { lines = λ chain root links. ap (count_by (λ n. n == 10)) (told _ _ _ _ _ _ _ refl chain root links) }
