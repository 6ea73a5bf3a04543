-- Each row is computed: a chain, and levels of the blocks, or a set that chains don't leave.
use Rattle.std.proofs.Common.{refl, [], ◌∷◌}
use Rattle.leak_index.specs.Hits.{hits_of}
use Rattle.leak_elf.specs.Words.{words_between}
use Rattle.leak_scan.specs.Targets.{block_targets, targets_of}
use Rattle.leak_pool.specs.Marking.{graph_of}
use Rattle.leak_examples.proofs.ChainTests.{answers, leaked}
use Rattle.leak_examples.proofs.why.worked_distances.Goals as goal

pub returns : goal.returns
unfolding hits_of words_between block_targets targets_of graph_of
returns c = record {
  listed = answers _ _ _ _ _ _ (0 ∷ []) refl;
  start = answers _ _ _ _ _ _ (0 ∷ []) refl;
  not_listed = leaked _ _ _ _ ([]) refl refl;
  end_not_listed = leaked _ _ _ _ ([]) refl refl;
  in_a_block = answers _ _ _ _ _ _ (0 ∷ 1 ∷ []) refl;
  not_listed_in_a_block = leaked _ _ _ _ (0 ∷ []) refl refl;
  end_left_out = leaked _ _ _ _ ([]) refl refl;
  last_byte = answers _ _ _ _ _ _ (0 ∷ []) refl;
  end_before_a_neighbor = leaked _ _ _ _ (1 ∷ []) refl refl;
  start_of_a_neighbor = answers _ _ _ _ _ _ (0 ∷ 0 ∷ []) refl;
  empty = answers _ _ _ _ _ _ (0 ∷ []) refl;
  listed_end = leaked _ _ _ _ (1 ∷ []) refl refl;
  empty_neighbor = answers _ _ _ _ _ _ (0 ∷ 0 ∷ []) refl;
  end_in_a_block = leaked _ _ _ _ (0 ∷ []) refl refl;
}
