-- Each row is computed: a chain, and levels of the blocks, or a set that chains don't leave.
use Rattle.std.proofs.Common.{refl, [], ◌∷◌}
use Rattle.leak_index.specs.Hits.{hits_of}
use Rattle.leak_chunks.specs.FreeLinks.{is_free_link}
use Rattle.leak_elf.specs.Words.{words_between}
use Rattle.leak_scan.specs.Targets.{block_targets, targets_of}
use Rattle.leak_scan.specs.RootWords.{targets_without_links}
use Rattle.leak_pool.specs.Marking.{graph_of}
use Rattle.leak_examples.proofs.ChainTests.{answers, leaked}
use Rattle.leak_examples.proofs.why.worked_chains.Goals as goal

pub returns : goal.returns
unfolding hits_of is_free_link words_between block_targets targets_of targets_without_links graph_of
returns c = record {
  by_memory = answers _ _ _ _ _ _ (0 ∷ []) refl;
  past_the_end = answers _ _ _ _ _ _ (0 ∷ []) refl;
  further = leaked _ _ _ _ ([]) refl refl;
  by_a_register = answers _ _ _ _ _ _ (0 ∷ []) refl;
  by_nothing = leaked _ _ _ _ ([]) refl refl;
  ring = leaked _ _ _ _ ([]) refl refl;
  by_a_block = answers _ _ _ _ _ _ (0 ∷ 1 ∷ []) refl;
  directly_and_by_a_block = answers _ _ _ _ _ _ (0 ∷ 0 ∷ []) refl;
  half_word = leaked _ _ _ _ (0 ∷ []) refl refl;
  ends_of_neighbors = answers _ _ _ _ _ _ (0 ∷ 0 ∷ []) refl;
  empty = answers _ _ _ _ _ _ (0 ∷ []) refl;
  free_chunk = answers _ _ _ _ _ _ (0 ∷ []) refl;
  free_chunk_left_out = leaked _ _ _ _ ([]) refl refl;
  free_chunk_in_a_register = answers _ _ _ _ _ _ (0 ∷ []) refl;
}
