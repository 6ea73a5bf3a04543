-- The graph of a log's blocks.
use Rattle.std.proofs.Common.{◌≡◌, ℕ, ◌<◌, List, [], length, map, get_or, Option, refl}
use Rattle.std.proofs.lemmas.List.{get_or-map}
use Rattle.leak_blocks.specs.declared.block.Block.{Block}
use Rattle.leak_index.specs.Hits.{Index}
use Rattle.leak_scan.specs.Targets.{block_words, block_targets, targets_of}
use Rattle.leak_marks.specs.Reach.{targets_of as targets_in}
use Rattle.leak_pool.specs.Marking.{graph_of}

pub graph-first : (word_at : ℕ → Option ℕ) (index : Index) (first given : List ℕ) → (graph_of word_at index first given).first ≡ first
unfolding graph_of
graph-first word_at index first given = refl

pub graph-given : (word_at : ℕ → Option ℕ) (index : Index) (first given : List ℕ) → (graph_of word_at index first given).given ≡ given
unfolding graph_of
graph-given word_at index first given = refl

pub graph-targets : (word_at : ℕ → Option ℕ) (index : Index) (first given : List ℕ) → (graph_of word_at index first given).targets ≡ map (block_targets word_at index) index.blocks
unfolding graph_of
graph-targets word_at index first given = refl

pub graph-block : (word_at : ℕ → Option ℕ) (index : Index) (first given : List ℕ) (b : ℕ) (d : Block) → b < length index.blocks → targets_in (graph_of word_at index first given) b ≡ targets_of index (block_words word_at (get_or index.blocks b d))
unfolding graph_of block_targets
graph-block word_at index first given b d h = get_or-map (block_targets word_at index) index.blocks b d [] h
