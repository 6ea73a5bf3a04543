-- The blocks that a word leads to.
use Rattle.std.specs.Prelude.{ℕ, ◌+◌, List, [], ◌∷◌, if◌then◌else◌}
use Rattle.leak_blocks.specs.declared.block.Block.{Block}
use Rattle.leak_index.specs.declared.hits.Hits.{Hits}
use Rattle.leak_index.specs.declared.hits.Hits.TheVariants.{Zero, One, Two}
use Rattle.leak_index.specs.Leads.{Distances, leads}

-- the blocks by ascending start, and the reading
pub record Index : Type 0 where
  pub blocks : List Block
  pub reading : Distances

-- the numbers of the blocks that the word leads to, if the first block of the list has the number n
abbrev pub hits_from : ℕ → Distances → List Block → ℕ → List ℕ
hits_from n reading [] word = []
hits_from n reading (b ∷ blocks) word = if leads reading word b then n ∷ hits_from (n + 1) reading blocks word else hits_from (n + 1) reading blocks word

-- the numbers of the blocks that the word leads to, ascending
unfoldable pub hits_of : Index → ℕ → List ℕ
hits_of index word = hits_from 0 index.reading index.blocks word

-- the numbers that an answer has
abbrev pub hits_in : Hits → List ℕ
hits_in Zero = []
hits_in (One i) = i ∷ []
hits_in (Two i j) = i ∷ j ∷ []
