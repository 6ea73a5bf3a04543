-- Which blocks lead to which, and the blocks that a chain reaches, after bdwgc's marking: an object is
-- accessible if a chain of pointers leads to it from a root. Blocks are numbers.
use Rattle.std.specs.Prelude.{ℕ, List, [], ◌∷◌, slice_index_or}
use Rattle.leak_marks.specs.Lists.{Has}

-- What the root words lead to; for each block, by its number, what its words lead to; and the blocks that are
-- given as marked, which no chain passes.
pub record Graph : Type 0 where
  pub first : List ℕ
  pub targets : List (List ℕ)
  pub given : List ℕ

-- what the words of a block lead to
abbrev pub targets_of : Graph → ℕ → List ℕ
targets_of graph block = slice_index_or graph.targets block []

-- Each block of the list is outside the given ones, the first is led to by a root word, and each next by
-- a word of the one before. The last block of the chain comes first in the list.
abbrev pub IsChain : Graph → List ℕ → Type 0
IsChain graph [] = ⊥
IsChain graph (block ∷ []) = ¬ Has graph.given block × Has graph.first block
IsChain graph (block ∷ source ∷ before) =
    ¬ Has graph.given block × Has (targets_of graph source) block × IsChain graph (source ∷ before)

-- a chain ends at the block
abbrev pub Reach : Graph → ℕ → Type 0
Reach graph block = (before : List ℕ) × IsChain graph (block ∷ before)
