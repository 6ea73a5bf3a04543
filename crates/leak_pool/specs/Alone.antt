-- Marking by one thread: its marks, its list of claims, and how far it has scanned.
use Rattle.std.specs.Prelude.{◌≡◌, ◌⊎◌, ℕ, ◌+◌, ◌<◌, ◌≤◌, Bool, true, false, List, ◌∷◌, ◌++◌, length, slice_index_or}
use Rattle.leak_marks.specs.Lists.{Has, Within, IsDistinct}
use Rattle.leak_marks.specs.Reach.{Graph, Reach, IsChain, targets_of}

-- the blocks of the list, each once, are those whose mark is set
pub record AreMarks (set : List Bool) (list : List ℕ) : Type 0 where
  pub marked : (b : ℕ) → Has list b → slice_index_or set b false ≡ true
  pub only : (b : ℕ) → slice_index_or set b false ≡ true → Has list b
  pub inside : (b : ℕ) → Has list b → b < length set
  pub once : IsDistinct list

-- the targets were claimed: the list has grown, it has all of them, and nothing else is new
pub record AreTaken (targets before after : List ℕ) : Type 0 where
  pub grown : (more : List ℕ) × (after ≡ before ++ more)
  pub covers : Within targets after
  pub gains : (b : ℕ) → Has after b → Has before b ⊎ Has targets b

-- What is listed is reached. It has what the root words lead to, and what the first blocks of the list lead to, those scanned.
pub record IsFollowed (graph : Graph) (list : List ℕ) (scanned : ℕ) : Type 0 where
  pub reached : (b : ℕ) → Has list b → Reach graph b
  pub first : Within graph.first list
  pub followed : (k b : ℕ) → k < scanned → k < length list
      → Has (targets_of graph (slice_index_or list k 0)) b → Has list b

-- a chain of fewer blocks ends there
abbrev pub EndsBelow : Graph → ℕ → ℕ → Type 0
EndsBelow graph n b = (before : List ℕ) × IsChain graph (b ∷ before) × (length (b ∷ before) < n)

-- The blocks before `end` end chains of fewer blocks than so many rounds, and the others none of more. What ends such a
-- chain stands before `end`. One of them ends none that is two blocks shorter, if there is one.
pub record IsInRounds (graph : Graph) (list : List ℕ) (scanned end rounds : ℕ) : Type 0 where
  pub some : 1 ≤ rounds
  pub scanned_are : scanned ≤ end
  pub inside : end ≤ length list
  pub early : (k : ℕ) → k < end → EndsBelow graph rounds (slice_index_or list k 0)
  pub late : (b : ℕ) → Has list b → EndsBelow graph (rounds + 1) b
  pub short : (b : ℕ) → EndsBelow graph rounds b → (k : ℕ) × (k < end) × (slice_index_or list k 0 ≡ b)
  pub last : ((end ≡ 0) × (rounds ≡ 1)) ⊎ ((k : ℕ) × (k < end) × ((before : List ℕ)
      → IsChain graph (slice_index_or list k 0 ∷ before) → rounds ≤ length (slice_index_or list k 0 ∷ before) + 1))
