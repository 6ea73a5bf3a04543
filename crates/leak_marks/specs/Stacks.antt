-- Workers that scan blocks of their own lists in the step in which they claimed them, by stacks of any size: what is
-- left of the lists waits. With a stack of no entry each claim is left, as in rounds.
use Rattle.std.specs.Prelude.{◌≡◌, ◌⊎◌, ℕ, List, [], ◌∷◌, ◌++◌}
use Rattle.leak_marks.specs.Lists.{Has, Within}
use Rattle.leak_marks.specs.Rounds.{IsKept, IsKeptInRounds}

-- A worker that keeps the promise of a step scans an item more: what it claims follows its list, and is left.
abbrev pub ItemsAreKept : Type 0
ItemsAreKept = (targets : ℕ → List ℕ) (items targets_of_item before between after list more left later : List ℕ)
    → IsKept targets (Has items) before between (list ∷ []) left
    → IsKeptInRounds (Has targets_of_item) between after more
    → Within left later → Within more later
    → IsKept targets (Has (items ++ targets_of_item)) before after ((list ++ more) ∷ []) later

-- It scans a block of its list: the block is no longer left, and what is claimed now follows the list, and is left.
abbrev pub OwnBlocksAreKept : Type 0
OwnBlocksAreKept = (targets : ℕ → List ℕ) (items before between after list more left later : List ℕ) (block : ℕ)
    → IsKept targets (Has items) before between (list ∷ []) left → Has list block
    → IsKeptInRounds (Has (targets block)) between after more
    → ((s : ℕ) → Has left s → (s ≡ block) ⊎ Has later s) → Within more later
    → IsKept targets (Has items) before after ((list ++ more) ∷ []) later

-- Before its first item a worker has claimed nothing, and nothing is left.
abbrev pub NothingIsKept : Type 0
NothingIsKept = (targets : ℕ → List ℕ) (seen : List ℕ) → IsKept targets (Has []) seen seen ([] ∷ []) []
