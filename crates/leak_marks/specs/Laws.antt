-- What every whole run comes to, in any interleaving.
use Rattle.std.specs.Prelude.{ℕ, ◌<◌, ◌↔◌, List, [], slice_index_or}
use Rattle.leak_marks.specs.Lists.{Has}
use Rattle.leak_marks.specs.Reach.{Graph, Reach}
use Rattle.leak_marks.specs.Runs.{Attempt, IsWholeRun, IsFirstBy, claims_after, targets_in}
use Rattle.leak_marks.specs.Partition.{Partitions}

-- the attempted blocks are those that a chain reaches
abbrev pub AttemptsAreReach : Type 0
AttemptsAreReach = (graph : Graph) (workers : ℕ) (run : List Attempt) → IsWholeRun graph workers run →
    (block : ℕ) → Has (targets_in run) block ↔ Reach graph block

-- a worker's list holds the blocks whose first attempt is its own
abbrev pub ListsAreFirstAttempts : Type 0
ListsAreFirstAttempts = (graph : Graph) (workers : ℕ) (run : List Attempt) → IsWholeRun graph workers run →
    (worker block : ℕ) → worker < workers →
    Has (slice_index_or (claims_after workers run) worker []) block ↔ IsFirstBy worker block run

-- the workers' lists partition the blocks that a chain reaches
abbrev pub ListsPartitionReach : Type 0
ListsPartitionReach = (graph : Graph) (workers : ℕ) (run : List Attempt) → IsWholeRun graph workers run →
    Partitions (claims_after workers run) (Reach graph)
