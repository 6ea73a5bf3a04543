-- Parts of a step that keep their promise keep it together: halves beside one another, and parts one after the other.
use Rattle.std.specs.Prelude.{◌≡◌, ℕ, List, [], ◌∷◌, ◌++◌, replicate, ⊤}
use Rattle.std.specs.List.{concat}
use Rattle.leak_marks.specs.Lists.{Has, Within}
use Rattle.leak_marks.specs.Reach.{Graph}
use Rattle.leak_marks.specs.Rounds.{IsKept, IsKeptInRounds, IsNext, Step, AllIsClaimed, AreOfAWholeRun, appended_from, claims_of, waiting_of, seen_of}

-- two halves, each on a seat of its own that had seen the same, and the seats are joined
abbrev pub HalvesAreKept : Type 0
HalvesAreKept = (targets : ℕ → List ℕ) (lower upper before after after' : List ℕ) (gained gained' : List (List ℕ))
    (left left' : List ℕ)
    → IsKept targets (Has lower) before after gained left → IsKept targets (Has upper) before after' gained' left'
    → IsKept targets (Has (lower ++ upper)) before (after ++ after') (gained ++ gained') (left ++ left')

-- two parts on one seat, one after the other
abbrev pub PartsInTurnAreKept : Type 0
PartsInTurnAreKept = (targets : ℕ → List ℕ) (lower upper before between after : List ℕ) (gained gained' : List (List ℕ))
    (left left' : List ℕ)
    → IsKept targets (Has lower) before between gained left → IsKept targets (Has upper) between after gained' left'
    → IsKept targets (Has (lower ++ upper)) before after (gained ++ gained') (left ++ left')

-- if no worker scans what it claimed, all claims are left
abbrev pub RoundsAreKept : Type 0
RoundsAreKept = (targets : ℕ → List ℕ) (items before after : List ℕ) (gained : List (List ℕ))
    → IsKeptInRounds (Has items) before after (concat gained)
    → IsKept targets (Has items) before after gained (concat gained)

-- each step keeps the promise of a round, and has root words or blocks claimed before as its items
abbrev pub AreKeptInRounds : Graph → ℕ → List (List ℕ) → List ℕ → List ℕ → List Step → Type 0
AreKeptInRounds graph workers claims waiting seen [] = ⊤
AreKeptInRounds graph workers claims waiting seen (s ∷ steps) =
    IsKeptInRounds (Has s.items) seen s.seen (concat s.gained)
    × (s.left ≡ concat s.gained)
    × IsNext graph workers (Has s.items) claims s.gained s.left waiting s.later
    × AreKeptInRounds graph workers (appended_from 0 claims s.gained) s.later s.seen steps

-- rounds that keep their promise, from no claim to no block that waits, make a whole run with the workers' lists
abbrev pub RoundsMakeARun : Type 0
RoundsMakeARun = (graph : Graph) (workers : ℕ) (seen : List ℕ) (steps : List Step) → Within graph.given seen
    → AreKeptInRounds graph workers (replicate workers []) [] seen steps → waiting_of [] steps ≡ []
    → Within graph.first (seen_of seen steps) → AllIsClaimed graph (claims_of (replicate workers []) steps) (seen_of seen steps)
    → AreOfAWholeRun graph workers (claims_of (replicate workers []) steps)
