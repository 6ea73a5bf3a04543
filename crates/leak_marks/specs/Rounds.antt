-- Marking in steps. In a step, workers scan items, each a source of targets, and claim.
use Rattle.std.specs.Prelude.{◌≡◌, ◌⊎◌, ℕ, ◌+◌, ◌≤◌, ◌<◌, List, [], ◌∷◌, ◌++◌, length, slice_index_or, slice_set, replicate, ⊤}
use Rattle.std.specs.List.{concat, AllByRecursion}
use Rattle.leak_marks.specs.Lists.{Has, IsDistinct, Within}
use Rattle.leak_marks.specs.Reach.{Graph, targets_of}
use Rattle.leak_marks.specs.Runs.{Attempt, IsWholeRun, IsLawfulAfter, claims_after}

-- Each claim of a worker is a target of an item, or of an earlier claim of the list.
abbrev pub AreLed : (ℕ → List ℕ) → (ℕ → Type 0) → List ℕ → List ℕ → Type 0
AreLed targets item earlier [] = ⊤
AreLed targets item earlier (b ∷ claims) =
    (item b ⊎ ((s : ℕ) × Has earlier s × Has (targets s) b)) × AreLed targets item (b ∷ earlier) claims

-- What a step promises. The seat had seen `before` and has then seen `after`; `item b` says that an item leads to
-- the block b; the workers gained the claims of the lists, and left some of them unscanned.
pub record IsKept (targets : ℕ → List ℕ) (item : ℕ → Type 0) (before after : List ℕ)
    (gained : List (List ℕ)) (left : List ℕ) : Type 0 where
  pub keeps : Within before after
  pub covers : (b : ℕ) → item b → Has after b
  pub scans : (s b : ℕ) → Has (concat gained) s → Has (targets s) b → Has left s ⊎ Has after b
  pub fresh : (b : ℕ) → Has (concat gained) b → Has before b → ⊥
  pub led : AllByRecursion (AreLed targets item []) gained

-- The same if each claim is left and led to by an item: no worker scans what it claimed.
pub record IsKeptInRounds (item : ℕ → Type 0) (before after : List ℕ) (gained : List ℕ) : Type 0 where
  pub keeps : Within before after
  pub covers : (b : ℕ) → item b → Has after b
  pub fresh : (b : ℕ) → Has gained b → Has before b → ⊥
  pub gains : (b : ℕ) → Has gained b → item b

-- the gained lists appended to those of the workers, from the worker k on
abbrev pub appended_from : ℕ → List (List ℕ) → List (List ℕ) → List (List ℕ)
appended_from k lists [] = lists
appended_from k lists (g ∷ gained) = appended_from (k + 1) (slice_set lists k (slice_index_or lists k [] ++ g)) gained

-- A lawful run of this many workers has led to these lists.
pub record IsRunTo (graph : Graph) (workers : ℕ) (claims : List (List ℕ)) (run : List Attempt) : Type 0 where
  pub in_range : AllByRecursion (λ a. a.worker < workers) run
  pub lawful : IsLawfulAfter graph [] run
  pub lists : claims_after workers run ≡ claims

-- Marking has led to these lists of claims. Some blocks wait to be scanned; the seat has seen the given blocks, and
-- what the other claimed blocks lead to.
pub record IsUnderWay (graph : Graph) (workers : ℕ) (claims : List (List ℕ)) (waiting seen : List ℕ) : Type 0 where
  pub run : (run : List Attempt) × IsRunTo graph workers claims run
  pub given : Within graph.given seen
  pub scanned : (s b : ℕ) → Has (concat claims) s → Has (targets_of graph s) b → Has waiting s ⊎ Has seen b

-- nothing is claimed before the first step
abbrev pub Begins : Type 0
Begins = (graph : Graph) (workers : ℕ) (seen : List ℕ) → Within graph.given seen →
    IsUnderWay graph workers (replicate workers []) [] seen

-- A step whose items are root words or blocks claimed before. What waited and is no item waits still, and what is
-- left waits.
pub record IsNext (graph : Graph) (workers : ℕ) (item : ℕ → Type 0) (claims gained : List (List ℕ))
    (left waiting later : List ℕ) : Type 0 where
  pub items : (b : ℕ) → item b → Has graph.first b ⊎ ((s : ℕ) × Has (concat claims) s × Has (targets_of graph s) b)
  pub few : length gained ≤ workers
  pub once : IsDistinct (concat (appended_from 0 claims gained))
  pub waits : (s : ℕ) → Has waiting s → Has later s ⊎ ((b : ℕ) → Has (targets_of graph s) b → item b)
  pub rest : Within left later

-- after a step that keeps its promise, marking is under way
abbrev pub GoesOn : Type 0
GoesOn = (graph : Graph) (workers : ℕ) (items : List ℕ) (claims gained : List (List ℕ))
    (left waiting later before after : List ℕ)
    → IsUnderWay graph workers claims waiting before
    → IsKept (targets_of graph) (Has items) before after gained left
    → IsNext graph workers (Has items) claims gained left waiting later
    → IsUnderWay graph workers (appended_from 0 claims gained) later after

-- what is seen is given or claimed
abbrev pub AllIsClaimed : Graph → List (List ℕ) → List ℕ → Type 0
AllIsClaimed graph claims seen = (b : ℕ) → Has seen b → Has graph.given b ⊎ Has (concat claims) b

-- the lists are those of a lawful, complete run
abbrev pub AreOfAWholeRun : Graph → ℕ → List (List ℕ) → Type 0
AreOfAWholeRun graph workers claims =
    (run : List Attempt) × IsWholeRun graph workers run × (claims_after workers run ≡ claims)

-- nothing waits, the root words' targets are seen, and all that is seen is given or claimed: marking is at its end
abbrev pub Ends : Type 0
Ends = (graph : Graph) (workers : ℕ) (claims : List (List ℕ)) (seen : List ℕ) → IsUnderWay graph workers claims [] seen
    → Within graph.first seen → AllIsClaimed graph claims seen → AreOfAWholeRun graph workers claims

-- A step as plain data: what its items lead to, the claims of each worker, those left, the blocks that wait then, and
-- what the seat has seen then.
pub record Step : Type 0 where
  pub items : List ℕ
  pub gained : List (List ℕ)
  pub left : List ℕ
  pub later : List ℕ
  pub seen : List ℕ

-- what steps come to: the lists, the blocks that wait, and what is seen
abbrev pub claims_of : List (List ℕ) → List Step → List (List ℕ)
claims_of claims [] = claims
claims_of claims (s ∷ steps) = claims_of (appended_from 0 claims s.gained) steps

abbrev pub waiting_of : List ℕ → List Step → List ℕ
waiting_of waiting [] = waiting
waiting_of waiting (s ∷ steps) = waiting_of s.later steps

abbrev pub seen_of : List ℕ → List Step → List ℕ
seen_of seen [] = seen
seen_of seen (s ∷ steps) = seen_of s.seen steps

-- each step keeps its promise, and has root words or blocks claimed before as its items
abbrev pub AreKept : Graph → ℕ → List (List ℕ) → List ℕ → List ℕ → List Step → Type 0
AreKept graph workers claims waiting seen [] = ⊤
AreKept graph workers claims waiting seen (s ∷ steps) =
    IsKept (targets_of graph) (Has s.items) seen s.seen s.gained s.left
    × IsNext graph workers (Has s.items) claims s.gained s.left waiting s.later
    × AreKept graph workers (appended_from 0 claims s.gained) s.later s.seen steps

-- steps that keep their promise, from no claim to no block that waits, make a whole run with the workers' lists
abbrev pub StepsMakeARun : Type 0
StepsMakeARun = (graph : Graph) (workers : ℕ) (seen : List ℕ) (steps : List Step) → Within graph.given seen
    → AreKept graph workers (replicate workers []) [] seen steps → waiting_of [] steps ≡ []
    → Within graph.first (seen_of seen steps) → AllIsClaimed graph (claims_of (replicate workers []) steps) (seen_of seen steps)
    → AreOfAWholeRun graph workers (claims_of (replicate workers []) steps)
