-- Attempts of several workers at claiming blocks, in any interleaving (own rule).
use Rattle.std.specs.Prelude.{◌≡◌, ℕ, ◌<◌, List, [], ◌∷◌, map, replicate, ◌==◌, Option, Some, None, ⊤, find}
use Rattle.std.specs.List.{AllByRecursion}
use Rattle.leak_marks.specs.Lists.{Has}
use Rattle.leak_marks.specs.Reach.{Graph, targets_of}
use Rattle.leak_marks.specs.Claims.{attempted}

-- A worker tries to claim the target, which a root word (no source) or a word of the source led it to.
pub record Attempt : Type 0 where
  pub worker : ℕ
  pub source : Option ℕ
  pub target : ℕ

-- the lists after a run
abbrev pub after : List (List ℕ) → List Attempt → List (List ℕ)
after lists [] = lists
after lists (a ∷ run) = after (attempted lists a.worker a.target) run

-- the lists after a run from empty ones
abbrev pub claims_after : ℕ → List Attempt → List (List ℕ)
claims_after workers run = after (replicate workers []) run

-- the blocks attempted in a run
abbrev pub targets_in : List Attempt → List ℕ
targets_in run = map (λ a. a.target) run

-- the first attempt at the block is the worker's
abbrev pub IsFirstBy : ℕ → ℕ → List Attempt → Type 0
IsFirstBy worker block run = (a : Attempt) × (find (λ x. x.target == block) run ≡ Some a) × (a.worker ≡ worker)

-- the target is led to by the source: by a root word, or by a word of a block among the earlier ones
abbrev pub IsLedTo : Graph → List ℕ → Option ℕ → ℕ → Type 0
IsLedTo graph earlier None target = Has graph.first target
IsLedTo graph earlier (Some source) target = Has earlier source × Has (targets_of graph source) target

-- Each target is outside the given blocks, and led to by its source, which is attempted earlier in the run.
abbrev pub IsLawfulAfter : Graph → List ℕ → List Attempt → Type 0
IsLawfulAfter graph earlier [] = ⊤
IsLawfulAfter graph earlier (a ∷ run) =
    ¬ Has graph.given a.target × IsLedTo graph earlier a.source a.target × IsLawfulAfter graph (a.target ∷ earlier) run

-- A lawful run of this many workers that leaves nothing out: each block outside the given ones to which a root
-- word, or a word of an attempted block, leads is attempted.
pub record IsWholeRun (graph : Graph) (workers : ℕ) (run : List Attempt) : Type 0 where
  pub in_range : AllByRecursion (λ a. a.worker < workers) run
  pub lawful : IsLawfulAfter graph [] run
  pub first : (block : ℕ) → Has graph.first block → ¬ Has graph.given block → Has (targets_in run) block
  pub next : (source block : ℕ) → Has (targets_in run) source → Has (targets_of graph source) block → ¬ Has graph.given block → Has (targets_in run) block
