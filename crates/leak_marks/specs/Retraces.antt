-- Marking from a start comes to what marking of all from it comes to (Boehm, Demers, Shenker, PLDI 1991).
use Rattle.std.specs.Prelude.{ℕ, ◌⊎◌, ◌↔◌, List, [], ◌++◌, slice_index_or}
use Rattle.leak_marks.specs.Lists.{Has}
use Rattle.leak_marks.specs.Reach.{Graph, Reach}

-- all of it: the start's blocks begin chains, as what the root words lead to does
abbrev pub whole_graph : List ℕ → List (List ℕ) → List ℕ → Graph
whole_graph roots targets start = record { first = start ++ roots; targets = targets; given = [] }

-- the retrace: the start's blocks are given, and what the scanned parts of them lead to begins chains
abbrev pub retrace_graph : List ℕ → List (List ℕ) → List ℕ → List ℕ → Graph
retrace_graph roots targets start parts = record { first = roots ++ parts; targets = targets; given = start }

-- What the parts lead to is what blocks of the start lead to, and of that nothing is left out but blocks of the start.
pub record AreEnough (targets : List (List ℕ)) (start parts : List ℕ) : Type 0 where
  pub of_start : (b : ℕ) → Has parts b → (s : ℕ) × Has start s × Has (slice_index_or targets s []) b
  pub enough : (s b : ℕ) → Has start s → Has (slice_index_or targets s []) b → Has parts b ⊎ Has start b

-- a chain of all ends at the block exactly if it is of the start or the retrace reaches it
abbrev pub RetraceIsWhole : Type 0
RetraceIsWhole = (roots : List ℕ) (targets : List (List ℕ)) (start parts : List ℕ) → AreEnough targets start parts → (b : ℕ) →
    Reach (whole_graph roots targets start) b ↔ (Has start b ⊎ Reach (retrace_graph roots targets start parts) b)
