-- The course of marking, round by round, as plain lists (own rule).
use Rattle.std.specs.Prelude.{◌≡◌, ℕ, ◌+◌, ◌-◌, ◌<◌, ◌≤◌, List, [], ◌∷◌, ◌++◌, length, map, flat_map, replicate, slice_index_or, Option, ⊤}
use Rattle.std.specs.List.{concat}
use Rattle.leak_index.specs.Hits.{Index}
use Rattle.leak_roots.specs.Cut.{pieces_of}
use Rattle.leak_roots.specs.Places.{Places}
use Rattle.leak_roots.specs.Pieces.{AreCut}
use Rattle.leak_roots.specs.declared.piece.Piece.{Piece}
use Rattle.leak_marks.specs.Lists.{Has, Within}
use Rattle.leak_marks.specs.Rounds.{appended_from}
use Rattle.leak_pool.specs.Gates.{AreAllPassed}
use Rattle.leak_pool.specs.Items.{targets_of_block}
use Rattle.leak_pool.specs.Marking.{lists_of}
use Rattle.leak_pool.specs.Plan.{Numbers}
use Rattle.leak_pool.specs.Promises.{AreOfWorkers}
use Rattle.leak_pool.specs.Scopes.{root_targets, all_targets}
use Rattle.leak_pool.specs.declared.marked.Marked.{Marked}
use Rattle.leak_pool.specs.declared.start.Part.{Part}

-- A round: what the caller claimed before the workers started, what each worker claimed then, and which of the workers'
-- claims were left.
pub record Round : Type 0 where
  pub caller : List ℕ
  pub gained : List (List ℕ)
  pub left : List ℕ

-- the lists of claims, with those of a round after them: the caller's are on the list of worker 0
abbrev pub with_round : List (List ℕ) → Round → List (List ℕ)
with_round claims r = appended_from 0 (appended_from 0 claims (r.caller ∷ [])) r.gained

abbrev pub with_rounds : List (List ℕ) → List Round → List (List ℕ)
with_rounds claims [] = claims
with_rounds claims (r ∷ rounds) = with_rounds (with_round claims r) rounds

-- what rounds claimed
abbrev pub claims_in : List Round → List ℕ
claims_in [] = []
claims_in (r ∷ rounds) = (r.caller ++ concat r.gained) ++ claims_in rounds

-- The workers shared out items that lead to these lists. Each claim on the list of worker k is a target of an item of
-- its share, or of an earlier claim of that list, and what was left was claimed. What was left is what stacks could not hold:
-- together at most as many blocks as each worker claimed above what its stack holds, so none if each claimed no more than
-- that. With stacks of no entry each is a target of an item, and all is left.
pub record IsShared (blocks : ℕ → List ℕ) (workers stack : ℕ) (items : List (List ℕ)) (r : Round) : Type 0 where
  pub few : length r.gained ≤ workers
  pub own : AreOfWorkers blocks (λ k. slice_index_or items k []) stack (length items) workers 0 r.gained r.left
  pub of_gained : Within r.left (concat r.gained)

-- Later rounds, from blocks that wait to those that wait at the end. In each the caller scans the first that waits, and
-- the workers share out the others; what it claimed and what they left waits then. There is a round only if a block waits.
abbrev pub AreLater : (ℕ → List ℕ) → ℕ → ℕ → List ℕ → List Round → List ℕ → Type 0
AreLater blocks workers stack waiting [] end = waiting ≡ end
AreLater blocks workers stack [] (r ∷ rounds) end = ⊥
AreLater blocks workers stack (b ∷ waiting) (r ∷ rounds) end =
    Within r.caller (blocks b) × IsShared blocks workers stack (map blocks waiting) r
    × AreLater blocks workers stack (r.caller ++ r.left) rounds end

-- All rounds: in the first the workers share out the parts of the roots, and the caller claims nothing.
abbrev pub AreRounds : List (List ℕ) → List (List ℕ) → ℕ → ℕ → List Round → List ℕ → Type 0
AreRounds roots targets workers stack [] end = ⊥
AreRounds roots targets workers stack (r ∷ rounds) end =
    (r.caller ≡ []) × IsShared (targets_of_block targets) workers stack roots r
    × AreLater (targets_of_block targets) workers stack (r.caller ++ r.left) rounds end

-- What the items of a round lead to is claimed in no later round: the items of the first lead to `led`, those of the others
-- are the blocks that waited.
abbrev pub AreTimely : (ℕ → List ℕ) → List ℕ → List Round → Type 0
AreTimely blocks led [] = ⊤
AreTimely blocks led (r ∷ rounds) =
    ((b : ℕ) → Has led b → Has (claims_in rounds) b → ⊥)
    × AreTimely blocks (flat_map blocks (r.caller ++ r.left)) rounds

-- The rounds led to these lists of claims, and to these blocks that wait.
pub record IsCourse (roots targets : List (List ℕ)) (workers stack : ℕ) (claims : List (List ℕ))
    (waiting : List ℕ) (rounds : List Round) : Type 0 where
  pub some : 0 < workers
  pub are : AreRounds roots targets workers stack rounds waiting
  pub timely : AreTimely (targets_of_block targets) (concat roots) rounds
  pub claims_are : claims ≡ with_rounds (replicate workers []) rounds

-- so many rounds did
abbrev pub HaveLed : List (List ℕ) → List (List ℕ) → ℕ → ℕ → ℕ → List (List ℕ) → List ℕ → Type 0
HaveLed roots targets workers stack count claims waiting =
    (rounds : List Round) × (length rounds ≡ count) × IsCourse roots targets workers stack claims waiting rounds

-- Marking with a plan went by rounds over pieces of the roots and parts of blocks, in this order, until no block waited.
-- If there is no block there is no round.
abbrev pub IsByRounds : (ℕ → Option ℕ) → Index → Places → List ℕ → List (ℕ × Part) → Numbers → Marked → Type 0
IsByRounds word_at index places pages rescan plan m =
    (pieces : List Piece) × AreCut places plan.piece pieces
    × (0 < length index.blocks → HaveLed (root_targets word_at index places pieces pages rescan)
    (all_targets word_at index) plan.workers plan.stack m.rounds (lists_of m) [])

-- How many items the workers share out in each round. The first has so many; each later one has one fewer than there are
-- blocks that wait before it, since the caller scans the first of them.
abbrev pub sizes_by_round : ℕ → List Round → List ℕ
sizes_by_round first [] = []
sizes_by_round first (r ∷ rounds) = first ∷ sizes_by_round (length (r.caller ++ r.left) - 1) rounds

-- so many rounds did, and a gate let every worker through at each of its steps, one for each item of its shares in them
abbrev pub HaveGone : (ℕ → ℕ → Type 0) → ℕ → List (List ℕ) → List (List ℕ) → ℕ → ℕ → ℕ → List (List ℕ) → List ℕ → Type 0
HaveGone passed first roots targets workers stack count claims waiting =
    (rounds : List Round) × (length rounds ≡ count) × IsCourse roots targets workers stack claims waiting rounds
    × AreAllPassed passed workers (sizes_by_round first rounds)

-- Marking with a plan went by such rounds through a gate. Items of the first are the pieces that the plan's size cuts the
-- roots into, and the parts of blocks.
abbrev pub IsThroughGate : (ℕ → ℕ → Type 0) → (ℕ → Option ℕ) → Index → Places → List ℕ → List (ℕ × Part) → Numbers → Marked → Type 0
IsThroughGate passed word_at index places pages rescan plan m =
    AreCut places plan.piece (pieces_of plan.piece places)
    × (0 < length index.blocks → HaveGone passed (length (pieces_of plan.piece places) + length rescan)
    (root_targets word_at index places (pieces_of plan.piece places) pages rescan) (all_targets word_at index)
    plan.workers plan.stack m.rounds (lists_of m) [])
