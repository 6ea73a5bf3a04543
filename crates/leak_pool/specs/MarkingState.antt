-- How far the marking of a model has come.
use Rattle.std.specs.Prelude.{◌≡◌, ℕ, ◌+◌, ◌<◌, ◌≤◌, ◌^◌, List, [], ◌∷◌, ◌++◌, length, flat_map, replicate}
use Rattle.std.specs.List.{concat}
use Rattle.leak_marks.specs.Lists.{Within}
use Rattle.leak_marks.specs.Seats.{held, IsSound}
use Rattle.leak_pool.specs.Items.{targets_at, targets_of_block, InRange}
use Rattle.leak_pool.specs.SearchModel.{SearchModel}
use Rattle.leak_pool.specs.Promises.{AreOfWorkers, as_lists}
use Rattle.leak_pool.specs.Rounds.{IsStep, Going}
use Rattle.leak_pool.specs.Course.{Round, IsCourse, sizes_by_round}
use Rattle.leak_pool.specs.Gates.{HavePassed}
use Rattle.leak_pool.specs.declared.target_source.Item.{Item}
use Rattle.leak_pool.specs.declared.marking_state.MarkingState.{MarkingState}

-- for each worker, the blocks that it claimed
abbrev pub claims_of : MarkingState → List (List ℕ)
claims_of p = as_lists p.claims.items

-- the seat is whole, and there are as many lists and numbers of steps as workers
pub record IsReady (model : SearchModel) (p : MarkingState) : Type 0 where
  pub table : p.seat.table ≡ model.table
  pub sound : IsSound p.seat
  pub whole : p.seat.share ≡ 4294967296
  pub lists : length p.claims.items ≡ model.workers
  pub counts : length p.steps.items ≡ model.workers

-- nothing is claimed yet
pub record IsFresh (model : SearchModel) (p : MarkingState) : Type 0 where
  pub ready : IsReady model p
  pub unseated : p.seat ≡ held model.table [] [] 4294967296
  pub unclaimed : claims_of p ≡ replicate model.workers []
  pub idle : p.waiting.items ≡ []
  pub unmade : p.steps.items ≡ replicate model.workers 0

-- between two rounds
pub record IsBetweenRounds (model : SearchModel) (p : MarkingState) : Type 0 where
  pub ready : IsReady model p
  pub small : length model.targets < 2 ^ 32
  pub few : length p.waiting.items ≤ length p.seat.claims
  pub going :
      Going model.roots model.targets model.given model.workers (claims_of p) p.waiting.items p.seat

-- what the items of rounds lead to
abbrev pub led_in : (ℕ → List ℕ) → List ℕ → List Round → List ℕ
led_in blocks led [] = []
led_in blocks led (r ∷ rounds) = led ++ led_in blocks (flat_map blocks (r.caller ++ r.left)) rounds

-- so many rounds led to these lists and to these blocks that wait, and what their items lead to is seen
abbrev pub HaveCome : List (List ℕ) → List (List ℕ) → ℕ → ℕ → ℕ → List (List ℕ) → List ℕ → List ℕ → Type 0
HaveCome roots targets workers stack count claims waiting seen =
    (rounds : List Round) × (length rounds ≡ count) × IsCourse roots targets workers stack claims waiting rounds
    × Within (led_in (targets_of_block targets) (concat roots) rounds) seen

abbrev pub HasCourse : SearchModel → MarkingState → ℕ → Type 0
HasCourse model p count =
    HaveCome model.roots model.targets model.workers model.stack count (claims_of p) p.waiting.items p.seat.seen

-- there is a course of one round more than these, of which there are so many
abbrev pub HasRoundMore : SearchModel → MarkingState → ℕ → List Round → Type 0
HasRoundMore model p count rounds =
    (next : HasCourse model p (count + 1)) × (r : Round) × (next.0 ≡ rounds ++ r ∷ [])

-- there is a course of so many rounds, and if the gate let the workers through the first, from these steps, it did so in all
abbrev pub HasCourseThrough : (ℕ → ℕ → Type 0) → SearchModel → List ℕ → MarkingState → ℕ → Type 0
HasCourseThrough passed model steps p count =
    (course : HasCourse model p count)
    × (HavePassed passed model.workers (length model.roots ∷ []) steps
    → HavePassed passed model.workers (sizes_by_round (length model.roots) course.0) p.steps.items)

-- What these items lead to was scanned: what the seat claimed is on the lists of the workers, and what was left waits.
-- `own` says whose claims are whose.
abbrev pub HasScanned : (ℕ → Type 0) → (List (List ℕ) → List ℕ → Type 0) → SearchModel → MarkingState → MarkingState → Type 0
HasScanned item own model before after =
    (gained : List (List ℕ)) × (left : List ℕ)
    × IsStep (targets_of_block model.targets) item model.workers
    (claims_of before) before.waiting.items before.seat
    (claims_of after) after.waiting.items after.seat gained left
    × own gained left

-- the workers shared the items out
abbrev pub AreOfShares : SearchModel → List Item → List (List ℕ) → List ℕ → Type 0
AreOfShares model items gained left =
    AreOfWorkers (targets_of_block model.targets) (targets_at model.roots model.targets items)
    model.stack (length items) model.workers 0 gained left

-- one worker scanned an item, and left all that it claimed
abbrev pub AreOfOne : List ℕ → List (List ℕ) → List ℕ → Type 0
AreOfOne targets gained left = (gained ≡ left ∷ []) × Within left targets

-- one of the items leads to the block
abbrev pub InItems : SearchModel → List Item → ℕ → Type 0
InItems model items = InRange (targets_at model.roots model.targets items) 0 (length items)
