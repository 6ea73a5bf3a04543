-- What is searched, and what of it the workers of a round scan.
use Rattle.std.specs.Prelude.{◌≡◌, ℕ, ◌<◌, ◌≤◌, ◌^◌, List, length, All}
use Rattle.leak_marks.specs.Seats.{TableId, Held, IsSound}
use Rattle.leak_pool.specs.Items.{IsItem, targets_at, targets_of_block, InRange, share}
use Rattle.leak_pool.specs.declared.target_source.Item.{Item}

-- the table of the marks, what each part of the roots and each block leads to, the blocks that are marked before, how
-- many workers there are, and how many entries a worker's stack has at most
pub record SearchModel : Type 0 where
  pub table : TableId
  pub roots : List (List ℕ)
  pub targets : List (List ℕ)
  pub given : List ℕ
  pub workers : ℕ
  pub stack : ℕ

-- the marks are of these blocks, blocks alone are marked before, and there are 1 to 64 workers
pub record IsSearch (blocks : ℕ) (targets : List (List ℕ)) (given : List ℕ) (workers : ℕ)
    : Type 0 where
  pub each : blocks ≡ length targets
  pub small : length targets < 2 ^ 32
  pub inside : All (λ b. b < length targets) given
  pub some : 0 < workers
  pub few : workers ≤ 64

-- what is scanned at once, and how many steps each worker has made before
pub record Work : Type 0 where
  pub model : SearchModel
  pub items : List Item
  pub steps : List ℕ

-- what each block leads to, and what each of the items leads to
abbrev pub blocks_of : Work → ℕ → List ℕ
blocks_of work = targets_of_block work.model.targets

abbrev pub items_of : Work → ℕ → List ℕ
items_of work = targets_at work.model.roots work.model.targets work.items

-- each is an item of the model, and there is a number of steps for each worker
pub record IsRound (model : SearchModel) (items : List Item) (steps : List ℕ) : Type 0 where
  pub each : All (IsItem model.roots model.targets) items
  pub counts : length steps ≡ model.workers

-- the seat is of the model's table, and sound
pub record IsSeatOf (model : SearchModel) (seat : Held) : Type 0 where
  pub table : seat.table ≡ model.table
  pub sound : IsSound seat

-- where the share of a worker begins
abbrev pub share_of : Work → ℕ → ℕ
share_of work worker = share worker (length work.items) work.model.workers

-- an item in the shares of the workers from low up to high leads to the block
abbrev pub InShares : Work → ℕ → ℕ → ℕ → Type 0
InShares work low high = InRange (items_of work) (share_of work low) (share_of work high)

-- the workers from low up to middle have an item, and so have those from there up to high
abbrev pub HaveBoth : Work → ℕ → ℕ → ℕ → Type 0
HaveBoth work low middle high =
    (share_of work low < share_of work middle) × (share_of work middle < share_of work high)
