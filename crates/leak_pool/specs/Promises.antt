-- What scanning comes to.
use Rattle.std.specs.Prelude.{◌≡◌, ℕ, ◌+◌, ◌-◌, ◌*◌, ◌<◌, ◌≤◌, ◌⊎◌, ⊤, List, [], ◌∷◌, ◌++◌, length, map, sum_by, take, drop, Result, IfOk, Vec, vec_capacity}
use Rattle.std.specs.declared.alloc.Global.{Global}
use Rattle.std.specs.declared.alloc.AllocError.{AllocError}
use Rattle.std.specs.List.{concat}
use Rattle.leak_marks.specs.Rounds.{AreLed, IsKept, IsKeptInRounds}
use Rattle.leak_pool.specs.Items.{InRange, share}
use Rattle.leak_pool.specs.Gates.{ArePassed}
use Rattle.leak_pool.specs.SearchModel.{Work, InShares, blocks_of, items_of}
use Rattle.leak_pool.specs.declared.hand.Hand.{Hand}
use Rattle.leak_pool.specs.declared.task.Gains.{Gains}
use Rattle.leak_marks.specs.Lists.{Has, Within}
use Rattle.leak_marks.specs.Seats.{Held, IsSound}

-- The seat had seen `before` and the list had these claims; then `after` and `longer`. What an item leads to is seen, except `rest`.
pub record IsScanned (item : ℕ → Type 0) (rest : List ℕ) (before list after longer : List ℕ)
    : Type 0 where
  pub keeps : Within before after
  pub covers : (b : ℕ) → item b → Has after b ⊎ Has rest b
  pub gains : (b : ℕ) → Has longer b → Has list b ⊎ (item b × (Has before b → ⊥))
  pub grown : (more : List ℕ) × (longer ≡ list ++ more)

-- the same on the way: the seat is of the same table and has its share, and its claims go on as the list does
pub record IsScanning (item : ℕ → Type 0) (rest : List ℕ) (before : Held) (list : List ℕ)
    (after : Held) (longer : List ℕ) : Type 0 where
  pub table : after.table ≡ before.table
  pub share : after.share ≡ before.share
  pub sound : IsSound after
  pub listed : (base : List ℕ) → before.claims ≡ base ++ list → after.claims ≡ base ++ longer
  pub some : (b : ℕ) → Has rest b → item b
  pub scanned : IsScanned item rest before.seen list after.seen longer

-- The seat's claims end with a worker's list, and its stack has at most `limit` entries, and room for as many.
pub record IsHolding (limit : ℕ) (seat : Held) (hand : Hand) : Type 0 where
  pub listed : (base : List ℕ) × (seat.claims ≡ base ++ hand.list.items)
  pub few : length hand.stack.items ≤ limit
  pub room : limit ≤ vec_capacity hand.stack

-- An item was scanned: what it leads to is seen. The blocks claimed for it are on the list, and on the stack while it
-- had fewer than `limit` entries; the others are left.
pub record IsPutAway (targets : List ℕ) (limit : ℕ) (before after : Held) (hand later : Hand)
    : Type 0 where
  pub more : List ℕ
  pub claims_are : after.claims ≡ before.claims ++ more
  pub list_is : later.list.items ≡ hand.list.items ++ more
  pub stack_is : later.stack.items ≡ hand.stack.items ++ take (limit - length hand.stack.items) more
  pub left_is : later.left.items ≡ hand.left.items ++ drop (limit - length hand.stack.items) more
  pub kept : IsKeptInRounds (Has targets) before.seen after.seen more

-- A worker on the way, from no claim: its claims are those of its list. Of these, those left and those on the stack are
-- not scanned yet.
pub record IsWorking (blocks : ℕ → List ℕ) (item : ℕ → Type 0) (before after : Held)
    (list stack left : List ℕ) : Type 0 where
  pub table : after.table ≡ before.table
  pub share : after.share ≡ before.share
  pub sound : IsSound after
  pub claims_are : after.claims ≡ before.claims ++ list
  pub of_list : Within (left ++ stack) list
  pub few : length left + length stack ≤ length list
  pub kept : IsKept blocks item before.seen after.seen (list ∷ []) (left ++ stack)

-- a hand that holds nothing
abbrev pub IsEmptyHand : Hand → Type 0
IsEmptyHand hand = (hand.list.items ≡ []) × (hand.stack.items ≡ []) × (hand.left.items ≡ [])

-- a worker at the end of its share, with an empty stack
abbrev pub HasWorked : Work → ℕ → Held → Held → Hand → Type 0
HasWorked work worker before after hand =
    IsWorking (blocks_of work) (InShares work worker (worker + 1)) before after hand.list.items []
    hand.left.items

-- The lists of the workers from k on: each claim is a target of an item of that worker's share, or of an earlier claim
-- of its list.
abbrev pub AreOwn : (ℕ → List ℕ) → (ℕ → List ℕ) → ℕ → ℕ → ℕ → List (List ℕ) → Type 0
AreOwn blocks targets items workers k [] = ⊤
AreOwn blocks targets items workers k (g ∷ gained) =
    AreLed blocks (InRange targets (share k items workers) (share (k + 1) items workers)) [] g
    × AreOwn blocks targets items workers (k + 1) gained

-- The same, and what is left is what stacks could not hold: together at most as many blocks as each worker claimed above
-- what its stack holds, so none if each claimed no more than that. If stacks hold no entry all claims are left, and each is
-- a target of an item.
pub record AreOfWorkers (blocks targets : ℕ → List ℕ) (stack items workers low : ℕ)
    (gained : List (List ℕ)) (left : List ℕ) : Type 0 where
  pub own : AreOwn blocks targets items workers low gained
  pub full : length left ≤ sum_by (λ l. length l - stack) gained
  pub direct : stack ≡ 0 → AreOwn (λ s. []) targets items workers low gained
  pub all_left : stack ≡ 0 → left ≡ concat gained

-- A worker's list if its stack holds no entry: all is left, and an item leads to each claim.
pub record IsDirect (item : ℕ → Type 0) (list left : List ℕ) : Type 0 where
  pub all_left : left ≡ list
  pub of_items : (b : ℕ) → Has list b → item b

-- What a worker left of its list: at most what it claimed above what its stack holds, and all if that is no entry.
pub record IsByStack (stack : ℕ) (item : ℕ → Type 0) (list left : List ℕ) : Type 0 where
  pub full : length left ≤ length list - stack
  pub direct : stack ≡ 0 → IsDirect item list left

-- what such a worker left at the end of its share
abbrev pub HasLeft : Work → ℕ → Hand → Type 0
HasLeft work worker hand =
    IsByStack work.model.stack (InShares work worker (worker + 1)) hand.list.items hand.left.items

-- The workers from low up to high have scanned their shares of a round's items: one list for each of them, and together
-- the claims that the seat gained. Of these, the left ones are not scanned.
pub record IsHalf (blocks targets : ℕ → List ℕ) (stack items workers low high : ℕ) (before after : Held)
    (gained : List (List ℕ)) (left : List ℕ) : Type 0 where
  pub count : low + length gained ≡ high
  pub listed : after.claims ≡ before.claims ++ concat gained
  pub of_gained : Within left (concat gained)
  pub few : length left ≤ length (concat gained)
  pub own : AreOfWorkers blocks targets stack items workers low gained left
  pub kept :
      IsKept blocks (InRange targets (share low items workers) (share high items workers))
      before.seen after.seen gained left

-- what two gained, the first's first
abbrev pub AreBoth : Gains → Gains → Gains → Type 0
AreBoth a b all =
    (all.claims.items ≡ a.claims.items ++ b.claims.items)
    × (all.left.items ≡ a.left.items ++ b.left.items)

-- what each holds
abbrev pub as_lists : List (Vec ℕ Global) → List (List ℕ)
as_lists vecs = map (λ v. v.items) vecs

-- The workers from low up to high can share the seat.
pub record CanScan (work : Work) (low high : ℕ) (seat : Held) : Type 0 where
  pub table : seat.table ≡ work.model.table
  pub sound : IsSound seat
  pub some : low < high
  pub workers : high ≤ work.model.workers
  pub share : 3 * (high - low) ≤ seat.share + 4

-- They have scanned, unless memory ran out: the seat is of the same table and has its share, there are the lists, and
-- each worker was let through to each of its items.
pub record HaveScanned (work : Work) (passed : ℕ → ℕ → Type 0) (low high : ℕ) (before after : Held)
    (gained : Result Gains AllocError) : Type 0 where
  pub table : after.table ≡ before.table
  pub share : after.share ≡ before.share
  pub sound : IsSound after
  pub done : IfOk gained (λ g.
      IsHalf (blocks_of work) (items_of work) work.model.stack (length work.items) work.model.workers low high
      before after (as_lists g.claims.items) g.left.items)
  pub gate : IfOk gained (λ _. ArePassed passed (length work.items) work.model.workers low high)
