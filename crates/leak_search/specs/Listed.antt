-- An input that is listed: what its blocks and its root words lead to, and the numbers of the report's first lines.
use Rattle.std.specs.Prelude.{◌≡◌, ℕ, ◌-◌, ◌^◌, ◌<◌, Bool, ◌&&◌, nat_le, nat_lt, if◌then◌else◌, List, length, Option, None, Result, Vec, IfOk, IfSome, IfNone, IsErrOf}
use Rattle.std.specs.declared.alloc.Global.{Global}
use Rattle.std.specs.Option.{option_map_or}
use Rattle.leak_elf.specs.Words.{word_of}
use Rattle.leak_mtrace.specs.declared.line.Line.{Line}
use Rattle.leak_blocks.specs.declared.block.Block.{Block}
use Rattle.leak_index.specs.Hits.{Index}
use Rattle.leak_index.specs.Leads.{Distances}
use Rattle.leak_roots.specs.Places.{Places}
use Rattle.leak_marks.specs.Lists.{Has}
use Rattle.leak_pool.specs.Edges.{IsOver, row_size, share_of}
use Rattle.leak_pool.specs.Listing.{AreFirstOf, AreListsOf, AreWithin, IsListingOf}
use Rattle.leak_pool.specs.Marking.{led_by_roots}
use Rattle.leak_pool.specs.Scopes.{all_targets}
use Rattle.leak_pool.specs.declared.block_lists.BlockLists.{BlockLists}
use Rattle.leak_pool.specs.declared.error.PoolError.{PoolError}
use Rattle.leak_pool.specs.declared.error.PoolError.TheVariants.{TooMany}
use Rattle.leak_report.specs.declared.head.Head.{Head}
use Rattle.leak_search.specs.Inputs.{AreRootsFor, IsInput}
use Rattle.leak_search.specs.LeftOut.{leaves_out_freed_alone}
use Rattle.leak_search.specs.Report.{head_with}
use Rattle.leak_search.specs.declared.inputs.Input.{Input}
use Rattle.leak_search.specs.declared.listed.ListedInput.{ListedInput}

-- the root words at these places lead to what all root words of the input lead to, and the first lines tell of all
pub record AreLeadingFor (lines : List Line) (input : Input) (index : Index) (head : Head) (places : Places) : Type 0 where
  pub all : Places
  pub roots : AreRootsFor lines input all
  pub head_is : head ≡ head_with input all None
  pub led : led_by_roots (word_of input.image) index places ≡ led_by_roots (word_of input.image) index all

-- so many blocks that to find the root words between them takes several times as long as the start of a thread (own rule)
abbrev pub has_many_blocks : List Block → Bool
has_many_blocks blocks = nat_le 16384 (length blocks)

-- whether one of so many workers finds the root words while the others list what blocks lead to
abbrev pub lists_beside : Input → ℕ → Bool
lists_beside input workers = nat_lt 2 workers && has_many_blocks input.live.blocks && leaves_out_freed_alone input.skip

-- how many of them list what blocks lead to
abbrev pub listers : Input → ℕ → ℕ
listers input workers = if lists_beside input workers then workers - 1 else workers

-- how many targets each of so many workers has room for, in this room or in any
abbrev pub share_in : Option ℕ → ℕ → ℕ
share_in room workers = option_map_or (λ r. share_of r workers) room (2 ^ 32 - 1)

-- the live blocks of an input, and the reading
abbrev pub index_in : Input → Distances → Index
index_in input reading = record { blocks = input.live.blocks; reading = reading }

-- of some worker the blocks lead to more than its share
abbrev pub IsOverIn : Input → Index → ℕ → ℕ → Type 0
IsOverIn input index workers share =
    IsOver (all_targets (word_of input.image) index) (row_size (length input.live.blocks) workers) share

-- only of an input with too many blocks it is told that it has too many
abbrev pub IsToldOfMany : {T : Type 0} → Input → Result T PoolError → Type 0
IsToldOfMany input result = IsErrOf result TooMany → 2 ^ 32 - 1 < length input.live.blocks

-- what each block leads to was listed by so many workers, each within its share; or one has more
pub record AreBlocksListed (input : Input) (index : Index) (workers share : ℕ) (result : Result (Option BlockLists) PoolError) : Type 0 where
  pub many : IsToldOfMany input result
  pub value : IfOk result (λ lists. IfSome lists (AreListsOf (word_of input.image) index))
  pub within : IfOk result (λ lists. IfSome lists (λ l. AreWithin (length input.live.blocks) workers share l.rows.items))
  pub over : IfOk result (λ lists. IfNone lists (IsOverIn input index workers share))

-- these are the blocks that the root words of the input lead to, and the first lines tell of these words
pub record IsFirstOf (lines : List Line) (input : Input) (index : Index) (head : Head) (first : List ℕ) : Type 0 where
  pub places : Places
  pub roots : AreRootsFor lines input places
  pub head_is : head ≡ head_with input places None
  pub blocks : AreFirstOf (word_of input.image) index places first

-- they are, whichever lines the input's log has
pub record IsFirstListed (input : Input) (index : Index) (result : Result (Head × Vec ℕ Global) PoolError) : Type 0 where
  pub many : IsToldOfMany input result
  pub inside : IfOk result (λ first. (b : ℕ) → Has first.1.items b → b < length input.live.blocks)
  pub led : (lines : List Line) → IsInput lines input → IfOk result (λ first. IsFirstOf lines input index first.0 first.1.items)

-- the listing is of the input's blocks and of its root words, and the first lines tell of these
pub record IsListedBy (lines : List Line) (input : Input) (reading : Distances) (listed : ListedInput) : Type 0 where
  pub places : Places
  pub roots : AreRootsFor lines input places
  pub head_is : listed.head ≡ head_with input places None
  pub listing : IsListingOf (word_of input.image) (index_in input reading) places listed.listing

-- it is, whichever lines the input's log has
abbrev pub IsListedInput : Input → Distances → ListedInput → Type 0
IsListedInput input reading listed = (lines : List Line) → IsInput lines input → IsListedBy lines input reading listed

-- it is, listed by so many workers, each within its share; or one has more
pub record IsListedBySome (input : Input) (reading : Distances) (workers share : ℕ) (result : Result (Option ListedInput) PoolError) : Type 0 where
  pub many : IsToldOfMany input result
  pub value : IfOk result (λ listed. IfSome listed (IsListedInput input reading))
  pub within : IfOk result (λ listed. IfSome listed (λ l. AreWithin (length input.live.blocks) workers share l.listing.rows.items))
  pub over : IfOk result (λ listed. IfNone listed (IsOverIn input (index_in input reading) workers share))
