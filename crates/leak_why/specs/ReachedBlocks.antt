-- Blocks in the order in which they were found, each with what led to it first.
use Rattle.std.specs.Prelude.{◌≡◌, ℕ, zero, suc, ◌<◌, ◌≤◌, List, [], ◌∷◌, ◌++◌, length, map, Option, Some, slice_get, slice_index_or, ⊤}
use Rattle.std.specs.List.{AllByRecursion}
use Rattle.leak_blocks.specs.declared.block.Block.{Block}
use Rattle.leak_index.specs.Hits.{Index}
use Rattle.leak_roots.specs.Places.{Places, addresses_in}
use Rattle.leak_scan.specs.Targets.{targets_of, block_targets}
use Rattle.leak_pool.specs.Marking.{led_by_roots, led_in_memory}
use Rattle.leak_marks.specs.Lists.{Has, Within, IsDistinct}
use Rattle.leak_marks.specs.Reach.{Graph, targets_of as targets_in}
use Rattle.leak_why.specs.declared.chain.Link.{Link}
use Rattle.leak_why.specs.Chains.{IsLink, search_graph}
use Rattle.leak_why.specs.declared.reached_block.ReachedBlock.{ReachedBlock}
use Rattle.leak_why.specs.declared.reached_block.Origin.{Origin}
use Rattle.leak_why.specs.declared.reached_block.Origin.TheVariants.{Registers, Range}
use Rattle.leak_why.specs.declared.reached_block.FirstLead.{FirstLead}
use Rattle.leak_why.specs.declared.reached_block.FirstLead.TheVariants.{Root, Earlier}

abbrev pub blocks_of : List ReachedBlock → List ℕ
blocks_of entries = map (λ e. e.block) entries

-- what the source led to was found: the list has grown by some of the targets, and has all of them now
pub record AreFound (source : FirstLead) (targets : List ℕ) (before after : List ReachedBlock) : Type 0 where
  pub more : List ReachedBlock
  pub grown : after ≡ before ++ more
  pub gains : AllByRecursion (λ e. (e.source ≡ source) × Has targets e.block) more
  pub covers : Within targets (blocks_of after)

-- what the root words of the origin lead to
abbrev pub led_of_origin : (ℕ → Option ℕ) → Index → Places → Origin → List ℕ
led_of_origin word_at index p Registers = targets_of index p.registers
led_of_origin word_at index p (Range i) =
    led_in_memory p.skips_links word_at index (addresses_in (slice_index_or p.memory i (0, 0)))

-- there are such words
abbrev pub IsOrigin : Places → Origin → Type 0
IsOrigin p Registers = ⊤
IsOrigin p (Range i) = i < length p.memory

-- if a root word led to an entry, a word of its origin did
abbrev pub AreLedByRoots : (ℕ → Option ℕ) → Index → Places → List ReachedBlock → Type 0
AreLedByRoots word_at index p es = (i : ℕ) (e : ReachedBlock) (o : Origin) → slice_get es i ≡ Some e → e.source ≡ Root o
    → IsOrigin p o × Has (led_of_origin word_at index p o) e.block

-- if an earlier entry did, a word of its block did
abbrev pub IsLedBy : (ℕ → Option ℕ) → Index → List ReachedBlock → ℕ → ReachedBlock → Type 0
IsLedBy word_at index es j e = (s : ReachedBlock) × (slice_get es j ≡ Some s) × (s.block < length index.blocks)
    × ((d : Block) → Has (block_targets word_at index (slice_index_or index.blocks s.block d)) e.block)

abbrev pub AreLedByBlocks : (ℕ → Option ℕ) → Index → List ReachedBlock → Type 0
AreLedByBlocks word_at index es = (i j : ℕ) (e : ReachedBlock) → slice_get es i ≡ Some e → e.source ≡ Earlier j
    → (j < i) × IsLedBy word_at index es j e

-- this many steps back from the entry with the number is one that a root word led to
abbrev pub IsAt : List ReachedBlock → ℕ → ℕ → Type 0
IsAt es zero i = (e : ReachedBlock) × (o : Origin) × (slice_get es i ≡ Some e) × (e.source ≡ Root o)
IsAt es (suc d) i = (e : ReachedBlock) × (j : ℕ) × (slice_get es i ≡ Some e) × (e.source ≡ Earlier j) × IsAt es d j

-- an entry of the block is no more than `most` steps away
pub record IsNear (es : List ReachedBlock) (most block : ℕ) : Type 0 where
  pub number : ℕ
  pub entry : ReachedBlock
  pub is_entry : slice_get es number ≡ Some entry
  pub is_block : entry.block ≡ block
  pub steps : ℕ
  pub few : steps ≤ most
  pub at : IsAt es steps number

-- Of the entry with the number, the block was scanned: what it leads to is one step further away at most.
pub record IsScanned (graph : Graph) (es : List ReachedBlock) (i : ℕ) : Type 0 where
  pub entry : ReachedBlock
  pub is_entry : slice_get es i ≡ Some entry
  pub steps : ℕ
  pub at : IsAt es steps i
  pub near : (b : ℕ) → Has (targets_in graph entry.block) b → IsNear es (suc steps) b

-- Breadth first: the first n entries are scanned. Those before `turn` are at most k steps away, and just k from n on;
-- those after it are one step further away.
pub record IsSpread (graph : Graph) (es : List ReachedBlock) (n k turn : ℕ) : Type 0 where
  pub from : n ≤ turn
  pub to : turn ≤ length es
  pub early : (i : ℕ) → i < turn → (d : ℕ) × (d ≤ k) × IsAt es d i
  pub now : (i : ℕ) → n ≤ i → i < turn → IsAt es k i
  pub later : (i : ℕ) → turn ≤ i → i < length es → IsAt es (suc k) i
  pub first : (b : ℕ) → Has graph.first b → IsNear es 0 b
  pub scanned : (i : ℕ) → i < n → IsScanned graph es i

abbrev pub Spreads : Graph → List ReachedBlock → ℕ → Type 0
Spreads graph es n = (k : ℕ) × (turn : ℕ) × IsSpread graph es n k turn

-- what the root words lead to was found, and nothing else
pub record AreRooted (word_at : ℕ → Option ℕ) (index : Index) (p : Places) (es : List ReachedBlock) : Type 0 where
  pub roots : (i : ℕ) (e : ReachedBlock) → slice_get es i ≡ Some e → (o : Origin) × (e.source ≡ Root o)
  pub led : AreLedByRoots word_at index p es
  pub covers : Within (led_by_roots word_at index p) (blocks_of es)

-- the first n entries are scanned, breadth first, and each entry is truly led to
pub record AreFollowed (word_at : ℕ → Option ℕ) (index : Index) (p : Places) (es : List ReachedBlock) (n : ℕ) : Type 0 where
  pub by_roots : AreLedByRoots word_at index p es
  pub by_blocks : AreLedByBlocks word_at index es
  pub spread : Spreads (search_graph word_at index p) es n

-- all that chains reach was found, breadth first, each block once
pub record AreWhole (word_at : ℕ → Option ℕ) (index : Index) (p : Places) (es : List ReachedBlock) : Type 0 where
  pub followed : AreFollowed word_at index p es (length es)
  pub once : IsDistinct (blocks_of es)

-- Links from the block that an entry is of back to the block of one that a root word led to.
abbrev pub AreLinks : (ℕ → Option ℕ) → Index → ℕ → List Link → ℕ → Type 0
AreLinks word_at index block [] first = first ≡ block
AreLinks word_at index block (link ∷ links) first = IsLink word_at index link block × AreLinks word_at index link.holder links first

pub record AreTraced (word_at : ℕ → Option ℕ) (index : Index) (es : List ReachedBlock) (last : ℕ) (links : List Link) (origin : Origin) (first : ℕ) : Type 0 where
  pub number : ℕ
  pub entry : ReachedBlock
  pub is_entry : slice_get es number ≡ Some entry
  pub source : entry.source ≡ Root origin
  pub is_first : entry.block ≡ first
  pub led : (e : ReachedBlock) → slice_get es last ≡ Some e → AreLinks word_at index e.block links first
  pub at : IsAt es (length links) last
