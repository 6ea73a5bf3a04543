-- Chains of words that hold a block (bdwgc: an object is kept if a chain of pointers leads to it from a root), and
-- the shortest of them.
use Rattle.std.specs.Prelude.{◌≡◌, ℕ, ◌+◌, ◌≤◌, List, [], ◌∷◌, length, Option, Some, None, slice_get}
use Rattle.leak_blocks.specs.declared.block.Block.{Block}
use Rattle.leak_index.specs.Hits.{Index, hits_of}
use Rattle.leak_roots.specs.Places.{Places, memory_places}
use Rattle.leak_marks.specs.Lists.{Has}
use Rattle.leak_marks.specs.Reach.{Graph}
use Rattle.leak_pool.specs.Marking.{graph_of, led_by_roots}
use Rattle.leak_why.specs.declared.chain.RootPlace.{RootPlace}
use Rattle.leak_why.specs.declared.chain.RootPlace.TheVariants.{Register, Address}
use Rattle.leak_why.specs.declared.chain.RootWord.{RootWord}
use Rattle.leak_why.specs.declared.chain.Link.{Link}
use Rattle.leak_why.specs.declared.chain.Chain.{Chain}
use Rattle.leak_why.specs.Leading.{led_by}

-- the graph of the search: what the root words and what each block's words lead to
abbrev pub search_graph : (ℕ → Option ℕ) → Index → Places → Graph
search_graph word_at index p = graph_of word_at index (led_by_roots word_at index p) []

-- the root word is at the place
abbrev pub StandsAt : (ℕ → Option ℕ) → Places → ℕ → RootPlace → Type 0
StandsAt word_at p word (Register i) = slice_get p.registers i ≡ Some word
StandsAt word_at p word (Address a) = Has (memory_places p.memory) a × (word_at a ≡ Some word)

-- the blocks that the root word at the place leads to: in memory without links to free chunks, if they are left out
abbrev pub led_at : (ℕ → Option ℕ) → Index → Places → ℕ → RootPlace → List ℕ
led_at word_at index p word (Register i) = hits_of index word
led_at word_at index p word (Address a) = led_by p.skips_links word_at index a word

-- a root word, which leads to the block with the number
pub record IsRoot (word_at : ℕ → Option ℕ) (index : Index) (p : Places) (root : RootWord) (block : ℕ) : Type 0 where
  pub stands : StandsAt word_at p root.word root.place
  pub leads : Has (led_at word_at index p root.word root.place) block

-- the 8 bytes from the address on all lie in the block
pub record LiesIn (address : ℕ) (b : Block) : Type 0 where
  pub from_start : b.start ≤ address
  pub to_end : address + 8 ≤ b.start + b.size

-- a word of the link's holder, which leads to the block with the number
pub record IsLink (word_at : ℕ → Option ℕ) (index : Index) (link : Link) (block : ℕ) : Type 0 where
  pub holder : Block
  pub is_holder : slice_get index.blocks link.holder ≡ Some holder
  pub lies : LiesIn link.address holder
  pub word : word_at link.address ≡ Some link.word
  pub leads : Has (hits_of index link.word) block

-- the links lead from the last link's holder to the block, and the root word leads to that holder, or to the block
-- itself if there is no link
abbrev pub IsChain : (ℕ → Option ℕ) → Index → Places → RootWord → List Link → ℕ → Type 0
IsChain word_at index p root [] block = IsRoot word_at index p root block
IsChain word_at index p root (link ∷ links) block =
    IsLink word_at index link block × IsChain word_at index p root links link.holder

-- a chain to the block, and none is shorter
pub record IsShortest (word_at : ℕ → Option ℕ) (index : Index) (p : Places) (block : ℕ) (chain : Chain) : Type 0 where
  pub is_chain : IsChain word_at index p chain.root chain.links.items block
  pub shortest : (root : RootWord) (links : List Link) → IsChain word_at index p root links block
      → length chain.links.items ≤ length links

-- a shortest chain to the block, or none if there is no chain to it
abbrev pub IsWhy : (ℕ → Option ℕ) → Index → Places → ℕ → Option Chain → Type 0
IsWhy word_at index p block (Some chain) = IsShortest word_at index p block chain
IsWhy word_at index p block None = (root : RootWord) (links : List Link) → ¬ IsChain word_at index p root links block
