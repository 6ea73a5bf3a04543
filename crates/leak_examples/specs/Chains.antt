-- Worked chains of words: a memory of 4096 bytes of zeros at 0x10000, with some words set, the registers of one thread, some live
-- blocks, and what holds one of them.
use Rattle.std.specs.Prelude.{◌≡◌, ℕ, true, false, List, [], ◌∷◌, ◌++◌, replicate, Some, None}
use Rattle.leak_blocks.specs.declared.block.Block.{Block}
use Rattle.leak_chunks.specs.Rows.{word_there}
use Rattle.leak_index.specs.Hits.{Index}
use Rattle.leak_index.specs.Laws.{index_by}
use Rattle.leak_roots.specs.Places.{Places}
use Rattle.leak_why.specs.declared.chain.Chain.{Chain}
use Rattle.leak_why.specs.declared.chain.Link.{Link}
use Rattle.leak_why.specs.declared.chain.RootPlace.TheVariants.{Register, Address}
use Rattle.leak_why.specs.declared.chain.RootWord.{RootWord}
use Rattle.leak_why.specs.Chains.{IsWhy}

abbrev pub block : ℕ → ℕ → ℕ → Block
block start size line = record { start = start; size = size; line = line; caller = (0, 0) }

-- root words in these ranges, and in registers of which the one with the number has the word
abbrev pub places : List (ℕ × ℕ) → List ℕ → Places
places memory registers = record { registers = registers; memory = memory; freed = 0; dead = 0; skips_links = false }

-- the same without links to free chunks
abbrev pub without_links : List (ℕ × ℕ) → List ℕ → Places
without_links memory registers = record { registers = registers; memory = memory; freed = 0; dead = 0; skips_links = true }

-- the registers of a thread, all zero
abbrev pub zero_registers : List ℕ
zero_registers = replicate 27 0

-- those in which rbx has the address of a block
abbrev pub in_rbx : ℕ → List ℕ
in_rbx word = replicate 5 0 ++ word ∷ replicate 21 0

-- the root word at an address, and in the register with the number
abbrev pub at : ℕ → ℕ → RootWord
at address word = record { place = Address address; word = word }

abbrev pub in_register : ℕ → ℕ → RootWord
in_register i word = record { place = Register i; word = word }

abbrev pub link : ℕ → ℕ → ℕ → Link
link holder address word = record { holder = holder; address = address; word = word }

-- some words that are set in the memory, some live blocks, and the places of root words
pub record Sample : Type 0 where
  pub words : List (ℕ × ℕ)
  pub index : Index
  pub places : Places

-- blocks that each distance leads to, with their ends
abbrev pub sample : List (ℕ × ℕ) → List Block → Places → Sample
sample words blocks places = record { words = words; index = index_by false None blocks; places = places }

-- a chain with the root word and the links may be told of the block
abbrev pub IsHeldBy : Sample → ℕ → RootWord → List Link → Type 0
IsHeldBy s block root links =
    (chain : Chain) → chain.root ≡ root → chain.links.items ≡ links → IsWhy (word_there s.words) s.index s.places block (Some chain)

-- the block is told to be leaked
abbrev pub IsLost : Sample → ℕ → Type 0
IsLost s block = IsWhy (word_there s.words) s.index s.places block None

-- one block of 32 bytes, and the root words around it
abbrev pub one_block : List Block
one_block = block 0x10100 0x20 1 ∷ []

abbrev pub around_one : List (ℕ × ℕ)
around_one = (0x10000, 0x10100) ∷ (0x10120, 0x10200) ∷ []

-- that block and one of 16 bytes
abbrev pub two_blocks : List Block
two_blocks = block 0x10100 0x20 1 ∷ block 0x10200 0x10 2 ∷ []

abbrev pub around_two : List (ℕ × ℕ)
around_two = (0x10000, 0x10100) ∷ (0x10120, 0x10200) ∷ (0x10210, 0x10220) ∷ []

-- that block and one that begins at its end
abbrev pub neighbors : ℕ → List Block
neighbors size = block 0x10100 0x20 1 ∷ block 0x10120 size 2 ∷ []

-- root words before all these blocks
abbrev pub before_all : Places
before_all = places ((0x10000, 0x100f8) ∷ []) zero_registers

-- a block of 12 bytes, whose second word is only half in it, and one of 16
abbrev pub half_blocks : List Block
half_blocks = block 0x10100 0xc 1 ∷ block 0x10200 0x10 2 ∷ []

-- a list's head at 0x10008 that leads to the free chunk after the block, which leads back
abbrev pub free_list : List (ℕ × ℕ)
free_list = (0x100f8, 0x31) ∷ (0x10008, 0x10120) ∷ (0x10138, 0xfff8) ∷ []

pub record AreWorkedChains : Type 0 where
  pub by_memory : IsHeldBy (sample ((0x10008, 0x10100) ∷ []) one_block (places around_one zero_registers)) 0 (at 0x10008 0x10100) []
  pub past_the_end : IsHeldBy (sample ((0x10008, 0x10120) ∷ []) one_block (places around_one zero_registers)) 0 (at 0x10008 0x10120) []
  pub further : IsLost (sample ((0x10008, 0x10121) ∷ []) one_block (places around_one zero_registers)) 0
  pub by_a_register : IsHeldBy (sample [] one_block (places around_one (in_rbx 0x10100))) 0 (in_register 5 0x10100) []
  pub by_nothing : IsLost (sample [] one_block (places around_one zero_registers)) 0
  pub ring : IsLost (sample ((0x10100, 0x10200) ∷ (0x10200, 0x10100) ∷ []) two_blocks (places around_two zero_registers)) 1
  pub by_a_block : IsHeldBy (sample ((0x10008, 0x10100) ∷ (0x10118, 0x10200) ∷ []) two_blocks (places around_two zero_registers)) 1
      (at 0x10008 0x10100) (link 0 0x10118 0x10200 ∷ [])
  pub directly_and_by_a_block : IsHeldBy (sample ((0x10008, 0x10200) ∷ (0x10010, 0x10100) ∷ (0x10100, 0x10200) ∷ []) two_blocks (places around_two zero_registers)) 1
      (at 0x10008 0x10200) []
  pub half_word : IsLost (sample ((0x10008, 0x10100) ∷ (0x10108, 0x10200) ∷ []) half_blocks before_all) 1
  pub ends_of_neighbors : IsHeldBy (sample ((0x10008, 0x10120) ∷ []) (neighbors 0x10) before_all) 0
      (at 0x10008 0x10120) []
  pub empty : IsHeldBy (sample ((0x10008, 0x10200) ∷ []) (block 0x10200 0 1 ∷ []) before_all) 0 (at 0x10008 0x10200) []
  pub free_chunk : IsHeldBy (sample free_list one_block (places around_one zero_registers)) 0 (at 0x10008 0x10120) []
  pub free_chunk_left_out : IsLost (sample free_list one_block (without_links around_one zero_registers)) 0
  pub free_chunk_in_a_register : IsHeldBy (sample free_list one_block (without_links around_one (in_rbx 0x10120))) 0 (in_register 5 0x10120) []
