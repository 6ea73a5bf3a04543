-- What is promised of the root words that are found of a core: all ranges of them, or those that a test keeps.
use Rattle.std.specs.Prelude.{◌≡◌, ℕ, Bool, false, List, length, filter}
use Rattle.leak_notes.specs.Threads.{Registers, threads_of}
use Rattle.leak_blocks.specs.declared.block.Block.{Block}
use Rattle.leak_blocks.specs.declared.small.Span.{Span}
use Rattle.leak_blocks.specs.Small.{CoverSameOutside}
use Rattle.leak_roots.specs.Places.{Places, AreRanges, memory_places}
use Rattle.leak_roots.specs.LeftOut.{freed_left_out}
use Rattle.leak_roots.specs.Roots.{AreRootsOf, freed_places, root_places}

-- the register words of the threads, and the places in memory outside the blocks, without those inside these spans. If the
-- threads are the core's, they are its root words
pub record AreRootsFound (unwritable : Bool) (small : List Span) (file : List ℕ)
    (threads : Registers) (blocks : List Block) (p : Places) : Type 0 where
  pub registers : p.registers ≡ threads.registers
  pub memory : memory_places p.memory ≡ root_places (freed_left_out unwritable small) file blocks
  pub ranges : AreRanges p.memory
  pub freed : p.freed ≡ length (freed_places (freed_left_out unwritable small) file blocks)
  pub dead : p.dead ≡ 0
  pub links : p.skips_links ≡ false
  pub of_core : (spans : List Span) → CoverSameOutside blocks small spans → threads ≡ threads_of file
      → AreRootsOf (freed_left_out unwritable spans) file blocks p

-- of these, the registers and the ranges of memory that the test keeps
pub record AreRootsFoundWhere (keeps : ℕ × ℕ → Bool) (unwritable : Bool) (small : List Span)
    (file : List ℕ) (threads : Registers) (blocks : List Block) (p : Places) : Type 0 where
  pub all : List (ℕ × ℕ)
  pub found : AreRootsFound unwritable small file threads blocks (record p { memory = all })
  pub kept : p.memory ≡ filter keeps all
