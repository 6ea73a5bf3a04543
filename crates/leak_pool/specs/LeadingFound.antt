-- The root words that are found of a core without the ranges that lead to no block.
use Rattle.std.specs.Prelude.{◌≡◌, ℕ, Bool, List}
use Rattle.leak_elf.specs.Words.{word_of}
use Rattle.leak_notes.specs.Threads.{Registers}
use Rattle.leak_blocks.specs.declared.block.Block.{Block}
use Rattle.leak_blocks.specs.declared.small.Span.{Span}
use Rattle.leak_index.specs.Hits.{Index}
use Rattle.leak_roots.specs.Places.{Places}
use Rattle.leak_roots.specs.Found.{AreRootsFound}
use Rattle.leak_pool.specs.Leading.{leading}
use Rattle.leak_pool.specs.Marking.{led_by_roots}

-- of all root words that a search finds, the registers and the ranges of memory that lead to a block, by links to free
-- chunks too: they lead to the same blocks
pub record AreLeadingFound (index : Index) (unwritable : Bool) (small : List Span)
    (file : List ℕ) (threads : Registers) (blocks : List Block) (p : Places) : Type 0 where
  pub all : Places
  pub found : AreRootsFound unwritable small file threads blocks all
  pub value : p ≡ leading (word_of file) index all
  pub led : led_by_roots (word_of file) index p ≡ led_by_roots (word_of file) index all
