-- Worked rows on both sides of the bound of small allocations: 131,071 bytes are small, and 131,072 are not.
use Rattle.std.specs.Prelude.{◌≡◌, ℕ, true, false, List, [], ◌∷◌, codes}
use Rattle.leak_mtrace.specs.declared.line.Kind.{Kind}
use Rattle.leak_mtrace.specs.declared.line.Kind.TheVariants.{Alloc, MoveIn}
use Rattle.leak_mtrace.specs.declared.line.Line.{Line}
use Rattle.leak_blocks.specs.Small.{is_covered, small_block_spans, small_spans_of}
use Rattle.leak_examples.specs.Chains.{block}
use Rattle.leak_examples.specs.Searches.{Finds, Search, core_of, interior, without_freed}

-- a line about a block at 0x10000
abbrev pub line : Kind → ℕ → List Line
line kind size = record { kind = kind; addr = 0x10000; size = size; caller = (0, 0) } ∷ []

-- a block of that many bytes was freed at 0x10000, and later one of 8 bytes was allocated there
abbrev pub small_log : List ℕ
small_log = codes "+ 0x10000 0x1ffff\n- 0x10000\n+ 0x10010 0x8\n"

abbrev pub mapped_log : List ℕ
mapped_log = codes "+ 0x10000 0x20000\n- 0x10000\n+ 0x10010 0x8\n"

-- a word to the later block was left in the freed memory, which is left out
abbrev pub left_search : List ℕ → Search
left_search log = record {
  core = core_of (0 ∷ 0x10010 ∷ 0 ∷ []);
  log = log;
  reading = interior;
  skip = without_freed;
  check = false;
}

pub record AreWorkedBounds : Type 0 where
  pub first_address : is_covered (small_spans_of (line Alloc 131071)) 0x10000 ≡ true
  pub last_address : is_covered (small_spans_of (line Alloc 131071)) 0x2fffe ≡ true
  pub past_the_end : is_covered (small_spans_of (line Alloc 131071)) 0x2ffff ≡ false
  pub first_of_a_mapped_one : is_covered (small_spans_of (line Alloc 131072)) 0x10000 ≡ false
  pub last_of_a_mapped_one : is_covered (small_spans_of (line Alloc 131072)) 0x2ffff ≡ false
  pub moved : is_covered (small_spans_of (line MoveIn 131071)) 0x2fffe ≡ true
  pub moved_and_mapped : is_covered (small_spans_of (line MoveIn 131072)) 0x2fffe ≡ false
  pub of_blocks : is_covered (small_block_spans (block 0x10000 131071 1 ∷ block 0x40000 131072 2 ∷ [])) 0x2fffe ≡ true
  pub of_mapped_blocks : is_covered (small_block_spans (block 0x10000 131071 1 ∷ block 0x40000 131072 2 ∷ [])) 0x40000 ≡ false
  pub small : Finds (left_search small_log) [] 1
      (codes "blocks 1 bytes 8\nundumped 0\nunknown 0 displaced 0 torn 0\nfreed 2\nmarked 0 bytes 0\nleaked 1 bytes 8\nheads 1\ncaller 1 8 1 ?\nleak 0x10010 8 3 head ?\n")
  pub mapped : Finds (left_search mapped_log) (0 ∷ []) 0
      (codes "blocks 1 bytes 8\nundumped 0\nunknown 0 displaced 0 torn 0\nfreed 0\nmarked 1 bytes 8\nleaked 0 bytes 0\nheads 0\n")
