-- Worked searches, from the bytes of cores and logs: a core of a few words, the log of its blocks, and the report that the definition
-- of a search allows. A search with one worker claims all marked blocks by one list.
use Rattle.std.specs.Prelude.{◌≡◌, ℕ, ◌*◌, Bool, true, false, List, [], ◌∷◌, ◌++◌, codes, flat_map, length, None}
use Rattle.std.specs.Int.{w64, to_le_bytes}
use Rattle.leak_elf.specs.Sample.{file_header, note_entry, program_header}
use Rattle.leak_index.specs.Leads.{Distances}
use Rattle.leak_roots.specs.declared.skip.Skip.{Skip}
use Rattle.leak_roots.specs.Skipped.{usual_skip}
use Rattle.leak_search.specs.declared.found.Found.{Found}
use Rattle.leak_search.specs.Search.{FindsOne, claims_of}

-- a core with the words from 0x10000 on, in a segment that can be read and written
unfoldable pub core_of : List ℕ → List ℕ
core_of words =
    file_header 2 ++ program_header 4 0 176 0 356 0 4 ++ program_header 1 6 532 0x10000 (8 * length words) (8 * length words) 8
    ++ note_entry ++ flat_map (to_le_bytes w64) words

-- each distance counts, with ends
abbrev pub interior : Distances
interior = record { listed = None; skips_ends = false }

-- freed memory is left out as well as what is left out unless more is asked for
abbrev pub without_freed : Skip
without_freed = record usual_skip { freed = true }

-- what is searched, and how
pub record Search : Type 0 where
  pub core : List ℕ
  pub log : List ℕ
  pub reading : Distances
  pub skip : Skip
  pub check : Bool

-- The definition allows just this report, with this many leaked blocks, whatever the workers are; and it allows it if one worker
-- claims the marked blocks in this order.
pub record Finds (s : Search) (marked : List ℕ) (leaked : ℕ) (report : List ℕ) : Type 0 where
  pub report_is : (workers : ℕ) (found : Found) → FindsOne s.core s.log s.reading s.skip s.check workers found → found.report.items ≡ report
  pub leaked_is : (workers : ℕ) (found : Found) → FindsOne s.core s.log s.reading s.skip s.check workers found → found.leaked ≡ leaked
  pub allowed : (found : Found) → found.report.items ≡ report → found.leaked ≡ leaked → claims_of found ≡ marked ∷ []
      → FindsOne s.core s.log s.reading s.skip s.check 1 found

-- a block at 0x10010 and one at 0x10020, of 8 bytes each
abbrev pub two_log : List ℕ
two_log = codes "@ a:[0x1] + 0x10010 0x8\n+ 0x10020 0x8\n"

-- that core with the words at 0x10008 and at 0x10010
abbrev pub two_core : ℕ → ℕ → List ℕ
two_core root word = core_of (0 ∷ root ∷ word ∷ 0 ∷ 0 ∷ [])

-- the usual search for them
abbrev pub search : List ℕ → Search
search core = record { core = core; log = two_log; reading = interior; skip = usual_skip; check = false }

-- a block was freed at 0x10000
abbrev pub freed_log : List ℕ
freed_log = codes "+ 0x10010 0x8\n+ 0x10000 0x10\n- 0x10000\n"

-- a word to a live block was left there
abbrev pub freed_search : Skip → Search
freed_search skip = record {
  core = core_of (0 ∷ 0x10010 ∷ 0 ∷ []);
  log = freed_log;
  reading = interior;
  skip = skip;
  check = false;
}

pub record AreWorkedSearches : Type 0 where
  pub held : Finds (search (two_core 0x10010 0x10020)) (0 ∷ 1 ∷ []) 0
      (codes "blocks 2 bytes 16\nundumped 0\nunknown 0 displaced 0 torn 0\nmarked 2 bytes 16\nleaked 0 bytes 0\nheads 0\n")
  pub lost : Finds (search (two_core 0 0x10020)) [] 2
      (codes "blocks 2 bytes 16\nundumped 0\nunknown 0 displaced 0 torn 0\nmarked 0 bytes 0\nleaked 2 bytes 16\nheads 1\ncaller 1 8 0 ?\ncaller 1 8 1 a:[0x1]\nleak 0x10010 8 1 head a:[0x1]\nleak 0x10020 8 2 held ?\n")
  pub second : Finds (search (two_core 0x10028 0)) (1 ∷ []) 1
      (codes "blocks 2 bytes 16\nundumped 0\nunknown 0 displaced 0 torn 0\nmarked 1 bytes 8\nleaked 1 bytes 8\nheads 1\ncaller 1 8 1 a:[0x1]\nleak 0x10010 8 1 head a:[0x1]\n")
  pub freed : Finds (freed_search usual_skip) (0 ∷ []) 0
      (codes "blocks 1 bytes 8\nundumped 0\nunknown 0 displaced 0 torn 0\nmarked 1 bytes 8\nleaked 0 bytes 0\nheads 0\n")
  pub freed_left_out : Finds (freed_search without_freed) [] 1
      (codes "blocks 1 bytes 8\nundumped 0\nunknown 0 displaced 0 torn 0\nfreed 2\nmarked 0 bytes 0\nleaked 1 bytes 8\nheads 1\ncaller 1 8 1 ?\nleak 0x10010 8 1 head ?\n")
