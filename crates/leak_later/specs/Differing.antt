-- Pages that differ between two cores (Boehm, Demers, Shenker, PLDI 1991: the pages written since).
use Rattle.std.specs.Prelude.{ℕ, ◌*◌, ◌↔◌, Bool, true, false, not, List, ◌==◌, Option, Some, None, IsTrue, sum_by, length, slice_get}
use Rattle.std.specs.List.{list_any, range_with_len}
use Rattle.std.specs.List.Sorted.{IsStrictlyIncreasing}
use Rattle.std.specs.Option.{option_map_or}
use Rattle.leak_blocks.specs.declared.block.Block.{Block}
use Rattle.leak_scan.specs.Targets.{block_words_on}
use Rattle.leak_marks.specs.Lists.{Has}

-- there is a word in the later core, and not the same one in the earlier core
abbrev pub is_changed : Option ℕ → Option ℕ → Bool
is_changed before None = false
is_changed None (Some w) = true
is_changed (Some v) (Some w) = not (v == w)

-- a page of 4096 addresses differs if some word of the later core in it is not that of the earlier core
unfoldable pub differs : (ℕ → Option ℕ) → (ℕ → Option ℕ) → ℕ → Bool
differs word_before word_now page =
    list_any (λ a. is_changed (word_before a) (word_now a)) (range_with_len (4096 * page) 4096)

-- the numbers of the pages that differ, ascending, and no others
pub record AreDiffering (word_before word_now : ℕ → Option ℕ) (pages : List ℕ) : Type 0 where
  pub ascending : IsStrictlyIncreasing pages
  pub each : (page : ℕ) → Has pages page ↔ IsTrue (differs word_before word_now page)

-- the number of words that the kept blocks have on the pages, changed or not
unfoldable pub reread_of : (ℕ → Option ℕ) → List ℕ → List Block → List ℕ → ℕ
reread_of word_now pages blocks kept =
    sum_by (λ i.
    option_map_or (λ b. length (block_words_on word_now pages b)) (slice_get blocks i) 0) kept
