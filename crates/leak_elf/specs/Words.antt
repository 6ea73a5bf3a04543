-- Words of memory: maps from addresses to words, and the words of a core file.
use Rattle.std.specs.Prelude.{◌≡◌, false, true, ℕ, zero, suc, ◌-◌, ◌+◌, ◌*◌, ◌%◌, length, ◌<◌, ◌≤◌, Bool, ◌&&◌, nat_le, ◌==◌, if◌then◌else◌, find, List, [], ◌∷◌, ◌++◌, Option, Some, None, IsSome, IfSome, option_map, slice_index_or}
use Rattle.std.specs.Int.{w64}
use Rattle.std.specs.List.{range_with_len, filter_map}
use Rattle.leak_elf.specs.declared.segment.Segment.{Segment}
use Rattle.leak_elf.specs.Fields.{number_at}
use Rattle.leak_elf.specs.Segments.{segments_of}

-- the least address from `from` on that has a word
abbrev pub IsNextReadable : (ℕ → Option ℕ) → ℕ → Option ℕ → Type 0
IsNextReadable word_at from None = (a : ℕ) → from ≤ a → word_at a ≡ None
IsNextReadable word_at from (Some next) = (from ≤ next) × IsSome (word_at next) × ((a : ℕ) → from ≤ a → a < next → word_at a ≡ None)

-- no address from the first on before the second has a word other than 0
abbrev pub AreZeros : (ℕ → Option ℕ) → ℕ → ℕ → Type 0
AreZeros word_at from to = (a : ℕ) → from ≤ a → a < to → IfSome (word_at a) (λ word. word ≡ 0)

-- an address from `from` on that has a word, and none before it has one other than 0
abbrev pub IsPastZeros : (ℕ → Option ℕ) → ℕ → Option ℕ → Type 0
IsPastZeros word_at from None = (a : ℕ) → from ≤ a → IfSome (word_at a) (λ word. word ≡ 0)
IsPastZeros word_at from (Some next) = (from ≤ next) × IsSome (word_at next) × AreZeros word_at from next

-- the addresses from `from` on whose 8 bytes end at `to` or before it
abbrev pub places : ℕ → ℕ → List ℕ
places from to = range_with_len from (to - 7 - from)

-- the words at those addresses, in ascending order
unfoldable pub words_between : (ℕ → Option ℕ) → ℕ → ℕ → List ℕ
words_between word_at from to = filter_map word_at (places from to)

-- each complete group of 8 bytes is the word at its address
abbrev pub IsRun : (ℕ → Option ℕ) → ℕ → List ℕ → Type 0
IsRun word_at from bytes = (k : ℕ) → 8 * k + 8 ≤ length bytes → word_at (from + 8 * k) ≡ Some (number_at w64 bytes (8 * k))

-- the word, if it is there and isn't 0
abbrev pub nonzero : Option ℕ → List ℕ
nonzero None = []
nonzero (Some zero) = []
nonzero (Some (suc n)) = suc n ∷ []

-- of the words at so many addresses from the first on, each 8 after the one before it, those that aren't 0
abbrev pub kept_words : (ℕ → Option ℕ) → ℕ → ℕ → List ℕ
kept_words word_at from zero = []
kept_words word_at from (suc count) = nonzero (word_at from) ++ kept_words word_at (from + 8) count

-- the 8 bytes from the address on lie in the dumped part
abbrev pub holds_word : ℕ → Segment → Bool
holds_word a s = nat_le s.vaddr a && nat_le (a + 8) (s.vaddr + s.filesz)

-- the word at an address that is a multiple of 8, if one segment holds its bytes
unfoldable pub word_in : List ℕ → List Segment → ℕ → Option ℕ
word_in file segments a =
    if a % 8 == 0 then option_map (λ s. number_at w64 file (s.offset + (a - s.vaddr))) (find (holds_word a) segments)
    else None

unfoldable pub word_of : List ℕ → ℕ → Option ℕ
word_of file a = word_in file (segments_of file) a

-- no word from an address on lies in the first n segments
abbrev pub NoneHeld : List Segment → ℕ → ℕ → Type 0
NoneHeld segments n from = (k : ℕ) (d : Segment) (a : ℕ) → k < n → from ≤ a → a % 8 ≡ 0 → holds_word a (slice_index_or segments k d) ≡ false

-- the least address from `from` on whose word lies in a segment
abbrev pub IsNextHeld : List Segment → ℕ → Option ℕ → Type 0
IsNextHeld segments from None = NoneHeld segments (length segments) from
IsNextHeld segments from (Some next) =
    (from ≤ next) × (next % 8 ≡ 0)
    × ((k : ℕ) × (k < length segments) × ((d : Segment) → holds_word next (slice_index_or segments k d) ≡ true))
    × ((k : ℕ) (d : Segment) (a : ℕ) → k < length segments → from ≤ a → a < next → a % 8 ≡ 0 → holds_word a (slice_index_or segments k d) ≡ false)

-- the first segment from a number on that holds a word, or how many segments there are
pub record IsHolder (segments : List Segment) (from holder : ℕ) : Type 0 where
  pub from_on : from ≤ holder
  pub bound : holder ≤ length segments
  pub none : (k : ℕ) (d : Segment) (a : ℕ) → from ≤ k → k < holder → a % 8 ≡ 0 → holds_word a (slice_index_or segments k d) ≡ false
  pub some : (d : Segment) → holder < length segments → (a : ℕ) × (a % 8 ≡ 0) × (holds_word a (slice_index_or segments holder d) ≡ true)

-- that segment's number for each segment
pub record AreHolders (segments : List Segment) (holders : List ℕ) : Type 0 where
  pub each : length holders ≡ length segments
  pub first : (k d : ℕ) → k < length segments → IsHolder segments k (slice_index_or holders k d)
