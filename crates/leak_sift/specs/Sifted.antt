-- What is kept of the words of a core file, from an offset in the file on.
use Rattle.std.specs.Prelude.{◌≡◌, ◌≢◌, ℕ, ◌+◌, ◌*◌, ◌/◌, ◌^◌, ◌<◌, ◌≤◌, List, ◌++◌, length, map, take, drop, get_or, Option, Some, None}
use Rattle.std.specs.Int.{w64}
use Rattle.std.specs.List.{range_with_len}
use Rattle.std.specs.Option.{option_map_or}
use Rattle.leak_elf.specs.declared.segment.Segment.{Segment}
use Rattle.leak_elf.specs.Fields.{number_at}
use Rattle.leak_sift.specs.Kept.{Rule, kept_of}
use Rattle.leak_sift.specs.Places.{place_of}

-- what is kept of the word at the offset in the file: a word that no segment has is taken for 0
abbrev pub kept_at : Rule → List Segment → ℕ → ℕ → ℕ
kept_at rule segments offset word = option_map_or (λ place. kept_of rule.blocks rule.links place word) (place_of segments offset) 0

-- for each complete group of 8 bytes a word: of where the group begins among the bytes, and of the number that it is
unfoldable pub by_words : (ℕ → ℕ → ℕ) → List ℕ → List ℕ
by_words f bytes = map (λ k. f (8 * k) (number_at w64 bytes (8 * k))) (range_with_len 0 (length bytes / 8))

-- the words that are kept of bytes which begin at the offset in the file
abbrev pub sifted : Rule → List Segment → ℕ → List ℕ → List ℕ
sifted rule segments head bytes = by_words (λ distance word. kept_at rule segments (head + distance) word) bytes

-- those of bytes that lie in memory from the place on
abbrev pub run_of : Rule → ℕ → List ℕ → List ℕ
run_of rule place bytes = by_words (λ distance word. kept_of rule.blocks rule.links (place + distance) word) bytes

-- from the one number up to the other, that one excluded, words are 0
pub record AreZero (words : List ℕ) (from to : ℕ) : Type 0 where
  pub each : (k : ℕ) → from ≤ k → k < to → get_or words k 0 ≡ 0

-- the first word from the number on that isn't 0, with its number
abbrev pub IsNextKept : List ℕ → ℕ → Option (ℕ × ℕ) → Type 0
IsNextKept words from None = AreZero words from (length words)
IsNextKept words from (Some next) = (from ≤ next.0) × (next.0 < length words) × (next.1 ≡ get_or words next.0 0) × AreZero words from next.0 × (next.1 ≢ 0)

-- a sifting of the bytes of a file from the offset `head` on: its words so far, and the bytes that wait for the rest of a word
pub record Sifted : Type 0 where
  pub rule : Rule
  pub segments : List Segment
  pub head : ℕ
  pub words : List ℕ
  pub waiting : List ℕ

-- it has taken these bytes: their words are sifted, and the bytes after the last complete word wait
pub record HasTaken (state : Sifted) (bytes : List ℕ) : Type 0 where
  pub words : state.words ≡ sifted state.rule state.segments state.head bytes
  pub waiting : state.waiting ≡ drop (8 * (length bytes / 8)) bytes

-- it took these bytes on the way to the state after: whatever it had taken before, it has then taken these too
pub record Takes (state : Sifted) (bytes : List ℕ) (after : Sifted) : Type 0 where
  pub rule : after.rule ≡ state.rule
  pub segments : after.segments ≡ state.segments
  pub head : after.head ≡ state.head
  pub taken : (before : List ℕ) → HasTaken state before → HasTaken after (before ++ bytes)

-- it took some of the bytes, the first ones
pub record TakesSome (state : Sifted) (bytes : List ℕ) (after : Sifted) : Type 0 where
  pub count : ℕ
  pub within : count ≤ length bytes
  pub taken : Takes state (take count bytes) after

-- some of the more words were appended, the first ones, but not all
pub record AreSomeAppended (before more after : List ℕ) : Type 0 where
  pub count : ℕ
  pub fewer : count < length more
  pub words : after ≡ before ++ take count more

-- the offset in the file of the next byte
abbrev pub end_of : Sifted → ℕ
end_of state = state.head + 8 * length state.words + length state.waiting

-- fewer than 8 bytes wait, and all offsets fit 64 bits
pub record IsWithin (head : ℕ) (words waiting : List ℕ) : Type 0 where
  pub few : length waiting < 8
  pub fits : head + 8 * length words + length waiting < 2 ^ 64
