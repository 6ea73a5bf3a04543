-- Words of a file that lie in memory one after another, or in no segment.
use Rattle.std.specs.Prelude.{◌≡◌, ℕ, ◌+◌, ◌*◌, ◌^◌, ◌<◌, ◌≤◌, Bool, true, false, ◌&&◌, nat_lt, List, length, slice_index_or, option_map, IfSome}
use Rattle.leak_elf.specs.declared.segment.Segment.{Segment}
use Rattle.leak_elf.specs.Segments.{AreKeptSegments}
use Rattle.leak_sift.specs.declared.places.Run.{Run}
use Rattle.leak_sift.specs.Places.{AreOrderly, none, place_of}

-- the segment has a dumped byte at the offset, or after it
abbrev pub has_later : ℕ → Segment → Bool
has_later offset s = nat_lt 0 s.filesz && nat_lt offset (s.offset + s.filesz)

-- this many segments, the first ones, have none
pub record IsReached (segments : List Segment) (offset count : ℕ) : Type 0 where
  pub bound : count ≤ length segments
  pub each : (k : ℕ) → k < count → has_later offset (slice_index_or segments k none) ≡ false

-- and the one after them has, if there is one
pub record IsFirstLater (segments : List Segment) (offset count : ℕ) : Type 0 where
  pub reached : IsReached segments offset count
  pub next : count < length segments → has_later offset (slice_index_or segments count none) ≡ true

-- orderly segments, of which so many were passed
pub record ArePlaces (segments : List Segment) (last passed : ℕ) : Type 0 where
  pub kept : AreKeptSegments segments
  pub orderly : AreOrderly segments
  pub reached : IsReached segments last passed

-- so many words from the offset on, of at most `most`: the first is at the place, and the others after it; or none has a place
pub record IsRunAt (segments : List Segment) (offset most : ℕ) (run : Run) : Type 0 where
  pub some : 0 < run.words
  pub within : run.words ≤ most
  pub places : (k : ℕ) → k < run.words → place_of segments (offset + 8 * k) ≡ option_map (λ place. place + 8 * k) run.place
  pub fits : IfSome run.place (λ place. place + 8 * run.words < 2 ^ 64 + 8)
