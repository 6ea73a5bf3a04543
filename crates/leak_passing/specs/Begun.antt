-- A core that was read up to its head, or whole.
use Rattle.std.specs.Prelude.{◌≡◌, ℕ, ◌≤◌, false, List, length, take}
use Rattle.leak_elf.specs.declared.segment.Segment.{Segment}
use Rattle.leak_elf.specs.HeadLength.{IsLength}
use Rattle.leak_elf.specs.Segments.{segments_of, AreKeptSegments}
use Rattle.leak_roots.specs.declared.skip.Skip.{Skip}
use Rattle.leak_sift.specs.Places.{AreOrderly}
use Rattle.leak_streams.specs.Pieces.{HasComeTo}
use Rattle.leak_streams.specs.Reads.{Calls, IsReadWhole}
use Rattle.leak_passing.specs.declared.begun.Answer.{Answer}
use Rattle.leak_passing.specs.declared.begun.Answer.TheVariants.{More, Head as Known, Absent as Unknown}
use Rattle.leak_passing.specs.declared.begun.Search.{Search}
use Rattle.leak_passing.specs.declared.begun.Search.TheVariants.{End, Head as Found, Absent}
use Rattle.leak_passing.specs.declared.begun.Front.{Front}
use Rattle.leak_passing.specs.declared.begun.Begun.{Begun}
use Rattle.leak_passing.specs.declared.begun.Begun.TheVariants.{Whole, Head}
use Rattle.leak_passing.specs.Underway.{Place, GoesOn, EndsWith}

-- the first so many of the bytes are the head of each file that begins with the bytes
pub record BeginsWithHead (bytes : List ℕ) (n : ℕ) : Type 0 where
  pub within : n ≤ length bytes
  pub is_head : IsLength bytes n

-- what is said of the bytes: if the head is there, it is
abbrev pub Says : List ℕ → Answer → Type 0
Says bytes (More least) = Unit {0}
Says bytes (Known n) = BeginsWithHead bytes n
Says bytes Unknown = Unit {0}

-- how the search for a head ended: with the whole input, with the head, or without
abbrev pub FindsHead : {R : Type 0} → Calls R → ℕ → Place R → Place R → Search → Type 0
FindsHead calls limit from to End = EndsWith calls limit from to.reader to.bytes
FindsHead calls limit from to (Found n) = GoesOn calls limit from to × BeginsWithHead to.bytes n
FindsHead calls limit from to Absent = GoesOn calls limit from to

-- the segments of each file with the head, which lie in the order of their addresses
pub record AreOrderlySegments (head : List ℕ) (segments : List Segment) : Type 0 where
  pub of_head : segments ≡ segments_of head
  pub kept : AreKeptSegments segments
  pub orderly : AreOrderly segments

-- the core was read up to its head, and may be sifted from there on
pub record IsAtHead {R : Type 0} (calls : Calls R) (limit : ℕ) (first last : R) (skip : Skip) (front : Front) : Type 0 where
  pub come : HasComeTo calls limit first last front.reading front.held.items
  pub alive : skip.dead ≡ false
  pub head : BeginsWithHead front.held.items front.head
  pub segments : AreOrderlySegments (take front.head front.held.items) front.segments.items

-- it was read to its end, or up to its head
abbrev pub IsBegun : {R : Type 0} → Calls R → ℕ → R → R → Skip → Begun → Type 0
IsBegun calls limit first last skip (Whole bytes) = IsReadWhole calls limit first last bytes.items
IsBegun calls limit first last skip (Head front) = IsAtHead calls limit first last skip front
