-- What reading an input to its end does to a reader, if the reader tells its bytes.
use Rattle.std.specs.Prelude.{◌≡◌, ℕ, ◌+◌, ◌≤◌, List, length, Option}
use Rattle.std.specs.Io.KnownBytes.{Consumes, IsAtEnd}
use Rattle.leak_streams.specs.declared.fault.ReadFault.{ReadFault}
use Rattle.leak_streams.specs.declared.fault.ReadFault.TheVariants.{TooLong}

-- the bytes are all that the reader had, and no more than the limit
pub record IsWholeInput (before after : Option (List ℕ)) (limit : ℕ) (bytes : List ℕ) : Type 0 where
  pub few : length bytes ≤ limit
  pub taken : Consumes before after bytes
  pub end : IsAtEnd after

-- this many bytes were taken
pub record Takes (before after : Option (List ℕ)) (count : ℕ) : Type 0 where
  pub bytes : List ℕ
  pub as_many : length bytes ≡ count
  pub taken : Consumes before after bytes

-- no more than this many bytes were taken
pub record TakesAtMost (before after : Option (List ℕ)) (most : ℕ) : Type 0 where
  pub bytes : List ℕ
  pub few : length bytes ≤ most
  pub taken : Consumes before after bytes

-- an input that is too long lost one byte more than the limit, and any other no more than the limit
abbrev pub IsStopped : Option (List ℕ) → Option (List ℕ) → ℕ → ReadFault → Type 0
IsStopped before after limit TooLong = Takes before after (limit + 1)
IsStopped before after limit f = TakesAtMost before after limit
