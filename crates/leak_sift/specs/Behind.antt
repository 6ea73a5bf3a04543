-- The bytes of a core file behind those that are held, by their words.
use Rattle.std.specs.Prelude.{ℕ, ◌+◌, ◌-◌, ◌*◌, ◌^◌, ◌<◌, ◌≤◌, List, [], ◌++◌, length, flat_map, replicate, slice_index, Option, Some, None}
use denote.Ref.{Bor}
use Rattle.std.specs.Int.{w64, to_le_bytes}

-- the words, if there are any
abbrev pub words_behind : Option (Bor (List ℕ)) → List ℕ
words_behind None = []
words_behind (Some words) = words.now

-- the bytes of the words, 8 each, and then zeros: so many in all
abbrev pub bytes_behind : List ℕ → ℕ → List ℕ
bytes_behind words len = flat_map (to_le_bytes w64) words ++ replicate (len - 8 * length words) 0

-- so many bytes have so many words of 8 bytes
pub record HasWords (words : List ℕ) (len : ℕ) : Type 0 where
  pub within : 8 * length words ≤ len
  pub all : len < 8 * length words + 8

-- and their number is that of a file's
pub record IsBehind (words : List ℕ) (len : ℕ) : Type 0 where
  pub words_of : HasWords words len
  pub small : len < 2 ^ 63

-- each number of the list is a word
abbrev pub AreWords : List ℕ → Type 0
AreWords words = (k : ℕ) → slice_index words k < 2 ^ 64
