-- Root words in pieces.
use Rattle.std.specs.Prelude.{◌≡◌, ℕ, ◌≤◌, ◌-◌, List, ◌++◌, length, map, flat_map, filter_map, Option, slice_range}
use Rattle.std.specs.List.{AllByRecursion, range_with_len}
use Rattle.leak_roots.specs.declared.piece.Piece.{Piece}
use Rattle.leak_roots.specs.declared.piece.Piece.TheVariants.{Registers, Memory}
use Rattle.leak_roots.specs.Places.{Places, addresses_in, memory_places, IsRange}

-- where a root word is: at a number among the register words, from 0, or at an address
pub data Place : Type 0 where
  InRegisters : ℕ → Place
  InMemory : ℕ → Place

-- all places of root words, in order
abbrev pub all_places : Places → List Place
all_places p =
    map InRegisters (range_with_len 0 (length p.registers)) ++ map InMemory (memory_places p.memory)

-- the places in a piece, in order
abbrev pub places_of : Piece → List Place
places_of (Registers from to) = map InRegisters (range_with_len from (to - from))
places_of (Memory from to) = map InMemory (addresses_in (from, to))

-- a piece is a range of the register words, or of multiples of 8
abbrev pub IsPiece : Places → Piece → Type 0
IsPiece p (Registers from to) = (from ≤ to) × (to ≤ length p.registers)
IsPiece p (Memory from to) = IsRange (from, to)

-- a piece of 1 to `words` places
pub record IsCutPiece (p : Places) (words : ℕ) (x : Piece) : Type 0 where
  pub piece : IsPiece p x
  pub some : 1 ≤ length (places_of x)
  pub few : length (places_of x) ≤ words

-- Pieces of 1 to `words` places. Together they hold each place once, in order.
pub record AreCut (p : Places) (words : ℕ) (pieces : List Piece) : Type 0 where
  pub each : AllByRecursion (IsPiece p) pieces
  pub some : AllByRecursion (λ x. 1 ≤ length (places_of x)) pieces
  pub few : AllByRecursion (λ x. length (places_of x) ≤ words) pieces
  pub whole : flat_map places_of pieces ≡ all_places p

-- the root words in a piece, in a map from addresses to words
abbrev pub words_of : (ℕ → Option ℕ) → Places → Piece → List ℕ
words_of word_at p (Registers from to) = slice_range p.registers from to
words_of word_at p (Memory from to) = filter_map word_at (addresses_in (from, to))
