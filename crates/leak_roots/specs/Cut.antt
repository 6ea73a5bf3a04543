-- The pieces of root words by their numbers: those of the registers, and after them those of each range.
use Rattle.std.specs.Prelude.{ℕ, ◌+◌, ◌-◌, ◌*◌, ◌/◌, ◌%◌, min, List, ◌++◌, length, map, flat_map, take}
use Rattle.std.specs.List.{range_with_len}
use Rattle.leak_roots.specs.declared.piece.Piece.{Piece}
use Rattle.leak_roots.specs.declared.piece.Piece.TheVariants.{Registers, Memory}
use Rattle.leak_roots.specs.Places.{Places}

-- how many pieces of at most `words` words `count` words make
abbrev pub cut_count : ℕ → ℕ → ℕ
cut_count words count = count / words + min 1 (count % words)

-- the first word of a piece, by its number among the pieces of `count` words, and its end, excluded; the last may be
-- shorter
abbrev pub span : ℕ → ℕ → ℕ → ℕ × ℕ
span words count i = (words * i, min count (words * i + words))

-- the pieces of `count` register words
abbrev pub register_piece : ℕ → ℕ → ℕ → Piece
register_piece words count i = Registers (span words count i).0 (span words count i).1

abbrev pub register_pieces : ℕ → ℕ → List Piece
register_pieces words count =
    map (register_piece words count) (range_with_len 0 (cut_count words count))

-- the pieces of a range of memory
abbrev pub words_in : ℕ × ℕ → ℕ
words_in range = (range.1 - range.0) / 8

abbrev pub range_piece : ℕ → ℕ × ℕ → ℕ → Piece
range_piece words range i =
    let s = span words (words_in range) i in Memory (range.0 + 8 * s.0) (range.0 + 8 * s.1)

unfoldable pub range_pieces : ℕ → ℕ × ℕ → List Piece
range_pieces words range =
    map (range_piece words range) (range_with_len 0 (cut_count words (words_in range)))

-- the pieces of all ranges
abbrev pub memory_pieces : ℕ → List (ℕ × ℕ) → List Piece
memory_pieces words ranges = flat_map (range_pieces words) ranges

-- all pieces
unfoldable pub pieces_of : ℕ → Places → List Piece
pieces_of words p = register_pieces words (length p.registers) ++ memory_pieces words p.memory

-- how many pieces the ranges before a place make
unfoldable pub pieces_before : ℕ → List (ℕ × ℕ) → ℕ → ℕ
pieces_before words ranges place = length (memory_pieces words (take place ranges))
