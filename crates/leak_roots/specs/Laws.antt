-- What pieces and places say of root words.
use Rattle.std.specs.Prelude.{◌≡◌, ℕ, List, Option, flat_map}
use Rattle.leak_elf.specs.Words.{word_of}
use Rattle.leak_blocks.specs.declared.block.Block.{Block}
use Rattle.leak_roots.specs.declared.piece.Piece.{Piece}
use Rattle.leak_roots.specs.Places.{Places, words_at}
use Rattle.leak_roots.specs.Pieces.{AreCut, words_of}
use Rattle.leak_roots.specs.LeftOut.{LeftOut}
use Rattle.leak_roots.specs.Roots.{AreRootsOf, root_words}

-- the words of the pieces, one piece after another, are those at all places
abbrev pub PiecesHoldAllWords : Type 0
PiecesHoldAllWords =
    (word_at : ℕ → Option ℕ) (p : Places) (words : ℕ) (pieces : List Piece)
    → AreCut p words pieces → flat_map (words_of word_at p) pieces ≡ words_at word_at p

-- and so is what is made of each word
abbrev pub PiecesGiveAll : Type 0
PiecesGiveAll =
    (f : ℕ → List ℕ) (word_at : ℕ → Option ℕ) (p : Places) (words : ℕ) (pieces : List Piece)
    → AreCut p words pieces
    → flat_map (λ piece. flat_map f (words_of word_at p piece)) pieces ≡ flat_map f (words_at word_at p)

-- the words at the places of a core's root words are its root words
abbrev pub PlacesHoldRootWords : Type 0
PlacesHoldRootWords =
    (left : LeftOut) (file : List ℕ) (blocks : List Block) (p : Places)
    → AreRootsOf left file blocks p → words_at (word_of file) p ≡ root_words left file blocks
