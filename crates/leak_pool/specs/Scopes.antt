-- What marking scans: pieces of the root words, after them parts of blocks that are scanned again, and blocks.
use Rattle.std.specs.Prelude.{ℕ, ◌<◌, List, ◌++◌, map, Option, slice_range}
use Rattle.std.specs.List.{AllByRecursion}
use Rattle.leak_index.specs.Hits.{Index}
use Rattle.leak_roots.specs.declared.piece.Piece.{Piece}
use Rattle.leak_roots.specs.declared.piece.Piece.TheVariants.{Registers, Memory}
use Rattle.leak_roots.specs.Places.{Places, addresses_in}
use Rattle.leak_roots.specs.Pieces.{IsPiece}
use Rattle.leak_scan.specs.Targets.{block_targets, targets_of}
use Rattle.leak_pool.specs.declared.start.Part.{Part}
use Rattle.leak_pool.specs.Marking.{led_in_memory, part_words}

-- what a piece leads to, and what a part of a block leads to
abbrev pub piece_targets : (ℕ → Option ℕ) → Index → Places → Piece → List ℕ
piece_targets word_at index places (Registers from to) =
    targets_of index (slice_range places.registers from to)
piece_targets word_at index places (Memory from to) =
    led_in_memory places.skips_links word_at index (addresses_in (from, to))

abbrev pub part_targets : (ℕ → Option ℕ) → Index → List ℕ → ℕ × Part → List ℕ
part_targets word_at index pages part =
    targets_of index (part_words word_at pages index.blocks part)

-- the pieces first, then the parts
abbrev pub root_targets : (ℕ → Option ℕ) → Index → Places → List Piece → List ℕ → List (ℕ × Part)
    → List (List ℕ)
root_targets word_at index places pieces pages rescan =
    map (piece_targets word_at index places) pieces ++ map (part_targets word_at index pages) rescan

-- the blocks
abbrev pub all_targets : (ℕ → Option ℕ) → Index → List (List ℕ)
all_targets word_at index = map (block_targets word_at index) index.blocks

-- each piece is one of these roots, and each part is of one of this many blocks
abbrev pub ArePieces : Places → List Piece → Type 0
ArePieces places pieces = AllByRecursion (IsPiece places) pieces

abbrev pub AreParts : ℕ → List (ℕ × Part) → Type 0
AreParts blocks rescan = AllByRecursion (λ part. part.0 < blocks) rescan
