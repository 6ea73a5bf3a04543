-- What is scanned of a core, item by item.
use Rattle.std.proofs.Common.{◌≡◌, ℕ, zero, suc, ◌+◌, ◌-◌, ◌<◌, ◌≤◌, List, [], ◌∷◌, length, map, get_or, Option, sym, ap, ◌∙◌, arith, length-append}
use Rattle.std.specs.List.{AllByRecursion}
use Rattle.std.proofs.lemmas.List.{length-map, get_or-map, get_or_append_left, get_or-append_right}
use Rattle.leak_blocks.specs.declared.block.Block.{Block}
use Rattle.leak_index.specs.Hits.{Index}
use Rattle.leak_roots.specs.declared.piece.Piece.{Piece}
use Rattle.leak_roots.specs.Places.{Places}
use Rattle.leak_scan.specs.Targets.{targets_of, block_words, block_targets}
use Rattle.leak_pool.specs.Scopes.{root_targets, all_targets, piece_targets, part_targets}
use Rattle.leak_pool.specs.declared.start.Part.{Part}

-- a fact of all holds of the one at a place
pub all_at : {A : Type 0} (P : A → Type 0) (xs : List A) (k : ℕ) (d : A) → AllByRecursion P xs → k < length xs → P (get_or xs k d)
all_at P [] k d all h = absurd (omega arith)
all_at P (x ∷ xs) zero d all h = all.0
all_at P (x ∷ xs) (suc k) d all h = all_at P xs k d all.1 (omega arith)

pub long_all : (word_at : ℕ → Option ℕ) (index : Index) → length (all_targets word_at index) ≡ length index.blocks
long_all word_at index = length-map index.blocks (block_targets word_at index)

pub long_roots : (word_at : ℕ → Option ℕ) (index : Index) (places : Places) (pieces : List Piece) (pages : List ℕ) (rescan : List (ℕ × Part)) → length (root_targets word_at index places pieces pages rescan) ≡ length pieces + length rescan
long_roots word_at index places pieces pages rescan =
    let a = length-append (map (piece_targets word_at index places) pieces) (map (part_targets word_at index pages) rescan) in
    let b = length-map pieces (piece_targets word_at index places) in let c = length-map rescan (part_targets word_at index pages) in omega arith

pub of_block : (word_at : ℕ → Option ℕ) (index : Index) (blocks : List Block) (b : ℕ) (d : Block) → index.blocks ≡ blocks → b < length (all_targets word_at index) → targets_of index (block_words word_at (get_or blocks b d)) ≡ get_or (all_targets word_at index) b []
unfolding block_targets
of_block word_at index blocks b d same h =
    ap (λ (l : List Block). targets_of index (block_words word_at (get_or l b d))) (sym same)
    ∙ sym (get_or-map (block_targets word_at index) index.blocks b d [] (let l = long_all word_at index in omega arith))

pub of_piece : (word_at : ℕ → Option ℕ) (index : Index) (places : Places) (pieces : List Piece) (pages : List ℕ) (rescan : List (ℕ × Part)) (k : ℕ) (d : Piece) → k < length pieces
    → piece_targets word_at index places (get_or pieces k d) ≡ get_or (root_targets word_at index places pieces pages rescan) k []
of_piece word_at index places pieces pages rescan k d h =
    let l = length-map pieces (piece_targets word_at index places) in
    sym (get_or-map (piece_targets word_at index places) pieces k d [] h) ∙ sym (get_or_append_left (map (piece_targets word_at index places) pieces) (map (part_targets word_at index pages) rescan) [] k (omega arith))

pub of_part : (word_at : ℕ → Option ℕ) (index : Index) (places : Places) (pieces : List Piece) (pages : List ℕ) (rescan : List (ℕ × Part)) (k : ℕ) (d : ℕ × Part) → length pieces ≤ k → k < length (root_targets word_at index places pieces pages rescan)
    → part_targets word_at index pages (get_or rescan (k - length pieces) d) ≡ get_or (root_targets word_at index places pieces pages rescan) k []
of_part word_at index places pieces pages rescan k d low h =
    let l = long_roots word_at index places pieces pages rescan in
    sym (get_or-map (part_targets word_at index pages) rescan (k - length pieces) d [] (omega arith))
    ∙ sym (get_or-append_right (map (piece_targets word_at index places) pieces) (map (part_targets word_at index pages) rescan) (length pieces) k [] (length-map pieces (piece_targets word_at index places)) low)
