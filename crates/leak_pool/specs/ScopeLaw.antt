-- What is scanned leads to blocks, and what is scanned is told by facts alone.
use Rattle.std.proofs.Common.{ℕ, zero, suc, ◌<◌, Bool, true, false, List, [], ◌∷◌, ◌++◌, length, map, get_or, Option, subst, ⊎_elim, arith}
use Rattle.std.proofs.Math.Bridge.{le_prop}
use Rattle.std.proofs.Math.Nat.{ℕ_set}
use Rattle.std.specs.List.{flat_map, filter_map, AllByRecursion}
use Rattle.std.proofs.lemmas.List.{length-map}
use Rattle.leak_blocks.specs.declared.block.Block.{Block}
use Rattle.leak_index.specs.Hits.{Index, hits_of, hits_from}
use Rattle.leak_index.proofs.Few.{hits_below}
use Rattle.leak_roots.specs.declared.piece.Piece.{Piece}
use Rattle.leak_roots.specs.declared.piece.Piece.TheVariants.{Registers, Memory}
use Rattle.leak_roots.specs.Places.{Places, addresses_in}
use Rattle.leak_roots.specs.Pieces.{IsPiece}
use Rattle.leak_scan.specs.Targets.{targets_of, block_words, block_targets}
use Rattle.leak_scan.specs.RootWords.{targets_without_links}
use Rattle.leak_scan.proofs.RootRanges.{all_without}
use Rattle.leak_marks.specs.Lists.{Has}
use Rattle.leak_marks.proofs.ListLemmas.{at_head, of_append}
use Rattle.leak_pool.specs.Items.{targets_of_item}
use Rattle.leak_pool.specs.Marking.{led_in_memory}
use Rattle.leak_pool.specs.Scopes.{root_targets, all_targets, piece_targets, part_targets, ArePieces, AreParts}
use Rattle.leak_pool.specs.declared.start.Part.{Part}
use Rattle.leak_pool.specs.declared.target_source.Item.{Item}
use Rattle.leak_pool.specs.declared.target_source.Item.TheVariants.{Root, Block as OfBlock}

-- ---- what words lead to are blocks

below_all : (n : ℕ) (xs : List ℕ) → AllByRecursion (λ i. i < n) xs → (b : ℕ) → Has xs b → b < n
below_all n [] all b h = absurd (let z : 0 < 0 = h in omega arith)
below_all n (x ∷ xs) all b h =
    ⊎_elim (λ e. subst (λ (y : ℕ). y < n) e all.0) (λ r. below_all n xs all.1 b r) (at_head x xs b h)

hits_are_below : (index : Index) (word : ℕ)
    → AllByRecursion (λ i. i < length index.blocks) (hits_of index word)
unfolding hits_of
hits_are_below index word =
    hits_below 0 (length index.blocks) index.reading index.blocks word (omega arith)

hit_below : (index : Index) (word b : ℕ) → Has (hits_of index word) b → b < length index.blocks
hit_below index word b h =
    below_all (length index.blocks) (hits_of index word) (hits_are_below index word) b h

pub target_below : (index : Index) (words : List ℕ) (b : ℕ)
    → Has (targets_of index words) b → b < length index.blocks
unfolding targets_of
target_below index [] b h = absurd (let z : 0 < 0 = h in omega arith)
target_below index (w ∷ ws) b h =
    ⊎_elim (λ f. hit_below index w b f) (λ r. target_below index ws b r)
    (of_append (hits_of index w) (flat_map (hits_of index) ws) b h)

-- ---- root words

abbrev Inside : Index → List ℕ → Type 0
Inside index xs = (b : ℕ) → Has xs b → b < length index.blocks

-- without links too
pub memory_inside : (skips_links : Bool) (word_at : ℕ → Option ℕ) (index : Index) (xs : List ℕ)
    (b : ℕ) → Has (led_in_memory skips_links word_at index xs) b → b < length index.blocks
memory_inside false word_at index xs b h = target_below index (filter_map word_at xs) b h
memory_inside true word_at index xs b h =
    below_all (length index.blocks) (targets_without_links word_at index xs)
    (all_without (λ i. i < length index.blocks) word_at index xs (hits_are_below index)) b h

piece_inside : (word_at : ℕ → Option ℕ) (index : Index) (places : Places) (piece : Piece)
    → Inside index (piece_targets word_at index places piece)
piece_inside word_at index places (Registers from to) b h = target_below index _ b h
piece_inside word_at index places (Memory from to) b h =
    memory_inside places.skips_links word_at index (addresses_in (from, to)) b h

-- ---- items

-- a fact of all lists holds of the one at a place
at : {A : Type 0} (P : List ℕ → Type 0) (f : A → List ℕ) (xs : List A) (rest : List (List ℕ))
    (k : ℕ) → ((x : A) → P (f x)) → ((j : ℕ) → P (get_or rest j [])) → P (get_or (map f xs ++ rest) k [])
at P f [] rest k each tail = tail k
at P f (x ∷ xs) rest zero each tail = each x
at P f (x ∷ xs) rest (suc k) each tail = at P f xs rest k each tail

alone : {A : Type 0} (P : List ℕ → Type 0) (f : A → List ℕ) (xs : List A) (k : ℕ)
    → P [] → ((x : A) → P (f x)) → P (get_or (map f xs) k [])
alone P f [] zero none each = none
alone P f [] (suc k) none each = none
alone P f (x ∷ xs) zero none each = each x
alone P f (x ∷ xs) (suc k) none each = alone P f xs k none each

block_inside : (word_at : ℕ → Option ℕ) (index : Index) (d : Block)
    → Inside index (block_targets word_at index d)
unfolding block_targets
block_inside word_at index d b h = target_below index (block_words word_at d) b h

no_targets : (index : Index) → Inside index []
no_targets index b h = absurd (let z : 0 < 0 = h in omega arith)

pub blocks_inside : (word_at : ℕ → Option ℕ) (index : Index) (k b : ℕ)
    → Has (get_or (all_targets word_at index) k []) b → b < length (all_targets word_at index)
blocks_inside word_at index k b h =
    let l = length-map index.blocks (block_targets word_at index) in
    let i : b < length index.blocks =
    alone (Inside index) (block_targets word_at index) index.blocks k (no_targets index)
    (block_inside word_at index) b h in omega arith

pub scope_inside : (word_at : ℕ → Option ℕ) (index : Index) (places : Places) (pieces : List Piece)
    (pages : List ℕ) (rescan : List (ℕ × Part)) (item : Item) (b : ℕ)
    → Has (targets_of_item (root_targets word_at index places pieces pages rescan)
    (all_targets word_at index) item) b
    → b < length (all_targets word_at index)
scope_inside word_at index places pieces pages rescan (Root k) b h =
    let l = length-map index.blocks (block_targets word_at index) in
    let i : b < length index.blocks =
    at (Inside index) (piece_targets word_at index places) pieces
    (map (part_targets word_at index pages) rescan) k (piece_inside word_at index places)
    (λ j. alone (Inside index) (part_targets word_at index pages) rescan j (no_targets index)
    (λ x b h. target_below index _ b h)) b h in omega arith
scope_inside word_at index places pieces pages rescan (OfBlock k) b h = blocks_inside word_at index k b h

-- ---- facts

piece_prop : (places : Places) (piece : Piece) → IsProp (IsPiece places piece)
piece_prop places (Registers from to) = hlevel (le_prop, ℕ_set)
piece_prop places (Memory from to) = hlevel (le_prop, ℕ_set)

pub pieces_prop : (places : Places) (pieces : List Piece) → IsProp (ArePieces places pieces)
pieces_prop places [] = hlevel
pieces_prop places (x ∷ xs) = hlevel (piece_prop places x, pieces_prop places xs)

pub parts_prop : (blocks : ℕ) (rescan : List (ℕ × Part)) → IsProp (AreParts blocks rescan)
parts_prop blocks [] = hlevel
parts_prop blocks (x ∷ xs) = hlevel (le_prop, parts_prop blocks xs)
