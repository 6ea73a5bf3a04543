-- Lines that are looked up in an ascending list.
use Rattle.std.proofs.Common.{◌≡◌, ℕ, zero, suc, ◌+◌, ◌<◌, ◌≤◌, ◌==◌, ◌||◌, ◌&&◌, if◌then◌else◌, Bool, true, false, refl, sym, ap, ◌∙◌, subst, List, [], ◌∷◌, ◌++◌, map, take, length, get_or, add-one, append-nil, arith, nat_lt, ltb→lt, nltb→le}
use Rattle.std.specs.Bool.{passes, fails}
use Rattle.std.specs.List.Sorted.{IsNonDecreasing, IsBinarySearchResult}
use Rattle.std.specs.Ordering.{nat_cmp}
use Rattle.std.specs.declared.result.Result.{Result}
use Rattle.std.specs.Prelude.{Ok, Err}
use Rattle.std.specs.Result.{is_ok}
use Rattle.std.proofs.lemmas.List.Sorted.{searched}
use Rattle.leak_blocks.specs.declared.block.Block.{Block}
use Rattle.leak_later.specs.Kept.{has_line, has_marked_line}
use Rattle.leak_marks.specs.Lists.{Has, has}
use Rattle.leak_marks.proofs.ListLemmas.{to_has, has_no}
use Rattle.leak_marks.proofs.ElementLemmas.{has_at, place_of}

listed_at : (xs : List ℕ) (i x : ℕ) → i < length xs → get_or xs i 0 ≡ x → has xs x ≡ true
listed_at xs i x h e = to_has xs x (subst (λ (y : ℕ). Has xs y) e (has_at xs i 0 h))

not_listed : (xs : List ℕ) (x : ℕ) → ((k : ℕ) → k < length xs → get_or xs k 0 ≡ x → ⊥) → has xs x ≡ false
not_listed xs x none = has_no xs x (λ h. let p : (k : ℕ) × (k < length xs) × ((d : ℕ) → get_or xs k d ≡ x) = place_of xs x h in none p.0 p.1 (p.2 0))

pub found_is_listed : (xs : List ℕ) (x : ℕ) (r : Result ℕ ℕ) → IsNonDecreasing xs → IsBinarySearchResult (λ y. nat_cmp y x) xs r → is_ok r ≡ has xs x
found_is_listed xs x (Ok i) up is =
    let m : (i < length xs) × (get_or xs i 0 ≡ x) = searched xs x (Ok i) is (λ j k h l. up j k 0 h l) in
    sym (listed_at xs i x m.0 m.1)
found_is_listed xs x (Err i) up is =
    let m : (i ≤ length xs) × ((k : ℕ) → k < i → get_or xs k 0 < x) × ((k : ℕ) → i ≤ k → k < length xs → x < get_or xs k 0) = searched xs x (Err i) is (λ j k h l. up j k 0 h l) in
    sym (not_listed xs x (λ k h e. beside i k e (λ l. m.1 k l) (λ l. m.2 k l h)))
  where
    beside : (i k : ℕ) → get_or xs k 0 ≡ x → (k < i → get_or xs k 0 < x) → (i ≤ k → x < get_or xs k 0) → ⊥
    beside i k e low high = go (nat_lt k i) refl
      where
        go : (t : Bool) → nat_lt k i ≡ t → ⊥
        go true is_less = let l = low (ltb→lt _ _ (passes _ is_less)) in omega arith
        go false not_less = let l = high (nltb→le _ _ (fails _ not_less)) in omega arith

-- ---- lines of blocks

pub has_map_line : (blocks : List Block) (line : ℕ) → has (map (λ b. b.line) blocks) line ≡ has_line blocks line
has_map_line [] line = refl
has_map_line (b ∷ blocks) line = ap (λ (t : Bool). (b.line == line) || t) (has_map_line blocks line)

-- the lines of the first blocks that are marked
abbrev pub marked_lines : List Bool → List Block → List ℕ
marked_lines [] blocks = []
marked_lines (s ∷ set) [] = []
marked_lines (s ∷ set) (b ∷ blocks) = if s then b.line ∷ marked_lines set blocks else marked_lines set blocks

pub has_marked_lines : (set : List Bool) (blocks : List Block) (line : ℕ) → has (marked_lines set blocks) line ≡ has_marked_line set blocks line
has_marked_lines [] blocks line = refl
has_marked_lines (s ∷ set) [] line = refl
has_marked_lines (s ∷ set) (b ∷ blocks) line = go s (b.line == line) refl (has_marked_lines set blocks line)
  where
    go : (t u : Bool) → (b.line == line) ≡ u → has (marked_lines set blocks) line ≡ has_marked_line set blocks line →
        has (if t then b.line ∷ marked_lines set blocks else marked_lines set blocks) line ≡ (if t && u then true else has_marked_line set blocks line)
    go true true e rest = ap (λ (v : Bool). v || has (marked_lines set blocks) line) e
    go true false e rest = ap (λ (v : Bool). v || has (marked_lines set blocks) line) e ∙ rest
    go false u e rest = rest

marked_lines_next : (set : List Bool) (blocks : List Block) (k : ℕ) (d : Block) → k < length set → k < length blocks →
    marked_lines (take (suc k) set) (take (suc k) blocks) ≡ marked_lines (take k set) (take k blocks) ++ (if get_or set k false then (get_or blocks k d).line ∷ [] else [])
marked_lines_next [] blocks k d h l = absurd (omega arith)
marked_lines_next (s ∷ set) [] k d h l = absurd (omega arith)
marked_lines_next (true ∷ set) (b ∷ blocks) zero d h l = refl
marked_lines_next (false ∷ set) (b ∷ blocks) zero d h l = refl
marked_lines_next (s ∷ set) (b ∷ blocks) (suc k) d h l = go s (marked_lines_next set blocks k d (omega arith) (omega arith))
  where
    go : (t : Bool) → marked_lines (take (suc k) set) (take (suc k) blocks) ≡ marked_lines (take k set) (take k blocks) ++ (if get_or set k false then (get_or blocks k d).line ∷ [] else []) →
        (if t then b.line ∷ marked_lines (take (suc k) set) (take (suc k) blocks) else marked_lines (take (suc k) set) (take (suc k) blocks))
        ≡ (if t then b.line ∷ marked_lines (take k set) (take k blocks) else marked_lines (take k set) (take k blocks)) ++ (if get_or set k false then (get_or blocks k d).line ∷ [] else [])
    go true e = ap (λ (xs : List ℕ). b.line ∷ xs) e
    go false e = e

pub marked_lines_more : (set : List Bool) (blocks : List Block) (k : ℕ) (d : Block) → k < length set → k < length blocks →
    marked_lines (take (k + 1) set) (take (k + 1) blocks) ≡ marked_lines (take k set) (take k blocks) ++ (if get_or set k false then (get_or blocks k d).line ∷ [] else [])
marked_lines_more set blocks k d h l = ap (λ (n : ℕ). marked_lines (take n set) (take n blocks)) (add-one k) ∙ marked_lines_next set blocks k d h l

pub marked_pushed : (set : List Bool) (blocks : List Block) (k : ℕ) (d : Block) (lines longer : List ℕ) → k < length set → k < length blocks →
    lines ≡ marked_lines (take k set) (take k blocks) → get_or set k false ≡ true → longer ≡ lines ++ (get_or blocks k d).line ∷ [] →
    longer ≡ marked_lines (take (k + 1) set) (take (k + 1) blocks)
marked_pushed set blocks k d lines longer h l so_far is e =
    e ∙ ap (λ (xs : List ℕ). xs ++ (get_or blocks k d).line ∷ []) so_far
    ∙ sym (marked_lines_more set blocks k d h l ∙ ap (λ (t : Bool). marked_lines (take k set) (take k blocks) ++ (if t then (get_or blocks k d).line ∷ [] else [])) is)

pub marked_passed : (set : List Bool) (blocks : List Block) (k : ℕ) (d : Block) (lines : List ℕ) → k < length set → k < length blocks →
    lines ≡ marked_lines (take k set) (take k blocks) → get_or set k false ≡ false →
    lines ≡ marked_lines (take (k + 1) set) (take (k + 1) blocks)
marked_passed set blocks k d lines h l so_far is =
    so_far ∙ sym (append-nil (marked_lines (take k set) (take k blocks)))
    ∙ sym (marked_lines_more set blocks k d h l ∙ ap (λ (t : Bool). marked_lines (take k set) (take k blocks) ++ (if t then (get_or blocks k d).line ∷ [] else [])) is)
