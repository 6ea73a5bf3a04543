-- Entries of a map on both sides of an address, with those of a run between them.
use Rattle.std.proofs.Common.{◌≡◌, ℕ, ◌<◌, ◌≤◌, ◌⊎◌, inl, inr, Bool, true, false, not, ◌&&◌, cond, refl, sym, subst, ap, ◌∙◌, List, [], ◌∷◌, ◌++◌, length, map, filter, take, drop, slice_get, Some, None, append-nil, append_assoc, arith, nat_lt}
use Rattle.std.specs.List.{AllByRecursion}
use Rattle.std.specs.Ordering.{nat_cmp, is_le}
use Rattle.std.proofs.lemmas.Bool.Decides.{nat_tests}
use Rattle.std.proofs.lemmas.List.{map-append}
use Rattle.leak_blocks.specs.declared.block.Block.{Block}
use Rattle.leak_blocks.specs.Span.{AreDisjoint, span_end}
use Rattle.leak_blocks.specs.Numbers.{IsNumbered, IsAllocationAt, entry_of, entries_of}
use Rattle.leak_blocks.specs.Runs.{AreBetween}
use Rattle.leak_blocks.proofs.OrderLemmas.{less_of, not_less_of}
use Rattle.leak_blocks.proofs.NumberLemmas.{all_weaker, not_empty}
use Rattle.leak_blocks.proofs.RunLemmas.{all_back, disjoint_back, ends_before}

-- ---- the first block that begins at an address or above it

-- no earlier than the address
abbrev pub is_from : ℕ → ℕ × ℕ → Bool
is_from last e = is_le (nat_cmp last e.0) && not false

from_or_not : (last : ℕ) (b : Block) → ((is_from last (entry_of b) ≡ true) × (last ≤ b.start)) ⊎ ((is_from last (entry_of b) ≡ false) × (b.start < last))
from_or_not last b = go (nat_lt b.start last) refl
  where
    go : (t : Bool) → nat_lt b.start last ≡ t → ((is_from last (entry_of b) ≡ true) × (last ≤ b.start)) ⊎ ((is_from last (entry_of b) ≡ false) × (b.start < last))
    go true e = inr (grind (arith, nat_tests, e), less_of _ _ e)
    go false e = inl (grind (arith, nat_tests, e), not_less_of _ _ e)

pub none_from : (last limit : ℕ) (bs : List Block) → filter (is_from last) (entries_of bs) ≡ [] → AllByRecursion (λ b. (b.start < last) ⊎ (limit ≤ b.start)) bs
none_from last limit [] e = tt
none_from last limit (b ∷ bs) e = elim (from_or_not last b) [
  | inl h ↦ absurd (not_empty (entry_of b) (filter (is_from last) (entries_of bs)) (subst (λ (t : Bool). cond t (entry_of b ∷ filter (is_from last) (entries_of bs)) (filter (is_from last) (entries_of bs)) ≡ []) h.0 e))
  | inr h ↦ (inl h.1, none_from last limit bs (subst (λ (t : Bool). cond t (entry_of b ∷ filter (is_from last) (entries_of bs)) (filter (is_from last) (entries_of bs)) ≡ []) h.0 e))
]

pub first_from : (last : ℕ) (bs : List Block) (e : ℕ × ℕ) (es : List (ℕ × ℕ)) → AreDisjoint bs → filter (is_from last) (entries_of bs) ≡ e ∷ es → AllByRecursion (λ b. (b.start < last) ⊎ (e.0 ≤ b.start)) bs
first_from last [] e es d h = tt
first_from last (b ∷ bs) e es d h = elim (from_or_not last b) [
  | inl k ↦ let same : b.start ≡ e.0 = ap (λ (p : ℕ × ℕ). p.0) (head_same (entry_of b) e (filter (is_from last) (entries_of bs)) es (subst (λ (t : Bool). cond t (entry_of b ∷ filter (is_from last) (entries_of bs)) (filter (is_from last) (entries_of bs)) ≡ e ∷ es) k.0 h)) in
      (inr (omega (arith, same)), all_weaker (λ c. span_end b ≤ c.start) (λ c. (c.start < last) ⊎ (e.0 ≤ c.start)) (λ c l. inr (omega (arith, l, same))) bs d.0)
  | inr k ↦ (inl k.1, first_from last bs e es d.1 (subst (λ (t : Bool). cond t (entry_of b ∷ filter (is_from last) (entries_of bs)) (filter (is_from last) (entries_of bs)) ≡ e ∷ es) k.0 h))
]
  where
    head_same : (u v : ℕ × ℕ) (us vs : List (ℕ × ℕ)) → u ∷ us ≡ v ∷ vs → u ≡ v
    head_same u v us vs h = cc

-- any address is its own limit
pub own_limit : (last : ℕ) (bs : List Block) → AllByRecursion (λ b. (b.start < last) ⊎ (last ≤ b.start)) bs
own_limit last [] = tt
own_limit last (b ∷ bs) = (lt_or_le b.start last, own_limit last bs)
  where
    lt_or_le : (m n : ℕ) → (m < n) ⊎ (n ≤ m)
    lt_or_le m n = go (nat_lt m n) refl
      where
        go : (t : Bool) → nat_lt m n ≡ t → (m < n) ⊎ (n ≤ m)
        go true e = inl (less_of _ _ e)
        go false e = inr (not_less_of _ _ e)

-- ---- the entries on both sides of the run

-- earlier than the address
abbrev pub is_until : ℕ → ℕ × ℕ → Bool
is_until last e = true && not (is_le (nat_cmp last e.0))

until_is : (last : ℕ) (e : ℕ × ℕ) → is_until last e ≡ not (is_from last e)
until_is last e = go (is_le (nat_cmp last e.0))
  where
    go : (t : Bool) → (true && not t) ≡ not (t && not false)
    go true = refl
    go false = refl

from_front : (first : ℕ) (xs ys : List Block) → AllByRecursion (λ b. b.start < first) xs → filter (is_from first) (entries_of (xs ++ ys)) ≡ filter (is_from first) (entries_of ys)
from_front first [] ys h = refl
from_front first (x ∷ xs) ys h = elim (from_or_not first x) [
  | inl k ↦ absurd (omega (arith, k.1, h.0))
  | inr k ↦ ap (λ (t : Bool). cond t (entry_of x ∷ filter (is_from first) (entries_of (xs ++ ys))) (filter (is_from first) (entries_of (xs ++ ys)))) k.0 ∙ from_front first xs ys h.1
]

from_back : (first : ℕ) (ys : List Block) → AllByRecursion (λ b. first ≤ b.start) ys → filter (is_from first) (entries_of ys) ≡ entries_of ys
from_back first [] h = refl
from_back first (y ∷ ys) h = elim (from_or_not first y) [
  | inl k ↦ ap (λ (t : Bool). cond t (entry_of y ∷ filter (is_from first) (entries_of ys)) (filter (is_from first) (entries_of ys))) k.0 ∙ ap (λ (l : List (ℕ × ℕ)). entry_of y ∷ l) (from_back first ys h.1)
  | inr k ↦ absurd (omega (arith, k.1, h.0))
]

until_back : (first : ℕ) (ys : List Block) → AllByRecursion (λ b. first ≤ b.start) ys → filter (is_until first) (entries_of ys) ≡ []
until_back first [] h = refl
until_back first (y ∷ ys) h = elim (from_or_not first y) [
  | inl k ↦ ap (λ (t : Bool). cond t (entry_of y ∷ filter (is_until first) (entries_of ys)) (filter (is_until first) (entries_of ys))) (until_is first (entry_of y) ∙ ap not k.0) ∙ until_back first ys h.1
  | inr k ↦ absurd (omega (arith, k.1, h.0))
]

until_front : (first : ℕ) (xs ys : List Block) → AllByRecursion (λ b. b.start < first) xs → AllByRecursion (λ b. first ≤ b.start) ys → filter (is_until first) (entries_of (xs ++ ys)) ≡ entries_of xs
until_front first [] ys h k = until_back first ys k
until_front first (x ∷ xs) ys h k = elim (from_or_not first x) [
  | inl l ↦ absurd (omega (arith, l.1, h.0))
  | inr l ↦ ap (λ (t : Bool). cond t (entry_of x ∷ filter (is_until first) (entries_of (xs ++ ys))) (filter (is_until first) (entries_of (xs ++ ys)))) (until_is first (entry_of x) ∙ ap not l.0)
      ∙ ap (λ (l : List (ℕ × ℕ)). entry_of x ∷ l) (until_front first xs ys h.1 k)
]

numbers_of : (bs : List Block) → map (λ e. e.1) (entries_of bs) ≡ map (λ b. b.line) bs
numbers_of [] = refl
numbers_of (b ∷ bs) = ap (λ (l : List ℕ). b.line ∷ l) (numbers_of bs)

drop_front : (xs ys : List ℕ) → drop (length xs) (xs ++ ys) ≡ ys
drop_front [] ys = refl
drop_front (x ∷ xs) ys = drop_front xs ys

take_front : (xs ys : List ℕ) → take (length xs) (xs ++ ys) ≡ xs
take_front [] ys = refl
take_front (x ∷ xs) ys = ap (λ (l : List ℕ). x ∷ l) (take_front xs ys)

-- those of the map that begin before the address, those that don't, and the run's between them
pub record IsParted (first : ℕ) (below held above : List Block) : Type 0 where
  pub front : List Block
  pub back : List Block
  pub whole : below ++ above ≡ front ++ back
  pub before : AllByRecursion (λ b. b.start < first) front
  pub after : AllByRecursion (λ b. first ≤ b.start) back
  pub all : (below ++ held) ++ above ≡ front ++ (held ++ back)

-- the address is the start of the run's first block, or 0
pub parted_at_first : (allocated : List Block) (entries : List (ℕ × ℕ)) (run : List ℕ) (below held above : List Block) (number : ℕ) (found : Block) → AreBetween allocated entries run below held above → slice_get run 0 ≡ Some number → IsAllocationAt allocated number found →
    IsParted found.start below held above
parted_at_first allocated entries run below [] above number found b e at = absurd (not_some (ap (λ (ns : List ℕ). slice_get ns 0) (sym b.listed) ∙ e))
  where
    not_some : slice_get [] 0 ≡ Some number → ⊥
    not_some h = cc
parted_at_first allocated entries run below (h ∷ held) above number found b e at =
    let numbered : h.line ≡ number = same_number (ap (λ (ns : List ℕ). slice_get ns 0) (sym b.listed) ∙ e) in
    let same : found.start ≡ h.start = (at h (all_back (IsNumbered allocated) below (h ∷ held) b.numbered).0 numbered).start in
    let order : AreDisjoint (below ++ h ∷ (held ++ above)) = subst AreDisjoint (append_assoc below (h ∷ held) above) b.disjoint in
    record {
      front = below;
      back = above;
      whole = refl;
      before = all_weaker (λ c. span_end c ≤ h.start) (λ c. c.start < found.start) (λ c l. omega (arith, l, same)) below (ends_before h (held ++ above) below order);
      after = all_weaker (λ c. span_end h ≤ c.start) (λ c. found.start ≤ c.start) (λ c l. omega (arith, l, same)) above (all_back (λ c. span_end h ≤ c.start) held above (disjoint_back below (h ∷ (held ++ above)) order).0);
      all = append_assoc below (h ∷ held) above;
    }
  where
    same_number : Some h.line ≡ Some number → h.line ≡ number
    same_number k = cc

pub parted_at_none : (allocated : List Block) (entries : List (ℕ × ℕ)) (run : List ℕ) (below held above : List Block) → AreBetween allocated entries run below held above → slice_get run 0 ≡ None → IsParted 0 below held above
parted_at_none allocated entries run below (h ∷ held) above b e = absurd (not_none (ap (λ (ns : List ℕ). slice_get ns 0) (sym b.listed) ∙ e))
  where
    not_none : Some h.line ≡ None → ⊥
    not_none k = cc
parted_at_none allocated entries run below [] above b e = record {
  front = [];
  back = below ++ above;
  whole = refl;
  before = tt;
  after = above_zero (below ++ above);
  all = ap (λ (l : List Block). l ++ above) (append-nil below);
}
  where
    above_zero : (bs : List Block) → AllByRecursion (λ b. 0 ≤ b.start) bs
    above_zero [] = tt
    above_zero (c ∷ bs) = (omega arith, above_zero bs)

pub joined_parts : (allocated : List Block) (entries : List (ℕ × ℕ)) (run : List ℕ) (below held above : List Block) (first : ℕ) → AreBetween allocated entries run below held above → IsParted first below held above →
    (until from : List (ℕ × ℕ)) (longer turned joined : List ℕ) (n : ℕ) → until ≡ filter (is_until first) entries → from ≡ filter (is_from first) entries → n ≡ length run → longer ≡ run ++ map (λ e. e.1) until →
    turned ≡ drop n longer ++ take n longer → joined ≡ turned ++ map (λ e. e.1) from → joined ≡ map (λ b. b.line) ((below ++ held) ++ above)
joined_parts allocated entries run below held above first b p until from longer turned joined n u f k l t j =
    let ends : entries ≡ entries_of (p.front ++ p.back) = b.mapped ∙ ap entries_of p.whole in
    let fronts : map (λ (e : ℕ × ℕ). e.1) until ≡ map (λ b. b.line) p.front = ap (map (λ (e : ℕ × ℕ). e.1)) (u ∙ ap (filter (is_until first)) ends ∙ until_front first p.front p.back p.before p.after) ∙ numbers_of p.front in
    let backs : map (λ (e : ℕ × ℕ). e.1) from ≡ map (λ b. b.line) p.back = ap (map (λ (e : ℕ × ℕ). e.1)) (f ∙ ap (filter (is_from first)) ends ∙ from_front first p.front p.back p.before ∙ from_back first p.back p.after) ∙ numbers_of p.back in
    let long : longer ≡ run ++ map (λ b. b.line) p.front = l ∙ ap (λ (ns : List ℕ). run ++ ns) fronts in
    let turns : turned ≡ map (λ b. b.line) p.front ++ run = t ∙ ap (λ (i : ℕ). drop i longer ++ take i longer) k ∙ ap (λ (ns : List ℕ). drop (length run) ns ++ take (length run) ns) long
    ∙ ap (λ (ns : List ℕ). ns ++ take (length run) (run ++ map (λ b. b.line) p.front)) (drop_front run (map (λ b. b.line) p.front)) ∙ ap (λ (ns : List ℕ). map (λ b. b.line) p.front ++ ns) (take_front run (map (λ b. b.line) p.front)) in
    j ∙ ap (λ (ns : List ℕ). ns ++ map (λ (e : ℕ × ℕ). e.1) from) turns ∙ ap (λ (ns : List ℕ). (map (λ b. b.line) p.front ++ run) ++ ns) backs
    ∙ append_assoc (map (λ b. b.line) p.front) run (map (λ b. b.line) p.back)
    ∙ ap (λ (ns : List ℕ). map (λ b. b.line) p.front ++ (ns ++ map (λ b. b.line) p.back)) b.listed
    ∙ sym (ap (map (λ (b : Block). b.line)) p.all ∙ map-append (λ (b : Block). b.line) p.front (held ++ p.back) ∙ ap (λ (ns : List ℕ). map (λ b. b.line) p.front ++ ns) (map-append (λ (b : Block). b.line) held p.back))
