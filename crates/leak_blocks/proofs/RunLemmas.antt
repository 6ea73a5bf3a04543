-- Blocks that are one above the other, with others below and above them.
use Rattle.std.proofs.Common.{◌≡◌, ◌≢◌, ℕ, ◌+◌, ◌<◌, ◌≤◌, max, ◌⊎◌, inl, inr, Bool, true, false, not, ◌&&◌, ◌||◌, cond, refl, sym, subst, ap, ◌∙◌, List, [], ◌∷◌, ◌++◌, length, map, take, drop, slice_get, Some, zero, suc, ◌-◌, append_assoc, arith, nat_lt, ◌==◌}
use Rattle.std.specs.List.{list_any, AllByRecursion}
use Rattle.std.specs.Ordering.{nat_cmp}
use Rattle.std.specs.BTreeMap.{insert_entry}
use Rattle.std.proofs.Math.Seq.{take-length}
use Rattle.std.proofs.lemmas.List.{take_more}
use Rattle.std.proofs.lemmas.List.Elements.{filter-append}
use Rattle.std.proofs.lemmas.Option.{slice_get_within, get_or_from_slice_get}
use Rattle.leak_mtrace.specs.declared.line.Line.{Line}
use Rattle.leak_blocks.specs.declared.block.Block.{Block}
use Rattle.leak_blocks.specs.Span.{AreDisjoint, span_end}
use Rattle.leak_blocks.specs.Live.{among}
use Rattle.leak_blocks.specs.Steps.{meets}
use Rattle.leak_blocks.specs.Numbers.{IsNumbered, IsAllocationAt, HasPlaceOf, entries_of}
use Rattle.leak_blocks.specs.Runs.{AreBetween}
use Rattle.leak_blocks.proofs.OrderLemmas.{among_before, among_behind, is_less, is_not_less, not_less_of}
use Rattle.leak_blocks.proofs.NumberLemmas.{all_weaker}
use Rattle.leak_blocks.proofs.ChangeLemmas.{elsewhere, unmet, inserted, is_same, not_same}
use Rattle.leak_blocks.proofs.BuildLemmas.{AreBuilt, IsNext, next_built, built_at_last, all_behind}

-- ---- lists that are joined

pub all_front : (P : Block → Type 0) (xs ys : List Block) → AllByRecursion P (xs ++ ys) → AllByRecursion P xs
all_front P [] ys h = tt
all_front P (x ∷ xs) ys h = (h.0, all_front P xs ys h.1)

pub all_back : (P : Block → Type 0) (xs ys : List Block) → AllByRecursion P (xs ++ ys) → AllByRecursion P ys
all_back P [] ys h = h
all_back P (x ∷ xs) ys h = all_back P xs ys h.1

pub all_both : (P : Block → Type 0) (xs ys : List Block) → AllByRecursion P xs → AllByRecursion P ys → AllByRecursion P (xs ++ ys)
all_both P [] ys h k = k
all_both P (x ∷ xs) ys h k = (h.0, all_both P xs ys h.1 k)

pub all_two : (P Q R : Block → Type 0) → ((c : Block) → P c → Q c → R c) → (bs : List Block) → AllByRecursion P bs → AllByRecursion Q bs → AllByRecursion R bs
all_two P Q R f [] h k = tt
all_two P Q R f (b ∷ bs) h k = (f b h.0 k.0, all_two P Q R f bs h.1 k.1)

pub disjoint_front : (xs ys : List Block) → AreDisjoint (xs ++ ys) → AreDisjoint xs
disjoint_front [] ys d = tt
disjoint_front (x ∷ xs) ys d = (all_front (λ c. span_end x ≤ c.start) xs ys d.0, disjoint_front xs ys d.1)

pub disjoint_back : (xs ys : List Block) → AreDisjoint (xs ++ ys) → AreDisjoint ys
disjoint_back [] ys d = d
disjoint_back (x ∷ xs) ys d = disjoint_back xs ys d.1

-- without those between
pub disjoint_apart : (xs ys zs : List Block) → AreDisjoint ((xs ++ ys) ++ zs) → AreDisjoint (xs ++ zs)
disjoint_apart [] ys zs d = disjoint_back ys zs d
disjoint_apart (x ∷ xs) ys zs d = (
  all_both (λ c. span_end x ≤ c.start) xs zs (all_front (λ c. span_end x ≤ c.start) xs ys (all_front (λ c. span_end x ≤ c.start) (xs ++ ys) zs d.0)) (all_back (λ c. span_end x ≤ c.start) (xs ++ ys) zs d.0),
  disjoint_apart xs ys zs d.1,
)

pub ends_before : (b : Block) (cs bs : List Block) → AreDisjoint (bs ++ b ∷ cs) → AllByRecursion (λ c. span_end c ≤ b.start) bs
ends_before b cs [] d = tt
ends_before b cs (c ∷ bs) d = (all_behind (λ x. span_end c ≤ x.start) bs b cs d.0, ends_before b cs bs d.1)

-- ---- insertion between

pub among_between : (b : Block) (xs ys : List Block) → AllByRecursion (λ c. span_end c ≤ b.start) xs → AllByRecursion (λ c. b.start < c.start) ys → among b (xs ++ ys) ≡ xs ++ b ∷ ys
among_between b [] [] h k = refl
among_between b [] (c ∷ cs) h k = among_before b c cs (is_less _ _ k.0)
among_between b (c ∷ cs) ys h k = among_behind b c (cs ++ ys) (is_not_less b.start c.start (omega (arith, h.0))) ∙ ap (λ (l : List Block). c ∷ l) (among_between b cs ys h.1 k)

-- ---- the run's blocks, put in the map one after another

-- the first of these blocks, and those above them, are in the map, and the numbers of the others are left
pub record ArePlaced (blocks above : List Block) (entries : List (ℕ × ℕ)) (numbers : List ℕ) : Type 0 where
  pub placed : List Block
  pub built : AreBuilt blocks placed numbers
  pub listed : entries ≡ entries_of (placed ++ above)

pub placed_at_first : (allocated : List Block) (entries : List (ℕ × ℕ)) (run : List ℕ) (below held above : List Block) → AreBetween allocated entries run below held above → ArePlaced (below ++ held) above entries (drop 0 run)
placed_at_first allocated entries run below held above b = record { placed = below; built = record { rest = held; whole = refl; left = b.listed }; listed = b.mapped }

pub next_placed : (allocated : List Block) (blocks above : List Block) (entries now : List (ℕ × ℕ)) (before numbers : List ℕ) (number : ℕ) (found : Block) → AllByRecursion (IsNumbered allocated) blocks → AreDisjoint (blocks ++ above) →
    ArePlaced blocks above entries before → before ≡ number ∷ numbers → IsAllocationAt allocated number found → now ≡ insert_entry nat_cmp entries found.start number → ArePlaced blocks above now numbers
next_placed allocated blocks above entries now before numbers number found all d p e at i =
    let n : IsNext allocated blocks p.placed number numbers = next_built allocated blocks p.placed before numbers number all p.built e in
    let order : AreDisjoint (p.placed ++ n.block ∷ (n.later.rest ++ above)) =
    subst AreDisjoint (ap (λ (l : List Block). l ++ above) (n.later.whole ∙ append_assoc p.placed (n.block ∷ []) n.later.rest) ∙ append_assoc p.placed (n.block ∷ n.later.rest) above) d in
    let front : AllByRecursion (λ c. span_end c ≤ n.block.start) p.placed = ends_before n.block (n.later.rest ++ above) p.placed order in
    let back : AllByRecursion (λ c. span_end n.block ≤ c.start) above = all_back (λ c. span_end n.block ≤ c.start) n.later.rest above (disjoint_back p.placed (n.block ∷ (n.later.rest ++ above)) order).0 in
    let same : HasPlaceOf found n.block = at n.block n.is_numbered n.is_number in
    record {
      placed = p.placed ++ n.block ∷ [];
      built = n.later;
      listed = i ∙ ap (λ (l : List (ℕ × ℕ)). insert_entry nat_cmp l found.start number) p.listed
          ∙ ap (λ (s : ℕ). insert_entry nat_cmp (entries_of (p.placed ++ above)) s number) same.start
          ∙ ap (λ (k : ℕ). insert_entry nat_cmp (entries_of (p.placed ++ above)) n.block.start k) (sym n.is_number)
          ∙ inserted n.block (p.placed ++ above) (all_both (λ c. c.start ≢ n.block.start) p.placed above
          (all_weaker (λ c. span_end c ≤ n.block.start) (λ c. c.start ≢ n.block.start) (λ c l k. absurd (omega (arith, l, k))) p.placed front)
          (all_weaker (λ c. span_end n.block ≤ c.start) (λ c. c.start ≢ n.block.start) (λ c l k. absurd (omega (arith, l, k))) above back))
          ∙ ap entries_of (among_between n.block p.placed above front (all_weaker (λ c. span_end n.block ≤ c.start) (λ c. n.block.start < c.start) (λ c l. omega (arith, l)) above back)
          ∙ sym (append_assoc p.placed (n.block ∷ []) above));
    }

pub placed_at_last : (blocks above : List Block) (entries : List (ℕ × ℕ)) (numbers : List ℕ) → ArePlaced blocks above entries numbers → numbers ≡ [] → entries ≡ entries_of (blocks ++ above)
placed_at_last blocks above entries numbers p e = p.listed ∙ ap (λ (l : List Block). entries_of (l ++ above)) (built_at_last blocks p.placed numbers p.built e)

-- ---- blocks that begin elsewhere

pub elsewhere_all : (a : ℕ) (bs : List Block) → AllByRecursion (λ b. b.start ≢ a) bs → elsewhere a bs ≡ bs
elsewhere_all a [] h = refl
elsewhere_all a (b ∷ bs) h = ap (λ (t : Bool). cond (not t) (b ∷ elsewhere a bs) (elsewhere a bs)) (not_same a b.start (λ e. h.0 (sym e))) ∙ ap (λ (l : List Block). b ∷ l) (elsewhere_all a bs h.1)

-- the block that begins there is taken out
pub elsewhere_out : (xs : List Block) (b : Block) (ys : List Block) → AreDisjoint (xs ++ b ∷ ys) → elsewhere b.start (xs ++ b ∷ ys) ≡ xs ++ ys
elsewhere_out xs b ys d =
    let back : AreDisjoint (b ∷ ys) = disjoint_back xs (b ∷ ys) d in
    filter-append (λ c. not (b.start == c.start)) xs (b ∷ ys)
    ∙ ap (λ (l : List Block). l ++ elsewhere b.start (b ∷ ys)) (elsewhere_all b.start xs (all_weaker (λ c. span_end c ≤ b.start) (λ c. c.start ≢ b.start) (λ c l k. absurd (omega (arith, l, k))) xs (ends_before b ys xs d)))
    ∙ ap (λ (t : Bool). xs ++ cond (not t) (b ∷ elsewhere b.start ys) (elsewhere b.start ys)) (is_same b.start b.start refl)
    ∙ ap (λ (l : List Block). xs ++ l) (elsewhere_all b.start ys (all_weaker (λ c. span_end b ≤ c.start) (λ c. c.start ≢ b.start) (λ c l k. absurd (omega (arith, l, k))) ys back.0))

any_append : (p : Block → Bool) (xs ys : List Block) → list_any p (xs ++ ys) ≡ (list_any p xs || list_any p ys)
any_append p [] ys = refl
any_append p (x ∷ xs) ys = ap (λ (t : Bool). p x || t) (any_append p xs ys) ∙ assoc (p x) (list_any p xs) (list_any p ys)
  where
    assoc : (s t u : Bool) → (s || (t || u)) ≡ ((s || t) || u)
    assoc true t u = refl
    assoc false t u = refl

none_begins : (a : ℕ) (bs : List Block) → AllByRecursion (λ b. b.start ≢ a) bs → list_any (λ b. b.start == a) bs ≡ false
none_begins a [] h = refl
none_begins a (b ∷ bs) h = ap (λ (t : Bool). t || list_any (λ c. c.start == a) bs) (not_same b.start a h.0) ∙ none_begins a bs h.1

-- one of them begins there if and only if one that isn't between does
pub begins_apart : (a : ℕ) (xs ys zs : List Block) → AllByRecursion (λ b. b.start ≢ a) ys → list_any (λ b. b.start == a) ((xs ++ ys) ++ zs) ≡ list_any (λ b. b.start == a) (xs ++ zs)
begins_apart a xs ys zs h =
    any_append (λ b. b.start == a) (xs ++ ys) zs ∙ ap (λ (t : Bool). t || list_any (λ b. b.start == a) zs) (any_append (λ b. b.start == a) xs ys ∙ ap (λ (t : Bool). list_any (λ b. b.start == a) xs || t) (none_begins a ys h) ∙ or_false (list_any (λ b. b.start == a) xs))
    ∙ sym (any_append (λ b. b.start == a) xs zs)
  where
    or_false : (t : Bool) → (t || false) ≡ t
    or_false true = refl
    or_false false = refl

pub begins_listed : (xs : List Block) (b : Block) (ys : List Block) → list_any (λ c. c.start == b.start) (xs ++ b ∷ ys) ≡ true
begins_listed [] b ys = ap (λ (t : Bool). t || list_any (λ c. c.start == b.start) ys) (is_same b.start b.start refl)
begins_listed (x ∷ xs) b ys = ap (λ (t : Bool). (x.start == b.start) || t) (begins_listed xs b ys) ∙ or_true (x.start == b.start)
  where
    or_true : (t : Bool) → (t || true) ≡ true
    or_true true = refl
    or_true false = refl

-- ---- the last block of the run

pub record IsLastHeld (held : List Block) (run : List ℕ) (number : ℕ) : Type 0 where
  pub others : List Block
  pub block : Block
  pub whole : held ≡ others ++ block ∷ []
  pub listed : run ≡ map (λ b. b.line) others
  pub is_number : block.line ≡ number

pub last_held : (held : List Block) (run : List ℕ) (number : ℕ) → run ++ number ∷ [] ≡ map (λ b. b.line) held → IsLastHeld held run number
last_held [] [] number e = absurd cc
last_held [] (r ∷ run) number e = absurd cc
last_held (b ∷ []) [] number e = record { others = []; block = b; whole = refl; listed = refl; is_number = cc }
last_held (b ∷ c ∷ held) [] number e = absurd cc
last_held (b ∷ held) (r ∷ run) number e =
    let l : IsLastHeld held run number = last_held held run number cc in
    let k : r ≡ b.line = cc in
    record { others = b ∷ l.others; block = l.block; whole = ap (λ (bs : List Block). b ∷ bs) l.whole; listed = ap (λ (n : ℕ). n ∷ run) k ∙ ap (λ (ns : List ℕ). b.line ∷ ns) l.listed; is_number = l.is_number }

-- it is the last of the run's numbers
pub last_got : (xs : List ℕ) (number : ℕ) → slice_get xs (length xs - 1) ≡ Some number → xs ≡ take (length xs - 1) xs ++ number ∷ []
last_got xs number e =
    let within : length xs - 1 < length xs = slice_get_within xs (length xs - 1) number e in
    let more : length xs ≡ (length xs - 1) + 1 = omega (arith, within) in
    sym (take-length xs) ∙ ap (λ (k : ℕ). take k xs) more ∙ take_more xs (length xs - 1) number within
    ∙ ap (λ (n : ℕ). take (length xs - 1) xs ++ n ∷ []) (get_or_from_slice_get xs (length xs - 1) number number e)

-- the numbers are those of allocations
pub number_of_allocation : (allocated bs : List Block) (k number : ℕ) → AllByRecursion (IsNumbered allocated) bs → slice_get (map (λ b. b.line) bs) k ≡ Some number → number < length allocated
number_of_allocation allocated [] k number h e = absurd cc
number_of_allocation allocated (b ∷ bs) zero number h e =
    let same : b.line ≡ number = cc in
    subst (λ (n : ℕ). n < length allocated) same (slice_get_within allocated b.line h.0.0 h.0.1.at)
number_of_allocation allocated (b ∷ bs) (suc k) number h e = number_of_allocation allocated bs k number h.1 cc

-- ---- the place of a new block among those that it doesn't meet

-- those that end before the address, and those that begin beyond the last address
pub record IsCut (addr last : ℕ) (blocks : List Block) : Type 0 where
  pub front : List Block
  pub back : List Block
  pub whole : blocks ≡ front ++ back
  pub ends : AllByRecursion (λ c. span_end c ≤ addr) front
  pub begins : AllByRecursion (λ c. last < c.start) back

pub cut : (addr last : ℕ) (bs : List Block) → AreDisjoint bs → AllByRecursion (λ c. (last < c.start) ⊎ (span_end c ≤ addr)) bs → IsCut addr last bs
cut addr last [] d h = record { front = []; back = []; whole = refl; ends = tt; begins = tt }
cut addr last (b ∷ bs) d h = elim h.0 [
  | inl l ↦ record { front = []; back = b ∷ bs; whole = refl; ends = tt; begins = (l, all_weaker (λ c. span_end b ≤ c.start) (λ c. last < c.start) (λ c k. omega (arith, l, k)) bs d.0) }
  | inr l ↦ let r : IsCut addr last bs = cut addr last bs d.1 h.1 in
      record { front = b ∷ r.front; back = r.back; whole = ap (λ (cs : List Block). b ∷ cs) r.whole; ends = (l, r.ends); begins = r.begins }
]

apart : (x : Line) (last : ℕ) (b : Block) → last + 1 ≡ x.addr + max x.size 1 → meets x b ≡ false → (last < b.start) ⊎ (span_end b ≤ x.addr)
apart x last b e m = go (nat_lt x.addr (span_end b)) (nat_lt b.start (x.addr + max x.size 1)) refl refl m
  where
    go : (s t : Bool) → nat_lt x.addr (span_end b) ≡ s → nat_lt b.start (x.addr + max x.size 1) ≡ t → (s && t) ≡ false → (last < b.start) ⊎ (span_end b ≤ x.addr)
    go false t h k n = inr (not_less_of _ _ h)
    go true false h k n = inl (let l = not_less_of _ _ k in omega (arith, l, e))
    go true true h k n = absurd cc

pub unmet_apart : (x : Line) (last : ℕ) → last + 1 ≡ x.addr + max x.size 1 → (bs : List Block) → AllByRecursion (λ c. (last < c.start) ⊎ (span_end c ≤ x.addr)) (unmet x bs)
unmet_apart x last e [] = tt
unmet_apart x last e (b ∷ bs) = go (meets x b) refl (unmet_apart x last e bs)
  where
    go : (t : Bool) → meets x b ≡ t → AllByRecursion (λ c. (last < c.start) ⊎ (span_end c ≤ x.addr)) (unmet x bs) → AllByRecursion (λ c. (last < c.start) ⊎ (span_end c ≤ x.addr)) (cond (not t) (b ∷ unmet x bs) (unmet x bs))
    go true m rest = rest
    go false m rest = (apart x last b e m, rest)
