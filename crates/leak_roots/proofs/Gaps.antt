-- The words between the bytes of blocks.
use Rattle.std.proofs.Common.{◌≡◌, ℕ, zero, suc, ◌+◌, ◌-◌, ◌%◌, ◌<◌, ◌≤◌, ◌^◌, max, min, Bool, true, false, not, ◌&&◌, eqb, ◌⊎◌, inl, inr, List, [], ◌∷◌, ◌++◌, length, get_or, filter, refl, ap, ◌∙◌, arith}
use Rattle.std.specs.List.{list_all, range_with_len, AllByRecursion}
use Rattle.std.proofs.lemmas.Bool.{le-ltb, lt-ltb, cases_lt}
use Rattle.std.proofs.lemmas.List.Elements.{filter-append}
use Rattle.std.proofs.lemmas.List.Folds.{list_all_at}
use Rattle.std.proofs.Math.Bool.{and-false}
use Rattle.leak_lemmas.proofs.Lists.{any_default}
use Rattle.leak_lemmas.proofs.Ranges.{range-append, filter_same, filter_none}
use Rattle.leak_elf.specs.Words.{places}
use Rattle.leak_blocks.specs.declared.block.Block.{Block}
use Rattle.leak_blocks.specs.Span.{AreAddressed, AreDisjoint, span_end}
use Rattle.leak_roots.specs.declared.inside.Kept.{Kept}
use Rattle.leak_roots.specs.Kept.{Adds, FitsBelow}
use Rattle.leak_roots.specs.Places.{aligned_places}
use Rattle.leak_roots.specs.Roots.{AreOrdered, is_apart, is_free}
use Rattle.leak_roots.proofs.Addresses.{range_same}
use Rattle.leak_roots.proofs.LeftOut.{adds_more, before_later}

apart_before : (a : ℕ) (b : Block) → a + 8 ≤ b.start → is_apart a b ≡ true
apart_before a b h = ap not (le-ltb (max a b.start) (min (a + 8) (b.start + b.size)) (omega arith))

apart_behind : (a : ℕ) (b : Block) → b.start + b.size ≤ a → is_apart a b ≡ true
apart_behind a b h = ap not (le-ltb (max a b.start) (min (a + 8) (b.start + b.size)) (omega arith))

apart_empty : (a : ℕ) (b : Block) → b.size ≡ 0 → is_apart a b ≡ true
apart_empty a b h = ap not (le-ltb (max a b.start) (min (a + 8) (b.start + b.size)) (omega arith))

not_apart : (a : ℕ) (b : Block) → b.start < a + 8 → a < b.start + b.size → 0 < b.size → is_apart a b ≡ false
not_apart a b h l s = ap not (lt-ltb (max a b.start) (min (a + 8) (b.start + b.size)) (omega arith))

all_true : (p : Block → Bool) (bs : List Block) (d : Block) → ((k : ℕ) → k < length bs → p (get_or bs k d) ≡ true) → list_all p bs ≡ true
all_true p [] d h = refl
all_true p (b ∷ bs) d h = rw (h 0 (omega arith)) (all_true p bs d (λ k l. h (suc k) (omega arith)))

and_true : (x : Bool) → (x && true) ≡ x
and_true true = refl
and_true false = refl

-- the first blocks have no byte at the address or after it
abbrev pub IsPast : List Block → ℕ → ℕ → Type 0
IsPast bs i c = (k : ℕ) (d : Block) → k < i → k < length bs → ((get_or bs k d).size ≡ 0) ⊎ ((get_or bs k d).start + (get_or bs k d).size ≤ c)

-- a word after the first blocks and before the others
between : (bs : List Block) (i c a : ℕ) (d : Block) → IsPast bs i c → c ≤ a → ((k : ℕ) → i ≤ k → k < length bs → a + 8 ≤ (get_or bs k d).start) → is_free bs a ≡ eqb (a % 8) 0
between bs i c a d past l before =
    let all = all_true (is_apart a) bs d (λ k h.
    elim (cases_lt k i) [
      | inl m ↦ elim (past k d m h) [ inl z ↦ apart_empty a (get_or bs k d) z | inr e ↦ apart_behind a (get_or bs k d) (omega arith) ]
      | inr m ↦ apart_before a (get_or bs k d) (before k m h)
    ]) in
    rw all (and_true (eqb (a % 8) 0))

-- a word that has a byte of a block
inside : (bs : List Block) (i a : ℕ) (d : Block) → i < length bs → 0 < (get_or bs i d).size → (get_or bs i d).start < a + 8 → a < (get_or bs i d).start + (get_or bs i d).size → is_free bs a ≡ false
inside bs i a d h s l m = rw (list_all_at (is_apart a) bs i d h (not_apart a (get_or bs i d) l m s)) (and-false (eqb (a % 8) 0))

later_start : (bs : List Block) (i k : ℕ) (d : Block) → AreOrdered bs → i ≤ k → k < length bs → (get_or bs i d).start ≤ (get_or bs k d).start
later_start bs i k d ordered l h =
    elim (cases_lt i k) [
      | inl m ↦ let a = ordered.apart i k d m h in omega arith
      | inr m ↦ let e : i ≡ k = omega arith in rw e (omega arith)
    ]

three_ranges : (c n x y z : ℕ) → n ≡ x + (y + z) → range_with_len c n ≡ range_with_len c x ++ (range_with_len (c + x) y ++ range_with_len (c + x + y) z)
three_ranges c n x y z e = rw (e, range-append c x (y + z), range-append (c + x) y z) refl

-- the words up to a block are those before its bytes and those after them
pub gap_step : (bs : List Block) (i c to : ℕ) (d : Block) → AreOrdered bs → i < length bs → IsPast bs i c → 0 < (get_or bs i d).size → (get_or bs i d).start ≤ to
    → filter (is_free bs) (places c to) ≡ aligned_places c (get_or bs i d).start ++ filter (is_free bs) (places (max c ((get_or bs i d).start + (get_or bs i d).size)) to)
gap_step bs i c to d ordered h past some low =
    let b = get_or bs i d in
    let e = max c (b.start + b.size) in
    let n = to - 7 - c in
    let x = b.start - 7 - c in
    let y = min (n - x) (e - (c + x)) in
    let z = n - x - y in
    let first : filter (is_free bs) (range_with_len c x) ≡ aligned_places c b.start =
    filter_same (is_free bs) (λ (a : ℕ). eqb (a % 8) 0) c x (λ a l m. between bs i c a d past l (λ k o p. let s = later_start bs i k d ordered o p in omega arith)) in
    let middle : filter (is_free bs) (range_with_len (c + x) y) ≡ [] =
    filter_none (is_free bs) (c + x) y (λ a l m. inside bs i a d h some (omega arith) (omega arith)) in
    let last : range_with_len (c + x + y) z ≡ places e to = range_same (c + x + y) e z (to - 7 - e) (omega arith) (λ q. omega arith) in
    ap (filter (is_free bs)) (three_ranges c n x y z (omega arith))
    ∙ filter-append (is_free bs) (range_with_len c x) (range_with_len (c + x) y ++ range_with_len (c + x + y) z)
    ∙ ap (λ (xs : List ℕ). filter (is_free bs) (range_with_len c x) ++ xs) (filter-append (is_free bs) (range_with_len (c + x) y) (range_with_len (c + x + y) z))
    ∙ (rw (first, middle, last) refl)

-- after the last block
pub gap_end : (bs : List Block) (i c to : ℕ) (d : Block) → IsPast bs i c → ((k : ℕ) → i ≤ k → k < length bs → to ≤ (get_or bs k d).start) → filter (is_free bs) (places c to) ≡ aligned_places c to
gap_end bs i c to d past high =
    filter_same (is_free bs) (λ (a : ℕ). eqb (a % 8) 0) c (to - 7 - c) (λ a l m. between bs i c a d past l (λ k o p. let s = high k o p in omega arith))

-- one block more
pub past_more : (bs : List Block) (i c e : ℕ) (d : Block) → i < length bs → IsPast bs i c → c ≤ e → (((get_or bs i d).size ≡ 0) ⊎ ((get_or bs i d).start + (get_or bs i d).size ≤ e)) → IsPast bs (i + 1) e
past_more bs i c e d h past l here k d' m o =
    elim (cases_lt k i) [
      | inl q ↦ elim (past k d' q o) [ inl z ↦ inl z | inr r ↦ inr (omega arith) ]
      | inr q ↦ let is : k ≡ i = omega arith in rw (is, any_default bs i d' d h) here
    ]

-- the blocks before the last that begins at an address or before it
pub past_first : (bs : List Block) (n c : ℕ) → AreOrdered bs → n ≤ length bs → ((k : ℕ) (d : Block) → k < n → (get_or bs k d).start ≤ c) → IsPast bs (n - 1) c
past_first bs n c ordered l within k d m o = let a = ordered.apart k (k + 1) d (omega arith) (omega arith) in let w = within (k + 1) d (omega arith) in inr (omega arith)

pub starts_ascend : (bs : List Block) (j k : ℕ) (d : Block) (c : ℕ) → AreOrdered bs → j ≤ k → k < length bs → (get_or bs k d).start ≤ c → (get_or bs j d).start ≤ c
starts_ascend bs j k d c ordered l h e = let s = later_start bs j k d ordered l h in omega arith

-- The words before the cursor were added: to add those after it is to add all of them.
pub record Filled (keeps : ℕ × ℕ → Bool) (from : ℕ) (bs : List Block) (to : ℕ) (all : List ℕ) (first now : Kept) (i cursor : ℕ) : Type 0 where
  pub same : now.spans.now ≡ first.spans.now
  pub low : FitsBelow cursor now
  pub high : FitsBelow to now
  pub past : IsPast bs i cursor
  pub left : (rest : Kept) → Adds keeps cursor to (filter (is_free bs) (places cursor to)) now rest → Adds keeps from to all first rest

-- a block with bytes is passed
pub filled_more : (keeps : ℕ × ℕ → Bool) (from : ℕ) (bs : List Block) (to : ℕ) (all : List ℕ) (first now more : Kept) (i cursor : ℕ) (d : Block) → AreOrdered bs → i < length bs → 0 < (get_or bs i d).size → (get_or bs i d).start ≤ to → Filled keeps from bs to all first now i cursor
    → Adds keeps cursor (get_or bs i d).start (aligned_places cursor (get_or bs i d).start) now more → ((addr : ℕ) → (get_or bs i d).start ≤ addr → FitsBelow addr now → FitsBelow addr more)
    → Filled keeps from bs to all first more (i + 1) (max cursor ((get_or bs i d).start + (get_or bs i d).size))
filled_more keeps from bs to all first now more i cursor d ordered h some low filled adds before =
    let b = get_or bs i d in
    let e = max cursor (b.start + b.size) in
    record {
      same = adds.spans ∙ filled.same;
      low = before e (omega arith) (before_later cursor e now (omega arith) filled.low);
      high = before to low filled.high;
      past = past_more bs i cursor e d h filled.past (omega arith) (inr (omega arith));
      left = λ rest after. filled.left rest (rw (gap_step bs i cursor to d ordered h filled.past some low) (adds_more keeps cursor b.start e to _ _ now more rest (omega arith) (omega arith) low adds after));
    }

-- a block without bytes is passed
pub filled_same : (keeps : ℕ × ℕ → Bool) (from : ℕ) (bs : List Block) (to : ℕ) (all : List ℕ) (first now : Kept) (i cursor : ℕ) (d : Block) → i < length bs → (get_or bs i d).size ≡ 0 → Filled keeps from bs to all first now i cursor → Filled keeps from bs to all first now (i + 1) cursor
filled_same keeps from bs to all first now i cursor d h none filled = record {
  same = filled.same;
  low = filled.low;
  high = filled.high;
  past = past_more bs i cursor cursor d h filled.past (omega arith) (inl none);
  left = filled.left;
}

pub filled_first : (keeps : ℕ × ℕ → Bool) (bs : List Block) (from to n : ℕ) (first : Kept) → AreOrdered bs → from ≤ to → n ≤ length bs → ((k : ℕ) (d : Block) → k < n → (get_or bs k d).start ≤ from) → FitsBelow from first
    → Filled keeps from bs to (filter (is_free bs) (places from to)) first first (n - 1) from
filled_first keeps bs from to n first ordered l h within before = record {
  same = refl;
  low = before;
  high = before_later from to first l before;
  past = past_first bs n from ordered h within;
  left = λ rest after. after;
}

-- all blocks that begin before the end are passed
pub filled_all : (keeps : ℕ × ℕ → Bool) (from : ℕ) (bs : List Block) (to : ℕ) (all : List ℕ) (first now more : Kept) (i cursor : ℕ) (d : Block) → Filled keeps from bs to all first now i cursor → ((k : ℕ) → i ≤ k → k < length bs → to ≤ (get_or bs k d).start)
    → Adds keeps cursor to (aligned_places cursor to) now more → Adds keeps from to all first more
filled_all keeps from bs to all first now more i cursor d filled high adds = filled.left more (rw (gap_end bs i cursor to d filled.past high) adds)

-- live blocks are ordered
ordered_at : (b : Block) (bs : List Block) (k : ℕ) (d : Block) → AllByRecursion (λ c. span_end b ≤ c.start) bs → k < length bs → b.start + b.size ≤ (get_or bs k d).start
ordered_at b [] k d h l = absurd (omega arith)
ordered_at b (c ∷ cs) zero d h l = let e = h.0 in omega arith
ordered_at b (c ∷ cs) (suc k) d h l = ordered_at b cs k d h.1 (omega arith)

apart_at : (bs : List Block) (j k : ℕ) (d : Block) → AreDisjoint bs → j < k → k < length bs → (get_or bs j d).start + (get_or bs j d).size ≤ (get_or bs k d).start
apart_at [] j k d h l m = absurd (omega arith)
apart_at (b ∷ bs) j zero d h l m = absurd (omega arith)
apart_at (b ∷ bs) zero (suc k) d h l m = ordered_at b bs k d h.0 (omega arith)
apart_at (b ∷ bs) (suc j) (suc k) d h l m = apart_at bs j k d h.1 (omega arith) (omega arith)

fits_at : (bs : List Block) (k : ℕ) (d : Block) → AreAddressed bs → k < length bs → (get_or bs k d).start + (get_or bs k d).size < 2 ^ 64
fits_at [] k d h l = absurd (omega arith)
fits_at (b ∷ bs) zero d h l = h.0.fits
fits_at (b ∷ bs) (suc k) d h l = fits_at bs k d h.1 (omega arith)

pub are_ordered : (bs : List Block) → AreAddressed bs → AreDisjoint bs → AreOrdered bs
are_ordered bs addressed disjoint = record { apart = λ j k d l m. apart_at bs j k d disjoint l m; fit = λ k d l. fits_at bs k d addressed l }
