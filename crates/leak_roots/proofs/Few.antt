-- How many ranges there are: each block and each span cuts at most one in two.
use Rattle.std.proofs.Common.{◌≡◌, None, ℕ, zero, suc, ◌+◌, ◌<◌, ◌≤◌, Bool, true, false, cond, leb, List, [], ◌∷◌, length, get_or, take, filter, refl, inl, inr, ap, ⊎_elim, ◌∙◌, ◌-◌, max, min, arith}
use Rattle.std.specs.List.{count_by}
use Rattle.std.proofs.lemmas.Bool.{leb-true, le-leb, lt-leb, cases_lt}
use Rattle.std.proofs.lemmas.List.{take_more, take_all, get_or_default, length-append, length-take}
use Rattle.std.proofs.lemmas.List.Elements.{filter-append}
use Rattle.std.proofs.lemmas.List.Sums.{sum_by-cons, count_by-le-length}
use Rattle.leak_elf.specs.declared.segment.Segment.{Segment}
use Rattle.leak_elf.specs.Segments.{segments_of, AreKeptSegments}
use Rattle.leak_elf.specs.Refusals.{fault_of}
use Rattle.leak_blocks.specs.declared.block.Block.{Block}
use Rattle.leak_blocks.specs.declared.small.Span.{Span}
use Rattle.leak_roots.specs.Counts.{blocks_up_to, spans_up_to}
use Rattle.leak_roots.specs.Places.{AreRanges}
use Rattle.leak_roots.specs.Roots.{has_roots}
use Rattle.leak_roots.proofs.BySegment.{are_segments}
use Rattle.leak_roots.proofs.LeftOut.{ranges_apart}

-- ---- counts

module _ {X : Type 0} where
  count_yes : (p : X → Bool) (x : X) (xs : List X) → p x ≡ true → count_by p (x ∷ xs) ≡ 1 + count_by p xs
  count_yes p x xs e = sum_by-cons (λ (y : X). cond (p y) 1 0) x xs ∙ ap (λ (b : Bool). cond b 1 0 + count_by p xs) e

  count_no : (p : X → Bool) (x : X) (xs : List X) → p x ≡ false → count_by p (x ∷ xs) ≡ 0 + count_by p xs
  count_no p x xs e = sum_by-cons (λ (y : X). cond (p y) 1 0) x xs ∙ ap (λ (b : Bool). cond b 1 0 + count_by p xs) e

  -- what passes a test passes a weaker one
  count_grows : (p q : X → Bool) (xs : List X) → ((x : X) → p x ≡ true → q x ≡ true) → count_by p xs ≤ count_by q xs
  count_grows p q [] h = omega arith
  count_grows p q (x ∷ xs) h = go (count_grows p q xs h) (p x) (q x) refl refl
    where
      go : count_by p xs ≤ count_by q xs → (s t : Bool) → p x ≡ s → q x ≡ t → count_by p (x ∷ xs) ≤ count_by q (x ∷ xs)
      go r true t e f = let a = count_yes p x xs e in let b = count_yes q x xs (h x e) in omega (arith, a, b, r)
      go r false true e f = let a = count_no p x xs e in let b = count_yes q x xs f in omega (arith, a, b, r)
      go r false false e f = let a = count_no p x xs e in let b = count_no q x xs f in omega (arith, a, b, r)

  -- and one more does, where it passes the weaker one alone
  count_one_more : (p q : X → Bool) (xs : List X) (k : ℕ) (d : X) → ((x : X) → p x ≡ true → q x ≡ true) → k < length xs → p (get_or xs k d) ≡ false → q (get_or xs k d) ≡ true
      → count_by p xs < count_by q xs
  count_one_more p q [] k d h l e f = absurd (omega arith)
  count_one_more p q (x ∷ xs) zero d h l e f = let a = count_no p x xs e in let b = count_yes q x xs f in let r = count_grows p q xs h in omega (arith, a, b, r)
  count_one_more p q (x ∷ xs) (suc k) d h l e f = go (count_one_more p q xs k d h (omega arith) e f) (p x) (q x) refl refl
    where
      go : count_by p xs < count_by q xs → (s t : Bool) → p x ≡ s → q x ≡ t → count_by p (x ∷ xs) < count_by q (x ∷ xs)
      go r true t a b = let m = count_yes p x xs a in let n = count_yes q x xs (h x a) in omega (arith, m, n, r)
      go r false true a b = let m = count_no p x xs a in let n = count_yes q x xs b in omega (arith, m, n, r)
      go r false false a b = let m = count_no p x xs a in let n = count_no q x xs b in omega (arith, m, n, r)

  -- where the first pass, and no other, they are counted
  count_is : (p : X → Bool) (xs : List X) (n : ℕ) (d : X) → n ≤ length xs → ((k : ℕ) → k < n → p (get_or xs k d) ≡ true) → ((k : ℕ) → n ≤ k → k < length xs → p (get_or xs k d) ≡ false) → n ≡ count_by p xs
  count_is p [] n d h first others = omega arith
  count_is p (x ∷ xs) zero d h first others =
      let r = count_is p xs 0 d (omega arith) (λ k l. absurd (omega arith)) (λ k l m. others (suc k) (omega arith) (omega arith)) in
      let a = count_no p x xs (others 0 (omega arith) (omega arith)) in omega (arith, r, a)
  count_is p (x ∷ xs) (suc n) d h first others =
      let r = count_is p xs n d (omega arith) (λ k l. first (suc k) (omega arith)) (λ k l m. others (suc k) (omega arith) (omega arith)) in
      let a = count_yes p x xs (first 0 (omega arith)) in omega (arith, r, a)

up_to_later : (a b n : ℕ) → a ≤ b → leb n a ≡ true → leb n b ≡ true
up_to_later a b n l h = le-leb _ _ (let t = leb-true _ _ h in omega (arith, l, t))

pub blocks_grow : (bs : List Block) (a b : ℕ) → a ≤ b → blocks_up_to bs a ≤ blocks_up_to bs b
blocks_grow bs a b l = count_grows (λ (x : Block). leb x.start a) (λ (x : Block). leb x.start b) bs (λ x h. up_to_later a b x.start l h)

pub spans_grow : (spans : List Span) (a b : ℕ) → a ≤ b → spans_up_to spans a ≤ spans_up_to spans b
spans_grow spans a b l = count_grows (λ (x : Span). leb x.first a) (λ (x : Span). leb x.first b) spans (λ x h. up_to_later a b x.first l h)

-- a span begins between the addresses
pub span_between : (spans : List Span) (a b k : ℕ) (d : Span) → k < length spans → a < (get_or spans k d).first → (get_or spans k d).first ≤ b → spans_up_to spans a < spans_up_to spans b
span_between spans a b k d h low high =
    count_one_more (λ (x : Span). leb x.first a) (λ (x : Span). leb x.first b) spans k d (λ x t. up_to_later a b x.first (omega arith) t) h (lt-leb _ _ low) (le-leb _ _ high)

-- ---- ranges without spans

-- of the places before the cursor there are no more ranges than spans cut; while there are more places, one fewer
pub record AreFew (spans : List Span) (range : ℕ × ℕ) (old new cursor : ℕ) : Type 0 where
  pub ahead : cursor < range.1 → new + spans_up_to spans range.0 ≤ old + spans_up_to spans cursor
  pub all : new + spans_up_to spans range.0 ≤ old + spans_up_to spans cursor + 1

pub few_first : (spans : List Span) (range : ℕ × ℕ) (n : ℕ) → AreFew spans range n n range.0
few_first spans range n = record { ahead = λ h. omega arith; all = omega arith }

pub few_more : (spans : List Span) (range : ℕ × ℕ) (old new more cursor end : ℕ) → AreFew spans range old new cursor → cursor < range.1 → cursor < end → more ≡ new + 1 → (end < range.1 → spans_up_to spans cursor < spans_up_to spans end) → AreFew spans range old more end
few_more spans range old new more cursor end few h l one cut =
    let a = few.ahead h in
    let g = spans_grow spans cursor end (omega arith) in record {
      ahead = λ m. let b = cut m in omega (arith, a, b, one);
      all = omega (arith, a, g, one);
    }

pub few_same : (spans : List Span) (range : ℕ × ℕ) (old new cursor end : ℕ) → AreFew spans range old new cursor → cursor < range.1 → cursor < end → AreFew spans range old new end
few_same spans range old new cursor end few h l =
    let a = few.ahead h in
    let g = spans_grow spans cursor end (omega arith) in record { ahead = λ m. omega (arith, a, g); all = omega (arith, a, g) }

-- of the first ranges there are no more than they were, and one more for each span that begins before the next
pub record AreAllFew (spans : List Span) (memory : List (ℕ × ℕ)) (i kept : ℕ) : Type 0 where
  pub ahead : (k : ℕ) (d : ℕ × ℕ) → i ≤ k → k < length memory → kept ≤ i + spans_up_to spans (get_or memory k d).0
  pub all : kept ≤ i + length spans

-- of the first ranges all are kept as they are
pub all_few_ahead : (spans : List Span) (memory : List (ℕ × ℕ)) (i : ℕ) → i ≤ length memory → AreAllFew spans memory i (length (take i memory))
all_few_ahead spans memory i l =
    let n = length-take i memory in record { ahead = λ k d m o. omega (arith, n); all = omega (arith, n) }

pub all_few_more : (spans : List Span) (memory : List (ℕ × ℕ)) (i kept more : ℕ) (d : ℕ × ℕ) → AreRanges memory → i < length memory → AreAllFew spans memory i kept
    → more + spans_up_to spans (get_or memory i d).0 ≤ kept + spans_up_to spans (get_or memory i d).1 + 1 → AreAllFew spans memory (i + 1) more
all_few_more spans memory i kept more d are h few cuts =
    let a = few.ahead i d (omega arith) h in record {
      ahead = λ j e l m.
          let apart = ranges_apart memory i j d are (omega arith) m in
          let q = ap (λ (r : ℕ × ℕ). r.0) (get_or_default memory j d e m) in
          let g = spans_grow spans (get_or memory i d).1 (get_or memory j e).0 (omega (arith, apart, q)) in omega (arith, a, g, cuts);
      all = let c = count_by-le-length (λ (s : Span). leb s.first (get_or memory i d).1) spans in omega (arith, a, c, cuts);
    }

-- ---- ranges between blocks

-- of the first segments there are no more ranges than segments with root words, and one more for each block and each span that begins before the next
pub record AreGapsFew (u : Bool) (segs : List Segment) (bs : List Block) (spans : List Span) (i memory : ℕ) : Type 0 where
  pub ahead : (k : ℕ) (d : Segment) → i ≤ k → k < length segs → memory ≤ length (filter (has_roots u) (take i segs)) + blocks_up_to bs (get_or segs k d).vaddr + spans_up_to spans (get_or segs k d).vaddr
  pub all : memory ≤ length (filter (has_roots u) (take i segs)) + length bs + length spans

pub gaps_few_first : (u : Bool) (segs : List Segment) (bs : List Block) (spans : List Span) (memory : ℕ) → memory ≡ 0 → AreGapsFew u segs bs spans 0 memory
gaps_few_first u segs bs spans memory none = record { ahead = λ k d l m. omega (arith, none); all = omega (arith, none) }

taken : (u : Bool) (segs : List Segment) (i : ℕ) (d : Segment) → i < length segs → length (filter (has_roots u) (take (i + 1) segs)) ≡ length (filter (has_roots u) (take i segs)) + length (filter (has_roots u) (get_or segs i d ∷ []))
taken u segs i d h =
    ap (λ (xs : List Segment). length (filter (has_roots u) xs)) (take_more segs i d h)
    ∙ ap (λ (xs : List Segment). length xs) (filter-append (has_roots u) (take i segs) (get_or segs i d ∷ []))
    ∙ length-append (filter (has_roots u) (take i segs)) (filter (has_roots u) (get_or segs i d ∷ []))

taken_yes : (u : Bool) (segs : List Segment) (i : ℕ) (d : Segment) → i < length segs → has_roots u (get_or segs i d) ≡ true → length (filter (has_roots u) (take (i + 1) segs)) ≡ length (filter (has_roots u) (take i segs)) + 1
taken_yes u segs i d h w = taken u segs i d h ∙ (rw w refl)

taken_no : (u : Bool) (segs : List Segment) (i : ℕ) (d : Segment) → i < length segs → has_roots u (get_or segs i d) ≡ false → length (filter (has_roots u) (take (i + 1) segs)) ≡ length (filter (has_roots u) (take i segs)) + 0
taken_no u segs i d h w = taken u segs i d h ∙ (rw w refl)

segments_apart : (file : List ℕ) (i k : ℕ) (d e : Segment) → AreKeptSegments (segments_of file) → i < k → k < length (segments_of file) → (get_or (segments_of file) i d).vaddr + (get_or (segments_of file) i d).filesz ≤ (get_or (segments_of file) k e).vaddr
segments_apart file i k d e kept l m =
    let a = kept.apart i k d l m in
    let s = (kept.each i d (omega arith)).sizes in
    let same = ap (λ (t : Segment). t.vaddr) (get_or_default (segments_of file) k d e m) in omega arith

pub gaps_few_more : (u : Bool) (file : List ℕ) (bs : List Block) (spans : List Span) (i memory more : ℕ) (d : Segment) → fault_of file ≡ None → i < length (segments_of file) → has_roots u (get_or (segments_of file) i d) ≡ true → AreGapsFew u (segments_of file) bs spans i memory
    → more + blocks_up_to bs (get_or (segments_of file) i d).vaddr + spans_up_to spans (get_or (segments_of file) i d).vaddr
    ≤ memory + blocks_up_to bs ((get_or (segments_of file) i d).vaddr + (get_or (segments_of file) i d).filesz) + spans_up_to spans ((get_or (segments_of file) i d).vaddr + (get_or (segments_of file) i d).filesz) + 1
    → AreGapsFew u (segments_of file) bs spans (i + 1) more
gaps_few_more u file bs spans i memory more d ok h w few cuts =
    let segs = segments_of file in
    let a = few.ahead i d (omega arith) h in
    let end = (get_or segs i d).vaddr + (get_or segs i d).filesz in
    let t = taken_yes u segs i d h w in record {
      ahead = λ j e l m.
          let apart = segments_apart file i j d e (are_segments file ok).kept (omega arith) m in
          let g = blocks_grow bs end (get_or segs j e).vaddr apart in
          let g' = spans_grow spans end (get_or segs j e).vaddr apart in omega (arith, a, g, g', cuts, t);
      all = let c = count_by-le-length (λ (b : Block). leb b.start end) bs in
          let c' = count_by-le-length (λ (s : Span). leb s.first end) spans in omega (arith, a, c, c', cuts, t);
    }

pub gaps_few_same : (u : Bool) (segs : List Segment) (bs : List Block) (spans : List Span) (i memory : ℕ) (d : Segment) → i < length segs → has_roots u (get_or segs i d) ≡ false → AreGapsFew u segs bs spans i memory → AreGapsFew u segs bs spans (i + 1) memory
gaps_few_same u segs bs spans i memory d h w few =
    let t = taken_no u segs i d h w in record {
      ahead = λ j e l m. let a = few.ahead j e (omega arith) m in omega (arith, a, t);
      all = let a = few.all in omega (arith, a, t);
    }

pub gaps_few_all : (u : Bool) (segs : List Segment) (bs : List Block) (spans : List Span) (i memory : ℕ) → length segs ≤ i → AreGapsFew u segs bs spans i memory → memory ≤ length (filter (has_roots u) segs) + length bs + length spans
gaps_few_all u segs bs spans i memory h few = rw (take_all i segs h) at few.all

-- one range is added between blocks, if any, and it is cut by spans alone
pub gap_cut : (spans : List Span) (from to first last new more : ℕ) → from ≤ first → first < last → last ≤ to → more + spans_up_to spans first ≤ new + spans_up_to spans last + 1 → more + spans_up_to spans from ≤ new + spans_up_to spans (max from to) + min (to - from) 1
gap_cut spans from to first last new more l some m cuts =
    let a = spans_grow spans from first l in
    let b = spans_grow spans last (max from to) (omega arith) in omega (arith, a, b, cuts, l, some, m)

pub gap_none : (spans : List Span) (from to new : ℕ) → new + spans_up_to spans from ≤ new + spans_up_to spans (max from to) + min (to - from) 1
gap_none spans from to new = let a = spans_grow spans from (max from to) (omega arith) in omega (arith, a)

pub gap_first : (spans : List Span) (old up i from to : ℕ) → from ≤ to → old + up + spans_up_to spans from ≤ old + max up i + spans_up_to spans (min from to)
gap_first spans old up i from to l = let a = spans_grow spans from (min from to) (omega arith) in omega (arith, a)

-- one range more between blocks: none before the first block that begins behind `from`, and one at most for each block from it on
pub gap_more : (spans : List Span) (old new more up i start size cursor from to : ℕ) → new + up + spans_up_to spans from ≤ old + max up i + spans_up_to spans (min cursor to)
    → more + spans_up_to spans cursor ≤ new + spans_up_to spans (max cursor start) + min (start - cursor) 1 → from ≤ cursor → start ≤ to → (i < up → start ≤ from)
    → more + up + spans_up_to spans from ≤ old + max up (i + 1) + spans_up_to spans (min (max cursor (start + size)) to)
gap_more spans old new more up i start size cursor from to few one low high before =
    let end = min (max cursor (start + size)) to in
    elim (cases_lt cursor start) [
      | inl some ↦
          let a : min cursor to ≡ cursor = omega arith in
          let b : max cursor start ≡ start = omega arith in
          let f = rw a at few in
          let o = rw b at one in
          let g = spans_grow spans start end (omega arith) in
          let later : up ≤ i = ⊎_elim (λ less. let s = before less in omega (arith, s, low, some)) (λ l. l) (cases_lt i up) in
          omega (arith, f, o, g, later, some)
      | inr none ↦
          let b : max cursor start ≡ cursor = omega arith in
          let o = rw b at one in
          let g = spans_grow spans (min cursor to) end (omega arith) in
          omega (arith, few, o, g, none)
    ]

-- and one at most after the last
pub gap_last : (spans : List Span) (old new more up i cursor from to : ℕ) → new + up + spans_up_to spans from ≤ old + max up i + spans_up_to spans (min cursor to)
    → more + spans_up_to spans cursor ≤ new + spans_up_to spans (max cursor to) + min (to - cursor) 1 → more + up + spans_up_to spans from ≤ old + max up i + spans_up_to spans to + 1
gap_last spans old new more up i cursor from to few one =
    elim (cases_lt cursor to) [
      | inl some ↦
          let a : min cursor to ≡ cursor = omega arith in
          let b : max cursor to ≡ to = omega arith in
          let f = rw a at few in
          let o = rw b at one in omega (arith, f, o)
      | inr none ↦
          let a : min cursor to ≡ to = omega arith in
          let b : max cursor to ≡ cursor = omega arith in
          let f = rw a at few in
          let o = rw b at one in omega (arith, f, o, none)
    ]

-- the first blocks are counted
pub blocks_counted : (bs : List Block) (n addr : ℕ) (d : Block) → n ≤ length bs → ((k : ℕ) → k < n → leb (get_or bs k d).start addr ≡ true) → ((k : ℕ) → n ≤ k → k < length bs → leb (get_or bs k d).start addr ≡ false) → n ≡ blocks_up_to bs addr
blocks_counted bs n addr d = count_is (λ (b : Block). leb b.start addr) bs n d
