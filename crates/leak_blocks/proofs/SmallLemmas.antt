-- Spans of allocations, and their addresses as ranges that are apart.
use Rattle.std.proofs.Common.{◌≡◌, ℕ, ◌+◌, ◌<◌, ◌≤◌, ◌==◌, max, leb, Bool, true, false, not, cond, ◌||◌, ◌&&◌, List, [], ◌∷◌, ◌++◌, length, map, filter, take, drop, set, get_or, replicate, All, zero, suc, inl, inr, refl, sym, ap, subst, ◌∙◌, append-nil, true≢false, arith}
use Rattle.std.specs.List.{AllByRecursion, list_any}
use Rattle.std.specs.List.Sorted.{IsPermutation, IsNonDecreasingBy}
use Rattle.std.proofs.lemmas.Bool.{le-leb, lt-leb, lt-ltb, eqb-true, eqb-false, cases_lt}
use Rattle.std.proofs.lemmas.List.{map-append, take_all, get_or-drop, get_or-replicate, get_or-set_other, length-replicate, length-set, drop-drop, drop-set-lt, take_more_set}
use Rattle.std.proofs.lemmas.Grind.{get_or-set_at}
use Rattle.std.proofs.lemmas.Option.{get_or_from_slice_get, slice_get_within}
use Rattle.std.proofs.lemmas.List.Elements.{filter_more}
use Rattle.std.proofs.lemmas.List.Folds.{list_any-append, list_any_more}
use Rattle.std.proofs.lemmas.List.Sorted.{list_any-IsPermutation}
use Rattle.std.proofs.Math.Bool.{and-false, or_assoc, or-false}
use Rattle.leak_lemmas.proofs.Lists.{any_default}
use Rattle.leak_lemmas.proofs.Members.{All-from_each}
use Rattle.leak_blocks.specs.declared.block.Block.{Block}
use Rattle.leak_blocks.specs.declared.small.Span.{Span}
use Rattle.leak_blocks.specs.Numbers.{AreNumbered, AreNumbersOf}
use Rattle.leak_blocks.specs.Small.{holds, is_covered, is_listed, is_small_block, block_span, has_byte, CoverSame, IsOutsideMarked, AreMarksOf, AreSpans, AreApart}

-- ---- sorting

pub same_sorted : (xs ys : List Span) → IsPermutation xs ys → CoverSame ys xs
unfolding is_covered
same_sorted xs ys h a = sym (list_any-IsPermutation (holds a) xs ys h)

-- ---- merging

in_span : (a : ℕ) (s : Span) → s.first ≤ a → a ≤ s.last → holds a s ≡ true
in_span a s l m = rw (le-leb s.first a l, le-leb a s.last m) refl

before_span : (a : ℕ) (s : Span) → a < s.first → holds a s ≡ false
before_span a s l = rw (lt-leb s.first a l) refl

behind_span : (a : ℕ) (s : Span) → s.last < a → holds a s ≡ false
behind_span a s l = rw (lt-leb a s.last l) (and-false (leb s.first a))

or_true : (x : Bool) → (x || true) ≡ true
or_true true = refl
or_true false = refl

or_twice : (x y : Bool) → (x || (x || y)) ≡ (x || y)
or_twice true y = refl
or_twice false y = refl

-- if one span meets or touches another that begins no later, the joined one has the addresses of both
joined : (a : ℕ) (s t u : Span) → s.first ≤ t.first → t.first ≤ s.last + 1 → u.first ≡ s.first → u.last ≡ max s.last t.last → holds a u ≡ (holds a s || holds a t)
joined a s t u l m f g =
    elim (cases_lt a s.first) [
      | inl b ↦ rw (before_span a u (omega arith), before_span a s b, before_span a t (omega arith)) refl
      | inr b ↦ elim (cases_lt s.last a) [
        | inr e ↦ rw (in_span a u (omega arith) (omega arith), in_span a s b e) refl
        | inl e ↦ elim (cases_lt t.last a) [
          | inl o ↦ rw (behind_span a u (omega arith), behind_span a s e, behind_span a t o) refl
          | inr o ↦ rw (in_span a u (omega arith) (omega arith), in_span a t (omega arith) o) (sym (or_true (holds a s)))
        ]
      ]
    ]

-- one span more
covered_push : (spans : List Span) (s : Span) (a : ℕ) → is_covered (spans ++ s ∷ []) a ≡ (is_covered spans a || holds a s)
unfolding is_covered
covered_push spans s a = list_any-append (holds a) spans (s ∷ []) ∙ ap (λ (b : Bool). list_any (holds a) spans || b) (or-false (holds a s))

covered_more : (spans : List Span) (i : ℕ) (d : Span) (a : ℕ) → i < length spans → is_covered (take (i + 1) spans) a ≡ (is_covered (take i spans) a || holds a (get_or spans i d))
unfolding is_covered
covered_more spans i d a h = list_any_more (holds a) spans i d h

all_last : (P : Span → Type 0) (spans : List Span) (s t : Span) → AllByRecursion P (spans ++ s ∷ []) → (P s → P t) → AllByRecursion P (spans ++ t ∷ [])
all_last P [] s t h p = (p h.0, tt)
all_last P (x ∷ spans) s t h p = (h.0, all_last P spans s t h.1 p)

last_of : (P : Span → Type 0) (spans : List Span) (s : Span) → AllByRecursion P (spans ++ s ∷ []) → P s
last_of P [] s h = h.0
last_of P (x ∷ spans) s h = last_of P spans s h.1

all_push : (P : Span → Type 0) (spans : List Span) (s : Span) → AllByRecursion P spans → P s → AllByRecursion P (spans ++ s ∷ [])
all_push P [] s h p = (p, tt)
all_push P (x ∷ spans) s h p = (h.0, all_push P spans s h.1 p)

last_is_span : (spans : List Span) (s : Span) → AreApart (spans ++ s ∷ []) → s.first ≤ s.last
last_is_span [] s h = h.0
last_is_span (x ∷ spans) s h = last_is_span spans s h.2

-- the last range ends later
apart_widen : (spans : List Span) (s u : Span) → AreApart (spans ++ s ∷ []) → u.first ≡ s.first → s.last ≤ u.last → AreApart (spans ++ u ∷ [])
apart_widen [] s u h e l = (let f = h.0 in omega arith, tt, tt)
apart_widen (x ∷ spans) s u h e l = (h.0, all_last (λ (t : Span). x.last + 1 < t.first) spans s u h.1 (λ f. omega arith), apart_widen spans s u h.2 e l)

-- one more range, after the last
apart_push : (spans : List Span) (s t : Span) → AreApart (spans ++ s ∷ []) → t.first ≤ t.last → s.last + 1 < t.first → AreApart ((spans ++ s ∷ []) ++ t ∷ [])
apart_push [] s t h o l = (h.0, (l, tt), (o, tt, tt))
apart_push (x ∷ spans) s t h o l =
    let before = last_of (λ (u : Span). x.last + 1 < u.first) spans s h.1 in
    let fits = last_is_span spans s h.2 in
    (h.0, all_push (λ (u : Span). x.last + 1 < u.first) (spans ++ s ∷ []) t h.1 (omega arith), apart_push spans s t h.2 o l)

-- the ranges and the open one have the addresses of the first span and of the spans so far
pub record AreMerged (spans : List Span) (first : Span) (i : ℕ) (ranges : List Span) (open' : Span) : Type 0 where
  pub apart : AreApart (ranges ++ open' ∷ [])
  pub same : (a : ℕ) → is_covered (ranges ++ open' ∷ []) a ≡ (holds a first || is_covered (take i spans) a)
  pub low : (k : ℕ) (d : Span) → i ≤ k → k < length spans → open'.first ≤ (get_or spans k d).first

merged_first : (spans : List Span) (first : Span) → AreSpans spans → IsNonDecreasingBy (λ s. s.first) spans → 0 < length spans → first ≡ get_or spans 0 first → AreMerged spans first 0 [] first
unfolding is_covered
merged_first spans first each ascending some is = record {
  apart = (let e = each 0 first some in subst (λ (s : Span). s.first ≤ s.last) (sym is) e, tt, tt);
  same = λ a. refl;
  low = λ k d l m. subst (λ (s : Span). s.first ≤ (get_or spans k d).first) (sym (is ∙ any_default spans 0 first d some)) (ascending 0 k d (omega arith) m);
}

-- the next span meets or touches the open one
merged_wider : (spans : List Span) (first : Span) (i : ℕ) (ranges : List Span) (open' later : Span) (d : Span) → AreMerged spans first i ranges open' → i < length spans → (get_or spans i d).first ≤ open'.last + 1
    → later.first ≡ open'.first → later.last ≡ max open'.last (get_or spans i d).last → AreMerged spans first (i + 1) ranges later
merged_wider spans first i ranges open' later d merged h near f l =
    let s = get_or spans i d in
    record {
      apart = apart_widen ranges open' later merged.apart f (omega arith);
      same = λ a. covered_push ranges later a
          ∙ ap (λ (b : Bool). is_covered ranges a || b) (joined a open' s later (merged.low i d (omega arith) h) near f l)
          ∙ sym (or_assoc (is_covered ranges a) (holds a open') (holds a s))
          ∙ ap (λ (b : Bool). b || holds a s) (sym (covered_push ranges open' a) ∙ merged.same a)
          ∙ or_assoc (holds a first) (is_covered (take i spans) a) (holds a s)
          ∙ ap (λ (b : Bool). holds a first || b) (sym (covered_more spans i d a h));
      low = λ k e m n. let b = merged.low k e (omega arith) n in omega arith;
    }

-- the next span begins after it
merged_next : (spans : List Span) (first : Span) (i : ℕ) (ranges : List Span) (open' : Span) (d : Span) → AreMerged spans first i ranges open' → AreSpans spans → IsNonDecreasingBy (λ s. s.first) spans → i < length spans
    → open'.last + 1 < (get_or spans i d).first → AreMerged spans first (i + 1) (ranges ++ open' ∷ []) (get_or spans i d)
merged_next spans first i ranges open' d merged each ascending h far =
    let s = get_or spans i d in
    record {
      apart = apart_push ranges open' s merged.apart (each i d h) far;
      same = λ a. covered_push (ranges ++ open' ∷ []) s a
          ∙ ap (λ (b : Bool). b || holds a s) (merged.same a)
          ∙ or_assoc (holds a first) (is_covered (take i spans) a) (holds a s)
          ∙ ap (λ (b : Bool). holds a first || b) (sym (covered_more spans i d a h));
      low = λ k e m n. subst (λ (t : Span). t.first ≤ (get_or spans k e).first) (any_default spans i e d h) (ascending i k e (omega arith) n);
    }

covered_all : (spans : List Span) (first : Span) (a : ℕ) → 0 < length spans → first ≡ get_or spans 0 first → (holds a first || is_covered spans a) ≡ is_covered spans a
unfolding is_covered
covered_all [] first a some is = absurd (omega arith)
covered_all (s ∷ spans) first a some is = rw is (or_twice (holds a s) (list_any (holds a) spans))

merged_all : (spans : List Span) (first : Span) (i : ℕ) (ranges : List Span) (open' : Span) → AreMerged spans first i ranges open' → 0 < length spans → first ≡ get_or spans 0 first → length spans ≤ i → CoverSame (ranges ++ open' ∷ []) spans
merged_all spans first i ranges open' merged some is all a =
    merged.same a ∙ ap (λ (xs : List Span). holds a first || is_covered xs a) (take_all i spans all) ∙ covered_all spans first a some is

-- ---- merging in place

-- the ranges that were closed are at the front, and the spans from the next one on are untouched
pub record AreMergedAt (spans now : List Span) (first : Span) (next closed : ℕ) (open' : Span) : Type 0 where
  pub merged : AreMerged spans first next (take closed now) open'
  pub rest : drop next now ≡ drop next spans
  pub behind : closed < next

pub merged_at_first : (spans : List Span) (first : Span) → AreSpans spans → IsNonDecreasingBy (λ s. s.first) spans → 0 < length spans → first ≡ get_or spans 0 first → AreMergedAt spans spans first 1 0 first
merged_at_first spans first each ascending some is =
    let one : (get_or spans 0 first).first ≤ (get_or spans 0 first).last = each 0 first some in
    let begins : (get_or spans 0 first).first ≡ first.first = ap (λ (s : Span). s.first) (sym is) in
    let ends : (get_or spans 0 first).last ≡ first.last = ap (λ (s : Span). s.last) (sym is) in
    record {
      merged = merged_wider spans first 0 [] first first first (merged_first spans first each ascending some is) some (omega arith) refl (omega arith);
      rest = refl;
      behind = omega arith;
    }

same_next : (spans now : List Span) (i : ℕ) (d : Span) → drop i now ≡ drop i spans → get_or now i d ≡ get_or spans i d
same_next spans now i d rest =
    let there : i + 0 ≡ i = omega arith in
    ap (λ (k : ℕ). get_or now k d) (sym there) ∙ sym (get_or-drop i now 0 d) ∙ ap (λ (l : List Span). get_or l 0 d) rest ∙ get_or-drop i spans 0 d ∙ ap (λ (k : ℕ). get_or spans k d) there

same_rest : (spans now : List Span) (i : ℕ) → drop i now ≡ drop i spans → drop (i + 1) now ≡ drop (i + 1) spans
same_rest spans now i rest = sym (drop-drop 1 i now) ∙ ap (drop 1) rest ∙ drop-drop 1 i spans

pub merged_at_wider : (spans now : List Span) (first : Span) (i closed : ℕ) (open' later : Span) (d : Span) → AreMergedAt spans now first i closed open' → i < length spans → (get_or now i d).first ≤ open'.last + 1
    → later.first ≡ open'.first → later.last ≡ max open'.last (get_or now i d).last → AreMergedAt spans now first (i + 1) closed later
merged_at_wider spans now first i closed open' later d m h near f l =
    let same : get_or now i d ≡ get_or spans i d = same_next spans now i d m.rest in
    record {
      merged = merged_wider spans first i (take closed now) open' later d m.merged h (subst (λ (s : Span). s.first ≤ open'.last + 1) same near) f (l ∙ ap (λ (s : Span). max open'.last s.last) same);
      rest = same_rest spans now i m.rest;
      behind = let b = m.behind in omega arith;
    }

pub merged_at_next : (spans now : List Span) (first : Span) (i closed : ℕ) (open' : Span) (d : Span) → AreMergedAt spans now first i closed open' → AreSpans spans → IsNonDecreasingBy (λ s. s.first) spans → i < length spans → length now ≡ length spans
    → open'.last + 1 < (get_or now i d).first → AreMergedAt spans (set now closed open') first (i + 1) (closed + 1) (get_or now i d)
merged_at_next spans now first i closed open' d m each ascending h long far =
    let same : get_or now i d ≡ get_or spans i d = same_next spans now i d m.rest in
    let b : closed < i = m.behind in
    let inside : closed < length now = omega arith in
    let next : AreMerged spans first (i + 1) (take closed now ++ open' ∷ []) (get_or spans i d) =
    merged_next spans first i (take closed now) open' d m.merged each ascending h (subst (λ (s : Span). open'.last + 1 < s.first) same far) in
    record {
      merged = subst (λ (l : List Span). AreMerged spans first (i + 1) l (get_or now i d)) (sym (take_more_set now closed open' inside)) (subst (λ (s : Span). AreMerged spans first (i + 1) (take closed now ++ open' ∷ []) s) (sym same) next);
      rest = drop-set-lt (i + 1) now closed open' (omega arith) ∙ same_rest spans now i m.rest;
      behind = omega arith;
    }

-- the last range is put behind the others
pub record AreRanges (spans ranges : List Span) : Type 0 where
  pub apart : AreApart ranges
  pub same : CoverSame ranges spans

pub merged_at_last : (spans now : List Span) (first : Span) (next closed : ℕ) (open' : Span) → AreMergedAt spans now first next closed open' → 0 < length spans → first ≡ get_or spans 0 first → next ≡ length spans → length now ≡ length spans
    → AreRanges spans (take (closed + 1) (set now closed open'))
merged_at_last spans now first next closed open' m some is all long =
    let b : closed < next = m.behind in
    let inside : closed < length now = omega arith in
    subst (AreRanges spans) (sym (take_more_set now closed open' inside)) (record {
      apart = m.merged.apart;
      same = merged_all spans first next (take closed now) open' m.merged some is (omega arith);
    })

unfoldable pub no_span : Span
no_span = record { first = 0; last = 0 }

-- ---- listing

pub spans_push : (spans : List Span) (s : Span) → AreSpans spans → s.first ≤ s.last → AreSpans (spans ++ s ∷ [])
spans_push [] s h l zero d m = l
spans_push [] s h l (suc k) d m = absurd (omega arith)
spans_push (x ∷ spans) s h l zero d m = h zero d (omega arith)
spans_push (x ∷ spans) s h l (suc k) d m = spans_push spans s (λ j e n. h (suc j) e (omega arith)) l k d (omega arith)

pub spans_before : (spans : List Span) (s : Span) → AreSpans (spans ++ s ∷ []) → AreSpans spans
spans_before [] s h k d m = absurd (omega arith)
spans_before (x ∷ spans) s h zero d m = h zero d (omega arith)
spans_before (x ∷ spans) s h (suc k) d m = spans_before spans s (λ j e n. h (suc j) e (omega arith)) k d (omega arith)

pub last_span : (spans : List Span) (s : Span) → AreSpans (spans ++ s ∷ []) → s.first ≤ s.last
last_span [] s h = h zero s (omega arith)
last_span (x ∷ spans) s h = last_span spans s (λ j e n. h (suc j) e (omega arith))

-- the last span is longer now
pub covered_longer : (spans : List Span) (s t u : Span) (a : ℕ) → s.first ≡ t.first → s.first ≤ s.last → u.first ≡ s.first → u.last ≡ max s.last t.last
    → is_covered (spans ++ u ∷ []) a ≡ (is_covered (spans ++ s ∷ []) a || holds a t)
covered_longer spans s t u a same l f g =
    covered_push spans u a
    ∙ ap (λ (b : Bool). is_covered spans a || b) (joined a s t u (omega arith) (omega arith) f g)
    ∙ sym (or_assoc (is_covered spans a) (holds a s) (holds a t))
    ∙ ap (λ (b : Bool). b || holds a t) (sym (covered_push spans s a))

pub covered_one : (spans : List Span) (s : Span) (a : ℕ) → is_covered (spans ++ s ∷ []) a ≡ (is_covered spans a || holds a s)
covered_one = covered_push

-- the spans have the addresses of the picked ones of the first lines, or blocks
pub record AreListed {X : Type 0} (pick : X → Bool) (span : X → Span) (xs : List X) (i : ℕ) (spans : List Span) : Type 0 where
  pub each : AreSpans spans
  pub same : (a : ℕ) → is_covered spans a ≡ is_covered (map span (filter pick (take i xs))) a

module _ {X : Type 0} (pick : X → Bool) (span : X → Span) where
  map_cond : (b : Bool) (x : X) → map span (cond b (x ∷ []) []) ≡ cond b (span x ∷ []) []
  map_cond true x = refl
  map_cond false x = refl

  -- one more
  listed_next : (xs : List X) (i : ℕ) (d : X) → i < length xs → map span (filter pick (take (i + 1) xs)) ≡ map span (filter pick (take i xs)) ++ cond (pick (get_or xs i d)) (span (get_or xs i d) ∷ []) []
  listed_next xs i d h =
      ap (map span) (filter_more pick xs i d h)
      ∙ map-append span (filter pick (take i xs)) (cond (pick (get_or xs i d)) (get_or xs i d ∷ []) [])
      ∙ ap (λ (ys : List Span). map span (filter pick (take i xs)) ++ ys) (map_cond (pick (get_or xs i d)) (get_or xs i d))

  pub listed_none : (xs : List X) → AreListed pick span xs 0 []
  listed_none xs = record { each = λ k d h. absurd (omega arith); same = λ a. refl }

  pub listed_more : (xs : List X) (i : ℕ) (d : X) (spans later : List Span) → AreListed pick span xs i spans → i < length xs → pick (get_or xs i d) ≡ true → AreSpans later
      → ((a : ℕ) → is_covered later a ≡ (is_covered spans a || holds a (span (get_or xs i d)))) → AreListed pick span xs (i + 1) later
  listed_more xs i d spans later listed h small each steps = record {
    each = each;
    same = λ a.
        steps a
        ∙ ap (λ (b : Bool). b || holds a (span (get_or xs i d))) (listed.same a)
        ∙ sym (covered_push (map span (filter pick (take i xs))) (span (get_or xs i d)) a)
        ∙ ap (λ (ys : List Span). is_covered ys a) (sym (listed_next xs i d h ∙ ap (λ (t : Bool). map span (filter pick (take i xs)) ++ cond t (span (get_or xs i d) ∷ []) []) small));
  }

  pub listed_same : (xs : List X) (i : ℕ) (d : X) (spans : List Span) → AreListed pick span xs i spans → i < length xs → pick (get_or xs i d) ≡ false → AreListed pick span xs (i + 1) spans
  listed_same xs i d spans listed h other = record {
    each = listed.each;
    same = λ a.
        listed.same a
        ∙ ap (λ (ys : List Span). is_covered ys a) (sym (listed_next xs i d h ∙ ap (λ (t : Bool). map span (filter pick (take i xs)) ++ cond t (span (get_or xs i d) ∷ []) []) other ∙ append-nil (map span (filter pick (take i xs)))));
  }

  pub listed_all : (xs : List X) (i : ℕ) (spans : List Span) → AreListed pick span xs i spans → length xs ≤ i → CoverSame spans (map span (filter pick xs))
  listed_all xs i spans listed h a = listed.same a ∙ ap (λ (ys : List X). is_covered (map span (filter pick ys)) a) (take_all i xs h)

-- ---- listing without the live ones

-- an address with no byte of the block is not in its span, if the block has a byte
outside_span : (a : ℕ) (b : Block) → has_byte a b ≡ false → (b.size == 0) ≡ false → holds a (block_span b) ≡ false
outside_span a b out some =
    let size : 0 < b.size = has_some b.size some in
    elim (cases_lt a b.start) [
      | inl l ↦ before_span a (block_span b) l
      | inr l ↦ elim (cases_lt a (b.start + b.size)) [
        | inl m ↦ absurd (true≢false (sym (rw (le-leb b.start a l, lt-ltb a (b.start + b.size) m) refl) ∙ out))
        | inr m ↦ behind_span a (block_span b) (omega arith)
      ]
    ]
  where
    has_some : (n : ℕ) → (n == 0) ≡ false → 0 < n
    has_some zero e = absurd (true≢false e)
    has_some (suc n) e = omega arith

-- the spans have the addresses of the first small blocks, as far as no marked block has a byte there
pub record AreListedOutside (blocks : List Block) (marks : List Bool) (i : ℕ) (spans : List Span) : Type 0 where
  pub each : AreSpans spans
  pub same : (a : ℕ) → IsOutsideMarked blocks marks a → is_covered spans a ≡ is_covered (map block_span (filter is_small_block (take i blocks))) a

-- the small blocks with one more, which is small
covered_small : (blocks : List Block) (i : ℕ) (d : Block) (a : ℕ) → i < length blocks → is_small_block (get_or blocks i d) ≡ true
    → is_covered (map block_span (filter is_small_block (take (i + 1) blocks))) a ≡ (is_covered (map block_span (filter is_small_block (take i blocks))) a || holds a (block_span (get_or blocks i d)))
covered_small blocks i d a h small =
    let before = map block_span (filter is_small_block (take i blocks)) in
    ap (λ (ys : List Span). is_covered ys a) (listed_next is_small_block block_span blocks i d h ∙ ap (λ (t : Bool). before ++ cond t (block_span (get_or blocks i d) ∷ []) []) small)
    ∙ covered_push before (block_span (get_or blocks i d)) a

-- and with one that is not
covered_large : (blocks : List Block) (i : ℕ) (d : Block) (a : ℕ) → i < length blocks → is_small_block (get_or blocks i d) ≡ false
    → is_covered (map block_span (filter is_small_block (take (i + 1) blocks))) a ≡ is_covered (map block_span (filter is_small_block (take i blocks))) a
covered_large blocks i d a h large =
    let before = map block_span (filter is_small_block (take i blocks)) in
    ap (λ (ys : List Span). is_covered ys a) (listed_next is_small_block block_span blocks i d h ∙ ap (λ (t : Bool). before ++ cond t (block_span (get_or blocks i d) ∷ []) []) large ∙ append-nil before)

pub outside_none : (blocks : List Block) (marks : List Bool) → AreListedOutside blocks marks 0 []
outside_none blocks marks = record { each = λ k d h. absurd (omega arith); same = λ a out. refl }

pub outside_more : (blocks : List Block) (marks : List Bool) (i : ℕ) (d : Block) (spans later : List Span) → AreListedOutside blocks marks i spans → i < length blocks
    → is_listed (get_or marks i false) (get_or blocks i d) ≡ true → AreSpans later → ((a : ℕ) → is_covered later a ≡ (is_covered spans a || holds a (block_span (get_or blocks i d)))) → AreListedOutside blocks marks (i + 1) later
outside_more blocks marks i d spans later listed h picked each steps = record {
  each = each;
  same = λ a out.
      steps a
      ∙ ap (λ (b : Bool). b || holds a (block_span (get_or blocks i d))) (listed.same a out)
      ∙ sym (covered_small blocks i d a h (both (is_small_block (get_or blocks i d)) _ picked));
}
  where
    both : (s t : Bool) → (s && t) ≡ true → s ≡ true
    both true t e = refl
    both false t e = e

pub outside_left : (blocks : List Block) (marks : List Bool) (i : ℕ) (d : Block) (spans : List Span) → AreListedOutside blocks marks i spans → i < length blocks
    → is_listed (get_or marks i false) (get_or blocks i d) ≡ false → AreListedOutside blocks marks (i + 1) spans
outside_left blocks marks i d spans listed h left = record {
  each = listed.each;
  same = λ a out. listed.same a out ∙ sym (go a (is_small_block (get_or blocks i d)) (get_or marks i false) ((get_or blocks i d).size == 0) refl refl refl left (out i d h));
}
  where
    go : (a : ℕ) (small live none : Bool) → is_small_block (get_or blocks i d) ≡ small → get_or marks i false ≡ live → ((get_or blocks i d).size == 0) ≡ none
        → (small && (not live || none)) ≡ false → (get_or marks i false ≡ true → has_byte a (get_or blocks i d) ≡ false)
        → is_covered (map block_span (filter is_small_block (take (i + 1) blocks))) a ≡ is_covered (map block_span (filter is_small_block (take i blocks))) a
    go a false live none s l n e out = covered_large blocks i d a h s
    go a true true false s l n e out =
        let before = is_covered (map block_span (filter is_small_block (take i blocks))) a in
        covered_small blocks i d a h s ∙ ap (λ (t : Bool). before || t) (outside_span a (get_or blocks i d) (out l) n) ∙ or-false before
    go a true true true s l n e out = absurd (true≢false e)
    go a true false none s l n e out = absurd (true≢false e)

pub outside_all : (blocks : List Block) (marks : List Bool) (i : ℕ) (spans : List Span) → AreListedOutside blocks marks i spans → length blocks ≤ i
    → (a : ℕ) → IsOutsideMarked blocks marks a → is_covered spans a ≡ is_covered (map block_span (filter is_small_block blocks)) a
outside_all blocks marks i spans listed h a out = listed.same a out ∙ ap (λ (ys : List Block). is_covered (map block_span (filter is_small_block ys)) a) (take_all i blocks h)

-- ---- marks

-- the marks of the first numbers are set
pub record AreMarkedBy (count : ℕ) (numbers : List ℕ) (i : ℕ) (marks : List Bool) : Type 0 where
  pub long : length marks ≡ count
  pub each : (k : ℕ) → k < count → get_or marks k false ≡ list_any (λ n. n == k) (take i numbers)

pub marked_none : (count : ℕ) (numbers : List ℕ) (marks : List Bool) → marks ≡ replicate count false → AreMarkedBy count numbers 0 marks
marked_none count numbers marks e = record { long = ap length e ∙ length-replicate count false; each = λ k h. ap (λ (l : List Bool). get_or l k false) e ∙ get_or-replicate count k false false h }

pub marked_more : (count : ℕ) (numbers : List ℕ) (i : ℕ) (d : ℕ) (marks : List Bool) → AreMarkedBy count numbers i marks → i < length numbers → get_or numbers i d < count → AreMarkedBy count numbers (i + 1) (set marks (get_or numbers i d) true)
marked_more count numbers i d marks m h inside = record {
  long = length-set marks (get_or numbers i d) true ∙ m.long;
  each = λ k l. go k l (get_or numbers i d == k) refl ∙ sym (list_any_more (λ n. n == k) numbers i d h);
}
  where
    go : (k : ℕ) → k < count → (t : Bool) → (get_or numbers i d == k) ≡ t → get_or (set marks (get_or numbers i d) true) k false ≡ (list_any (λ n. n == k) (take i numbers) || (get_or numbers i d == k))
    go k l true e =
        get_or-set_at marks (get_or numbers i d) k true false (sym (eqb-true _ _ e)) (let n = m.long in omega arith)
        ∙ sym (ap (λ (t : Bool). list_any (λ n. n == k) (take i numbers) || t) e ∙ or_true (list_any (λ n. n == k) (take i numbers)))
    go k l false e =
        get_or-set_other marks (get_or numbers i d) k true false (λ s. eqb-false _ _ e (sym s))
        ∙ m.each k l
        ∙ sym (ap (λ (t : Bool). list_any (λ n. n == k) (take i numbers) || t) e ∙ or-false (list_any (λ n. n == k) (take i numbers)))

pub marked_all : (count : ℕ) (numbers : List ℕ) (i : ℕ) (marks : List Bool) → AreMarkedBy count numbers i marks → length numbers ≤ i → AreMarksOf count numbers marks
marked_all count numbers i marks m h = record { long = m.long; each = λ k l. m.each k l ∙ ap (list_any (λ n. n == k)) (take_all i numbers h) }

-- ---- marks of live blocks

numbers_within : (allocated bs cs : List Block) → AreNumbersOf allocated bs cs → AllByRecursion (λ n. n < length allocated) (map (λ b. b.line) bs)
numbers_within allocated [] cs h = tt
numbers_within allocated (b ∷ bs) [] h = elim h [ ]
numbers_within allocated (b ∷ bs) (c ∷ cs) h = (slice_get_within allocated b.line c h.0.at, numbers_within allocated bs cs h.1)

pub numbers_inside : (allocated : List Block) (numbers : List ℕ) (blocks : List Block) → AreNumbered allocated numbers blocks → All (λ n. n < length allocated) numbers
numbers_inside allocated numbers blocks n = subst (All (λ k. k < length allocated)) (sym n.listed) (All-from_each (λ k. k < length allocated) (map (λ b. b.line) n.numbered) (numbers_within allocated n.numbered blocks n.stand))

-- a marked block has no byte where no block has one
marked_outside : (allocated bs cs : List Block) (a k : ℕ) (d : Block) → AreNumbersOf allocated bs cs → list_any (λ n. n == k) (map (λ b. b.line) bs) ≡ true → list_any (has_byte a) cs ≡ false → has_byte a (get_or allocated k d) ≡ false
marked_outside allocated [] cs a k d h marked out = absurd (true≢false (sym marked))
marked_outside allocated (b ∷ bs) [] a k d h marked out = elim h [ ]
marked_outside allocated (b ∷ bs) (c ∷ cs) a k d h marked out = go (b.line == k) refl (has_byte a c) refl marked out (marked_outside allocated bs cs a k d h.1)
  where
    go : (t : Bool) → (b.line == k) ≡ t → (u : Bool) → has_byte a c ≡ u → (t || list_any (λ n. n == k) (map (λ x. x.line) bs)) ≡ true → (u || list_any (has_byte a) cs) ≡ false
        → (list_any (λ n. n == k) (map (λ x. x.line) bs) ≡ true → list_any (has_byte a) cs ≡ false → has_byte a (get_or allocated k d) ≡ false) → has_byte a (get_or allocated k d) ≡ false
    go t e true f m o rest = absurd (true≢false o)
    go true e false f m o rest =
        ap (has_byte a) (ap (λ (n : ℕ). get_or allocated n d) (sym (eqb-true _ _ e)) ∙ get_or_from_slice_get allocated b.line c d h.0.at) ∙ f
    go false e false f m o rest = rest m o

pub outside_marked : (allocated : List Block) (numbers : List ℕ) (blocks : List Block) (marks : List Bool) → AreNumbered allocated numbers blocks → AreMarksOf (length allocated) numbers marks
    → (a : ℕ) → list_any (has_byte a) blocks ≡ false → IsOutsideMarked allocated marks a
outside_marked allocated numbers blocks marks n m a out k d h is =
    marked_outside allocated n.numbered blocks a k d n.stand (ap (list_any (λ j. j == k)) (sym n.listed) ∙ sym (m.each k h) ∙ is) out
