-- Places that are left out since they are inside spans.
use Rattle.std.proofs.Common.{◌≡◌, ℕ, zero, suc, ◌+◌, ◌-◌, ◌*◌, ◌/◌, ◌%◌, ◌<◌, ◌≤◌, min, max, Bool, true, false, not, cond, leb, ◌&&◌, inl, inr, List, [], ◌∷◌, ◌++◌, length, get_or, take, map, flat_map, filter, is_some, refl, sym, ap, subst, ◌∙◌, append-nil, append_assoc, true≢false, arith}
use Rattle.std.specs.List.{AllByRecursion, list_all, list_any, range_with_len}
use Rattle.std.proofs.Math.Bool.{and-false}
use Rattle.std.proofs.lemmas.Bool.{cases_lt, le-ltb, lt-leb, lt-ltb}
use Rattle.std.proofs.lemmas.List.{take_more, get_or_default, length-map, length-append}
use Rattle.std.proofs.lemmas.Grind.{flat_map-append}
use Rattle.std.proofs.lemmas.List.Elements.{filter-append}
use Rattle.std.proofs.lemmas.List.FromFn.{length-range_with_len}
use Rattle.leak_lemmas.proofs.Members.{each_push}
use Rattle.leak_blocks.specs.declared.block.Block.{Block}
use Rattle.leak_blocks.specs.declared.small.Span.{Span}
use Rattle.leak_blocks.specs.Small.{AreApart, CoverSame, CoverSameOutside, has_byte, is_covered}
use Rattle.leak_elf.specs.declared.segment.Segment.{Segment}
use Rattle.leak_elf.specs.Segments.{segments_of}
use Rattle.leak_elf.specs.Words.{places, word_of}
use Rattle.leak_roots.specs.declared.inside.Kept.{Kept}
use Rattle.leak_roots.specs.Kept.{Adds, AreRangesKept, FitsBelow}
use Rattle.leak_roots.specs.Places.{IsRange, AreRanges, EndBy, addresses_in, memory_places}
use Rattle.leak_roots.specs.Roots.{has_roots, is_apart, is_inside, outside_places, outside_places_in}
use Rattle.leak_roots.proofs.Addresses.{addresses_in-split}
use Rattle.leak_roots.proofs.Cutting.{range_is}
use Rattle.leak_roots.proofs.Ranges.{begin_earlier, each_append, end_later, keeps_all, each_kept, ranges_append, ranges_kept, ranges_push, places_push}
use Rattle.leak_roots.proofs.Spans.{none_inside}

-- ---- places that are all inside spans, or all outside

filter_true : (p : ℕ → Bool) (f : ℕ → ℕ) (i n : ℕ) → ((k : ℕ) → i ≤ k → k < i + n → p (f k) ≡ true) → filter p (map f (range_with_len i n)) ≡ map f (range_with_len i n)
filter_true p f i zero h = refl
filter_true p f i (suc n) h = rw (h i (omega arith) (omega arith), filter_true p f (i + 1) n (λ k l m. h k (omega arith) (omega arith))) refl

filter_false : (p : ℕ → Bool) (f : ℕ → ℕ) (i n : ℕ) → ((k : ℕ) → i ≤ k → k < i + n → p (f k) ≡ false) → filter p (map f (range_with_len i n)) ≡ []
filter_false p f i zero h = refl
filter_false p f i (suc n) h = rw (h i (omega arith) (omega arith)) (filter_false p f (i + 1) n (λ k l m. h k (omega arith) (omega arith)))

length-addresses : (from to : ℕ) → length (addresses_in (from, to)) ≡ (to - from) / 8
length-addresses from to = length-map (range_with_len 0 ((to - from) / 8)) (λ (i : ℕ). from + 8 * i) ∙ length-range_with_len 0 ((to - from) / 8)

pass_all : (p : ℕ → Bool) (from to : ℕ) → from % 8 ≡ 0 → ((a : ℕ) → from ≤ a → a < to → a % 8 ≡ 0 → p a ≡ true) → filter p (addresses_in (from, to)) ≡ addresses_in (from, to)
pass_all p from to m h = filter_true p (λ (i : ℕ). from + 8 * i) 0 ((to - from) / 8) (λ k l n. h (from + 8 * k) (omega arith) (omega arith) (omega arith))

pass_none : (p : ℕ → Bool) (from to : ℕ) → from % 8 ≡ 0 → ((a : ℕ) → from ≤ a → a < to → a % 8 ≡ 0 → p a ≡ false) → filter p (addresses_in (from, to)) ≡ []
pass_none p from to m h = filter_false p (λ (i : ℕ). from + 8 * i) 0 ((to - from) / 8) (λ k l n. h (from + 8 * k) (omega arith) (omega arith) (omega arith))

-- ---- places that are added

pub adds_none : (keeps : ℕ × ℕ → Bool) (from to : ℕ) (kept : Kept) → Adds keeps from to [] kept kept
adds_none keeps from to kept = record {
  spans = refl;
  all = [];
  ranges = tt;
  begins = tt;
  ends = tt;
  outside = refl;
  memory = sym (append-nil kept.memory.items);
  inside = omega arith;
}

-- places up to one address, and after them those from one on that isn't before it
pub adds_more : (keeps : ℕ × ℕ → Bool) (from mid low to : ℕ) (xs ys : List ℕ) (a b c : Kept) → from ≤ low → mid ≤ low → mid ≤ to → Adds keeps from mid xs a b → Adds keeps low to ys b c → Adds keeps from to (xs ++ ys) a c
adds_more keeps from mid low to xs ys a b c first between last x y =
    let out = λ (n : ℕ). not (is_inside a.spans.now n) in
    let others : memory_places y.all ≡ filter out ys = rw x.spans at y.outside in
    let counted : c.inside ≡ b.inside + length (filter (is_inside a.spans.now) ys) = rw x.spans at y.inside in
    record {
      spans = y.spans ∙ x.spans;
      all = x.all ++ y.all;
      ranges = ranges_append low x.all y.all x.ranges (end_later mid low x.all between x.ends) y.ranges y.begins;
      begins = each_append (λ (r : ℕ × ℕ). from ≤ r.0) x.all y.all x.begins (begin_earlier from low y.all first y.begins);
      ends = each_append (λ (r : ℕ × ℕ). r.1 ≤ to) x.all y.all (end_later mid to x.all last x.ends) y.ends;
      outside = flat_map-append addresses_in x.all y.all ∙ ap (λ (zs : List ℕ). zs ++ memory_places y.all) x.outside
          ∙ ap (λ (zs : List ℕ). filter out xs ++ zs) others ∙ sym (filter-append out xs ys);
      memory = y.memory ∙ ap (λ (rs : List (ℕ × ℕ)). rs ++ filter keeps y.all) x.memory ∙ append_assoc a.memory.items (filter keeps x.all) (filter keeps y.all)
          ∙ ap (λ (rs : List (ℕ × ℕ)). a.memory.items ++ rs) (sym (filter-append keeps x.all y.all));
      inside = let m = x.inside in let n = ap length (filter-append (is_inside a.spans.now) xs ys) in
          let l = length-append (filter (is_inside a.spans.now) xs) (filter (is_inside a.spans.now) ys) in omega (arith, m, counted, n, l);
    }

-- the same places, between addresses further apart
pub adds_wider : (keeps : ℕ × ℕ → Bool) (from to low high : ℕ) (xs : List ℕ) (a b : Kept) → from ≤ low → high ≤ to → Adds keeps low high xs a b → Adds keeps from to xs a b
adds_wider keeps from to low high xs a b first last x = record {
  spans = x.spans;
  all = x.all;
  ranges = x.ranges;
  begins = begin_earlier from low x.all first x.begins;
  ends = end_later high to x.all last x.ends;
  outside = x.outside;
  memory = x.memory;
  inside = x.inside;
}

-- no place was added yet
pub record HasNone (spans : List Span) (kept : Kept) : Type 0 where
  pub memory : kept.memory.items ≡ []
  pub inside : kept.inside ≡ 0
  pub same : kept.spans.now ≡ spans

pub none_before : (spans : List Span) (kept : Kept) (addr : ℕ) → AreApart spans → HasNone spans kept → FitsBelow addr kept
none_before spans kept addr apart none = record { apart = rw none.same apart; room = let i = none.inside in omega arith }

-- after them the ranges of those outside the spans are kept as far as they pass, and the others counted
pub all_kept : (keeps : ℕ × ℕ → Bool) (from to : ℕ) (spans : List Span) (places : List ℕ) (first kept : Kept) → HasNone spans first → Adds keeps from to places first kept → AreRangesKept keeps (filter (λ a. not (is_inside spans a)) places) kept.memory.items
all_kept keeps from to spans places first kept none adds = record { all = adds.all; ranges = adds.ranges; whole = rw none.same at adds.outside; memory = rw none.memory at adds.memory }

pub kept_ranges : (keeps : ℕ × ℕ → Bool) (places : List ℕ) (kept : List (ℕ × ℕ)) → AreRangesKept keeps places kept → AreRanges kept
kept_ranges keeps places kept is = rw is.memory (ranges_kept keeps is.all is.ranges)

pub all_whole : (keeps : ℕ × ℕ → Bool) (places : List ℕ) (kept : List (ℕ × ℕ)) → ((r : ℕ × ℕ) → keeps r ≡ true) → AreRangesKept keeps places kept → memory_places kept ≡ places
all_whole keeps places kept each is = ap memory_places (is.memory ∙ keeps_all keeps is.all each) ∙ is.whole

pub all_counted : (keeps : ℕ × ℕ → Bool) (from to : ℕ) (spans : List Span) (places : List ℕ) (first kept : Kept) → HasNone spans first → Adds keeps from to places first kept → kept.inside ≡ length (filter (is_inside spans) places)
all_counted keeps from to spans places first kept none adds = let i = none.inside in let a = rw none.same at adds.inside in omega (arith, i, a)

-- a range of places outside the spans, if the test keeps it
adds_kept : (keeps : ℕ × ℕ → Bool) (old new : Kept) (from to : ℕ) → IsRange (from, to) → ((a : ℕ) → from ≤ a → a < to → a % 8 ≡ 0 → is_inside old.spans.now a ≡ false)
    → new.spans.now ≡ old.spans.now → new.memory.items ≡ old.memory.items ++ filter keeps ((from, to) ∷ []) → new.inside ≡ old.inside → Adds keeps from to (addresses_in (from, to)) old new
adds_kept keeps old new from to is alike same more i = record {
  spans = same;
  all = (from, to) ∷ [];
  ranges = (is, tt, tt);
  begins = (omega arith, tt);
  ends = (omega arith, tt);
  outside = append-nil (addresses_in (from, to)) ∙ sym (pass_all (λ a. not (is_inside old.spans.now a)) from to is.from_multiple (λ a l m n. ap not (alike a l m n)));
  memory = more;
  inside = let z = ap length (pass_none (is_inside old.spans.now) from to is.from_multiple alike) in omega (arith, z, i);
}

-- a range of places inside the spans
adds_counted : (keeps : ℕ × ℕ → Bool) (old new : Kept) (from to : ℕ) → from % 8 ≡ 0 → ((a : ℕ) → from ≤ a → a < to → a % 8 ≡ 0 → is_inside old.spans.now a ≡ true)
    → new.spans.now ≡ old.spans.now → new.memory.items ≡ old.memory.items → new.inside ≡ old.inside + (to - from) / 8 → Adds keeps from to (addresses_in (from, to)) old new
adds_counted keeps old new from to f alike same more i = record {
  spans = same;
  all = [];
  ranges = tt;
  begins = tt;
  ends = tt;
  outside = sym (pass_none (λ a. not (is_inside old.spans.now a)) from to f (λ a l m n. ap not (alike a l m n)));
  memory = more ∙ sym (append-nil old.memory.items);
  inside = let z = ap length (pass_all (is_inside old.spans.now) from to f alike) in let n = length-addresses from to in omega (arith, z, n, i);
}

pub before_later : (a b : ℕ) (kept : Kept) → a ≤ b → FitsBelow a kept → FitsBelow b kept
before_later a b kept l k = record { apart = k.apart; room = let r = k.room in omega arith }

before_kept : (old new : Kept) (from to : ℕ) → from < to → new.spans.now ≡ old.spans.now → new.inside ≡ old.inside → FitsBelow from old → FitsBelow to new
before_kept old new from to some same i k = record { apart = rw same k.apart; room = let r = k.room in omega arith }

before_counted : (old new : Kept) (from to : ℕ) → from < to → new.spans.now ≡ old.spans.now → new.inside ≡ old.inside + (to - from) / 8 → FitsBelow from old → FitsBelow to new
before_counted old new from to some same i k = record { apart = rw same k.apart; room = let r = k.room in omega arith }

-- the places of the range before the cursor were added
pub record AreKept (keeps : ℕ × ℕ → Bool) (range : ℕ × ℕ) (old new : Kept) (cursor : ℕ) : Type 0 where
  pub low : range.0 ≤ cursor
  pub high : cursor ≤ range.1
  pub multiple : cursor % 8 ≡ 0
  pub adds : Adds keeps range.0 cursor (addresses_in (range.0, cursor)) old new
  pub before : FitsBelow cursor new

pub kept_first : (keeps : ℕ × ℕ → Bool) (range : ℕ × ℕ) (old : Kept) → IsRange range → FitsBelow range.0 old → AreKept keeps range old old range.0
kept_first keeps range old is k = record {
  low = omega arith;
  high = let s = is.some in omega arith;
  multiple = is.from_multiple;
  adds = let z : (range.0 - range.0) / 8 ≡ 0 = omega arith in rw z (adds_none keeps range.0 range.0 old);
  before = k;
}

kept_step : (keeps : ℕ × ℕ → Bool) (range : ℕ × ℕ) (old new more : Kept) (cursor end : ℕ) → IsRange range → AreKept keeps range old new cursor → cursor < end → end ≤ range.1 → end % 8 ≡ 0
    → Adds keeps cursor end (addresses_in (cursor, end)) new more → FitsBelow end more → AreKept keeps range old more end
kept_step keeps range old new more cursor end is k some within multiple' adds' before' =
    let low' = k.low in record {
      low = omega arith;
      high = within;
      multiple = multiple';
      adds = rw (addresses_in-split range.0 cursor end is.from_multiple k.multiple multiple' low' (omega arith)) (adds_more keeps range.0 cursor cursor end _ _ old new more low' (omega arith) (omega arith) k.adds adds');
      before = before';
    }

-- places more outside the spans
pub kept_more : (keeps : ℕ × ℕ → Bool) (range : ℕ × ℕ) (old new more : Kept) (cursor end : ℕ) → IsRange range → AreKept keeps range old new cursor → cursor < end → end ≤ range.1 → end % 8 ≡ 0
    → ((a : ℕ) → cursor ≤ a → a < end → a % 8 ≡ 0 → is_inside new.spans.now a ≡ false) → more.spans.now ≡ new.spans.now → more.memory.items ≡ new.memory.items ++ filter keeps ((cursor, end) ∷ []) → more.inside ≡ new.inside
    → AreKept keeps range old more end
kept_more keeps range old new more cursor end is k some within multiple' alike same items i =
    kept_step keeps range old new more cursor end is k some within multiple' (adds_kept keeps new more cursor end (record { some = some; from_multiple = k.multiple; to_multiple = multiple' }) alike same items i)
    (before_kept new more cursor end some same i k.before)

-- places more inside the spans
pub kept_less : (keeps : ℕ × ℕ → Bool) (range : ℕ × ℕ) (old new more : Kept) (cursor end : ℕ) → IsRange range → AreKept keeps range old new cursor → cursor < end → end ≤ range.1 → end % 8 ≡ 0
    → ((a : ℕ) → cursor ≤ a → a < end → a % 8 ≡ 0 → is_inside new.spans.now a ≡ true) → more.spans.now ≡ new.spans.now → more.memory.items ≡ new.memory.items → more.inside ≡ new.inside + (end - cursor) / 8
    → AreKept keeps range old more end
kept_less keeps range old new more cursor end is k some within multiple' alike same items i =
    kept_step keeps range old new more cursor end is k some within multiple' (adds_counted keeps new more cursor end k.multiple alike same items i)
    (before_counted new more cursor end some same i k.before)

-- ---- a test that keeps all

pub taken_places : (keeps : ℕ × ℕ → Bool) (from to : ℕ) (places : List ℕ) (old new : Kept) → ((r : ℕ × ℕ) → keeps r ≡ true) → Adds keeps from to places old new
    → memory_places new.memory.items ≡ memory_places old.memory.items ++ filter (λ a. not (is_inside old.spans.now a)) places
taken_places keeps from to places old new each adds =
    ap memory_places (adds.memory ∙ ap (λ (rs : List (ℕ × ℕ)). old.memory.items ++ rs) (keeps_all keeps adds.all each))
    ∙ flat_map-append addresses_in old.memory.items adds.all
    ∙ ap (λ (xs : List ℕ). memory_places old.memory.items ++ xs) adds.outside

pub taken_ranges : (keeps : ℕ × ℕ → Bool) (from to : ℕ) (places : List ℕ) (old new : Kept) → Adds keeps from to places old new → AreRanges old.memory.items → EndBy from old.memory.items → AreRanges new.memory.items
taken_ranges keeps from to places old new adds ranges ends =
    rw adds.memory (ranges_append from old.memory.items (filter keeps adds.all) ranges ends (ranges_kept keeps adds.all adds.ranges) (each_kept (λ (r : ℕ × ℕ). from ≤ r.0) keeps adds.all adds.begins))

pub taken_ends : (keeps : ℕ × ℕ → Bool) (from to : ℕ) (places : List ℕ) (old new : Kept) → from ≤ to → Adds keeps from to places old new → EndBy from old.memory.items → EndBy to new.memory.items
taken_ends keeps from to places old new order adds ends =
    rw adds.memory (each_append (λ (r : ℕ × ℕ). r.1 ≤ to) old.memory.items (filter keeps adds.all) (end_later from to old.memory.items order ends) (each_kept (λ (r : ℕ × ℕ). r.1 ≤ to) keeps adds.all adds.ends))

-- ---- one range after another

ranges_behind : (r : ℕ × ℕ) (rs : List (ℕ × ℕ)) (k : ℕ) (d : ℕ × ℕ) → AllByRecursion (λ s. r.1 ≤ s.0) rs → k < length rs → r.1 ≤ (get_or rs k d).0
ranges_behind r [] k d h l = absurd (omega arith)
ranges_behind r (s ∷ rs) zero d h l = h.0
ranges_behind r (s ∷ rs) (suc k) d h l = ranges_behind r rs k d h.1 (omega arith)

pub ranges_apart : (rs : List (ℕ × ℕ)) (j k : ℕ) (d : ℕ × ℕ) → AreRanges rs → j < k → k < length rs → (get_or rs j d).1 ≤ (get_or rs k d).0
ranges_apart [] j k d h l m = absurd (omega arith)
ranges_apart (r ∷ rs) j zero d h l m = absurd (omega arith)
ranges_apart (r ∷ rs) zero (suc k) d h l m = ranges_behind r rs k d h.1 (omega arith)
ranges_apart (r ∷ rs) (suc j) (suc k) d h l m = ranges_apart rs j k d h.2 (omega arith) (omega arith)

-- the ends ascend
pub ends_ascend : (rs : List (ℕ × ℕ)) (j k : ℕ) (d : ℕ × ℕ) (at : ℕ) → AreRanges rs → j ≤ k → k < length rs → (get_or rs k d).1 ≤ at → (get_or rs j d).1 ≤ at
ends_ascend rs j k d at are l h e =
    elim (cases_lt j k) [
      | inl m ↦ let a = ranges_apart rs j k d are m h in let one = range_is rs k d are h in let s = one.some in omega arith
      | inr m ↦ let q : j ≡ k = omega arith in rw q e
    ]

-- the places of the first ranges: those outside the spans were added, and the others counted
pub record AreAllKept (spans : List Span) (memory : List (ℕ × ℕ)) (i : ℕ) (kept : List (ℕ × ℕ)) (inside : ℕ) : Type 0 where
  pub ranges : AreRanges kept
  pub ends : (k : ℕ) (d : ℕ × ℕ) → i ≤ k → k < length memory → EndBy (get_or memory k d).0 kept
  pub few : (k : ℕ) (d : ℕ × ℕ) → i ≤ k → k < length memory → 8 * inside ≤ (get_or memory k d).0
  pub places : memory_places kept ≡ filter (λ a. not (is_inside spans a)) (memory_places (take i memory))
  pub counted : inside ≡ length (filter (is_inside spans) (memory_places (take i memory)))

pub all_kept_first : (spans : List Span) (memory : List (ℕ × ℕ)) → AreAllKept spans memory 0 [] 0
all_kept_first spans memory = record { ranges = tt; ends = λ k d l m. tt; few = λ k d l m. omega arith; places = refl; counted = refl }

filter_more : (p : ℕ → Bool) (memory : List (ℕ × ℕ)) (i : ℕ) (d : ℕ × ℕ) → i < length memory → filter p (memory_places (take (i + 1) memory)) ≡ filter p (memory_places (take i memory)) ++ filter p (addresses_in (get_or memory i d))
filter_more p memory i d h =
    ap (λ (rs : List (ℕ × ℕ)). filter p (memory_places rs)) (take_more memory i d h)
    ∙ ap (filter p) (places_push (take i memory) (get_or memory i d))
    ∙ filter-append p (memory_places (take i memory)) (addresses_in (get_or memory i d))

pub all_kept_more : (spans : List Span) (memory : List (ℕ × ℕ)) (i : ℕ) (kept more : List (ℕ × ℕ)) (inside count : ℕ) (d : ℕ × ℕ) → AreRanges memory → i < length memory → AreAllKept spans memory i kept inside
    → memory_places more ≡ memory_places kept ++ filter (λ a. not (is_inside spans a)) (addresses_in (get_or memory i d)) → AreRanges more → EndBy (get_or memory i d).1 more
    → count ≡ length (filter (is_inside spans) (addresses_in (get_or memory i d))) → 8 * (inside + count) ≤ (get_or memory i d).1 → AreAllKept spans memory (i + 1) more (inside + count)
all_kept_more spans memory i kept more inside count d are h k places' ranges' ends' counted' few' = record {
  ranges = ranges';
  ends = λ j e l m. end_later (get_or memory i d).1 (get_or memory j e).0 more (let a = ranges_apart memory i j d are (omega arith) m in let q = get_or_default memory j d e m in rw (← q) a) ends';
  few = λ j e l m. let a = ranges_apart memory i j d are (omega arith) m in let q = get_or_default memory j d e m in rw (← q) (omega arith);
  places = places' ∙ ap (λ (xs : List ℕ). xs ++ filter (λ a. not (is_inside spans a)) (addresses_in (get_or memory i d))) k.places ∙ sym (filter_more (λ a. not (is_inside spans a)) memory i d h);
  counted = ap (λ (n : ℕ). n + count) k.counted
      ∙ ap (λ (n : ℕ). length (filter (is_inside spans) (memory_places (take i memory))) + n) counted'
      ∙ sym (length-append (filter (is_inside spans) (memory_places (take i memory))) (filter (is_inside spans) (addresses_in (get_or memory i d))))
      ∙ ap length (sym (filter_more (is_inside spans) memory i d h));
}

unfoldable pub no_span : Span
no_span = record { first = 0; last = 0 }

-- of the first ranges, which end before each span begins, all places are kept
pub all_kept_ahead : (spans : List Span) (memory : List (ℕ × ℕ)) (i : ℕ) → AreRanges memory → AreApart spans → i ≤ length memory
    → ((k j : ℕ) (r : ℕ × ℕ) (d : Span) → k < i → j < length spans → (get_or memory k r).1 ≤ (get_or spans j d).first)
    → AreAllKept spans memory i (take i memory) 0
all_kept_ahead spans memory zero are apart l ahead = all_kept_first spans memory
all_kept_ahead spans memory (suc i) are apart l ahead =
    let d : ℕ × ℕ = (0, 0) in
    let r = get_or memory i d in
    let before = all_kept_ahead spans memory i are apart (omega arith) (λ k j e s m n. ahead k j e s (omega arith) n) in
    let one = range_is memory i d are (omega arith) in
    let out : (a : ℕ) → r.0 ≤ a → a < r.1 → a % 8 ≡ 0 → is_inside spans a ≡ false = λ a m n o.
    none_inside spans 0 no_span a apart (λ j p q. absurd (omega arith)) (λ j p q. let b = ahead i j d no_span (omega arith) q in omega arith) in
    let more = take_more memory i d (omega arith) in
    let end = before.ends i d (omega arith) (omega arith) in
    let grown : AreAllKept spans memory (i + 1) (take i memory ++ r ∷ []) 0 =
    all_kept_more spans memory i (take i memory) (take i memory ++ r ∷ []) 0 0 d are (omega arith) before
    (places_push (take i memory) r ∙ ap (λ (xs : List ℕ). memory_places (take i memory) ++ xs) (sym (pass_all (λ a. not (is_inside spans a)) r.0 r.1 one.from_multiple (λ a m n o. rw (out a m n o) refl))))
    (ranges_push (take i memory) r before.ranges end one)
    (each_push (λ (s : ℕ × ℕ). s.1 ≤ r.1) (take i memory) r (end_later r.0 r.1 (take i memory) (let s = one.some in omega arith) end) (omega arith))
    (sym (ap length (pass_none (is_inside spans) r.0 r.1 one.from_multiple out)))
    (omega arith) in
    let next : i + 1 ≡ suc i = omega arith in
    subst (λ (n : ℕ). AreAllKept spans memory n (take n memory) 0) next (subst (λ (rs : List (ℕ × ℕ)). AreAllKept spans memory (i + 1) rs 0) (sym more) grown)

-- ---- spans with the same addresses

list_all_same : (p q : ℕ → Bool) (xs : List ℕ) → ((a : ℕ) → p a ≡ q a) → list_all p xs ≡ list_all q xs
list_all_same p q [] h = refl
list_all_same p q (x ∷ xs) h = rw (h x, list_all_same p q xs h) refl

pub inside_same : (spans others : List Span) (a : ℕ) → CoverSame spans others → is_inside spans a ≡ is_inside others a
inside_same spans others a same = list_all_same (is_covered spans) (is_covered others) (range_with_len a 8) same

pub filter_alike : (p q : ℕ → Bool) (xs : List ℕ) → ((a : ℕ) → p a ≡ q a) → filter p xs ≡ filter q xs
filter_alike p q [] h = refl
filter_alike p q (x ∷ xs) h = rw (h x, filter_alike p q xs h) refl

-- ---- spans with the same addresses outside the blocks

range_same : (p q : ℕ → Bool) (from n : ℕ) → ((a : ℕ) → from ≤ a → a < from + n → p a ≡ q a) → list_all p (range_with_len from n) ≡ list_all q (range_with_len from n)
range_same p q from zero h = refl
range_same p q from (suc n) h = rw (h from (omega arith) (omega arith), range_same p q (from + 1) n (λ a l m. h a (omega arith) (omega arith))) refl

both_pass : (s t : Bool) → (s && t) ≡ true → (s ≡ true) × (t ≡ true)
both_pass true true e = (refl, refl)
both_pass true false e = absurd (true≢false (sym e))
both_pass false t e = absurd (true≢false (sym e))

-- a byte of what is apart from a block is none of the block's
apart_byte : (a b : ℕ) (c : Block) → is_apart a c ≡ true → a ≤ b → b < a + 8 → has_byte b c ≡ false
apart_byte a b c h l m =
    elim (cases_lt b c.start) [
      | inl before ↦ rw (lt-leb c.start b before) refl
      | inr from ↦ elim (cases_lt b (c.start + c.size)) [
        | inl within ↦ absurd (true≢false (sym h ∙ ap not (lt-ltb (max a c.start) (min (a + 8) (c.start + c.size)) (omega arith))))
        | inr behind ↦ rw (le-ltb b (c.start + c.size) behind) (and-false (leb c.start b))
      ]
    ]

apart_bytes : (a b : ℕ) (blocks : List Block) → list_all (is_apart a) blocks ≡ true → a ≤ b → b < a + 8 → list_any (has_byte b) blocks ≡ false
apart_bytes a b [] h l m = refl
apart_bytes a b (c ∷ blocks) h l m =
    let each = both_pass (is_apart a c) (list_all (is_apart a) blocks) h in
    rw (apart_byte a b c each.0 l m) (apart_bytes a b blocks each.1 l m)

pub inside_same_outside : (blocks : List Block) (spans others : List Span) (a : ℕ) → CoverSameOutside blocks spans others → list_all (is_apart a) blocks ≡ true → is_inside spans a ≡ is_inside others a
inside_same_outside blocks spans others a same apart = range_same (is_covered spans) (is_covered others) a 8 (λ b l m. same b (apart_bytes a b blocks apart l m))

filter_alike_of : (p q r : ℕ → Bool) (xs : List ℕ) → ((a : ℕ) → r a ≡ true → p a ≡ q a) → filter p (filter r xs) ≡ filter q (filter r xs)
filter_alike_of p q r [] h = refl
filter_alike_of p q r (x ∷ xs) h = go (r x) refl (filter_alike_of p q r xs h)
  where
    go : (t : Bool) → r x ≡ t → filter p (filter r xs) ≡ filter q (filter r xs) → filter p (cond t (x ∷ filter r xs) (filter r xs)) ≡ filter q (cond t (x ∷ filter r xs) (filter r xs))
    go true e rest = rw (h x e, rest) refl
    go false e rest = rest

-- tests that agree on what is apart from the blocks pass the same places outside them
alike_outside : (p q : ℕ → Bool) (file : List ℕ) (blocks : List Block) (segments : List Segment) → ((a : ℕ) → list_all (is_apart a) blocks ≡ true → p a ≡ q a)
    → filter p (flat_map (outside_places_in file blocks) segments) ≡ filter q (flat_map (outside_places_in file blocks) segments)
alike_outside p q file blocks [] h = refl
alike_outside p q file blocks (s ∷ segments) h =
    let here = outside_places_in file blocks s in
    let others = flat_map (outside_places_in file blocks) segments in
    filter-append p here others
    ∙ ap (λ (xs : List ℕ). xs ++ filter p others) (filter_alike_of p q (λ a. is_some (word_of file a) && list_all (is_apart a) blocks) (places s.vaddr (s.vaddr + s.filesz)) (λ a e. h a (both_pass (is_some (word_of file a)) (list_all (is_apart a) blocks) e).1))
    ∙ ap (λ (xs : List ℕ). filter q here ++ xs) (alike_outside p q file blocks segments h)
    ∙ sym (filter-append q here others)

pub filter_outside : (p q : ℕ → Bool) (unwritable : Bool) (file : List ℕ) (blocks : List Block) → ((a : ℕ) → list_all (is_apart a) blocks ≡ true → p a ≡ q a) → filter p (outside_places unwritable file blocks) ≡ filter q (outside_places unwritable file blocks)
unfolding outside_places
filter_outside p q unwritable file blocks h = alike_outside p q file blocks (filter (has_roots unwritable) (segments_of file)) h

-- ---- no spans

pub no_spans_inside : (spans : List Span) (a : ℕ) → length spans ≡ 0 → is_inside spans a ≡ false
unfolding is_covered
no_spans_inside [] a h = refl
no_spans_inside (s ∷ spans) a h = absurd (omega arith)

filter_whole : (p : ℕ → Bool) (xs : List ℕ) → ((a : ℕ) → p a ≡ true) → filter p xs ≡ xs
filter_whole p [] h = refl
filter_whole p (x ∷ xs) h = rw (h x) (ap (λ (ys : List ℕ). x ∷ ys) (filter_whole p xs h))

filter_empty : (p : ℕ → Bool) (xs : List ℕ) → ((a : ℕ) → p a ≡ false) → filter p xs ≡ []
filter_empty p [] h = refl
filter_empty p (x ∷ xs) h = rw (h x) (filter_empty p xs h)

pub none_left_out : (spans : List Span) (places : List ℕ) → length spans ≡ 0 → places ≡ filter (λ a. not (is_inside spans a)) places
none_left_out spans places none = sym (filter_whole (λ a. not (is_inside spans a)) places (λ a. ap not (no_spans_inside spans a none)))

pub none_counted : (spans : List Span) (places : List ℕ) → length spans ≡ 0 → 0 ≡ length (filter (is_inside spans) places)
none_counted spans places none = sym (ap length (filter_empty (is_inside spans) places (λ a. no_spans_inside spans a none)))
