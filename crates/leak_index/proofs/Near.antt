-- Only the last two blocks that begin at a word or before it can be led to.
use Rattle.std.proofs.Common.{◌≡◌, ℕ, zero, suc, ◌+◌, ◌-◌, ◌<◌, ◌≤◌, Bool, true, false, ◌&&◌, ◌||◌, ◌==◌, refl, ap, sym, ◌∙◌, subst, max, List, [], ◌∷◌, length, slice_index_or, arith, nat_le, nat_lt, ltb→lt, nltb→le, if◌then◌else◌, Option, None, Some, ◌⊎◌, inl, inr}
use Rattle.std.proofs.lemmas.Bool.{le-leb, le-ltb, lt-leb, lt-ltb}
use Rattle.std.specs.Bool.{passes, fails}
use Rattle.std.specs.List.{AllByRecursion, list_any}
use Rattle.std.specs.List.Sorted.{IsNonDecreasingBy}
use Rattle.leak_blocks.specs.declared.block.Block.{Block}
use Rattle.leak_blocks.specs.Span.{AreDisjoint, span_end}
use Rattle.leak_index.specs.Bounds.{AreWithin, IsCountUpTo}
use Rattle.leak_index.specs.Hits.{hits_from}
use Rattle.leak_index.specs.Leads.{Distances, leads, allows, is_up_to_end}
use Rattle.leak_index.specs.AddressPlaces.{IsOnlyStart}

-- by which of two numbers is greater
pub either : (a b : ℕ) (P : Type 0) → (a < b → P) → (b ≤ a → P) → P
either a b P low high = go (nat_lt a b) refl
  where
    go : (t : Bool) → nat_lt a b ≡ t → P
    go true e = low (ltb→lt _ _ (passes _ e))
    go false e = high (nltb→le _ _ (fails _ e))

-- ---- blocks that are not led to

before_start : (r : Distances) (w : ℕ) (b : Block) → w < b.start → leads r w b ≡ false
before_start r w b h = ap (λ t. t && is_up_to_end r.skips_ends w b && allows r.listed (w - b.start)) (lt-leb b.start w h)

and_false : (x y : Bool) → y ≡ false → (x && y) ≡ false
and_false true y h = h
and_false false y h = refl

past_end : (s : Bool) (w : ℕ) (b : Block) → b.start + b.size < w → is_up_to_end s w b ≡ false
past_end false w b h = lt-leb w (b.start + b.size) h
past_end true w b h = le-ltb w (b.start + max b.size 1) (omega (arith, h))

behind_end : (r : Distances) (w : ℕ) (b : Block) → b.start + b.size < w → leads r w b ≡ false
behind_end r w b h = ap (λ t. t && allows r.listed (w - b.start)) (and_false (nat_le b.start w) (is_up_to_end r.skips_ends w b) (past_end r.skips_ends w b h))

skipped : (n : ℕ) (r : Distances) (b : Block) (bs : List Block) (w : ℕ) → leads r w b ≡ false → hits_from n r (b ∷ bs) w ≡ hits_from (n + 1) r bs w
skipped n r b bs w h = ap (λ t. if t then n ∷ hits_from (n + 1) r bs w else hits_from (n + 1) r bs w) h

-- none of a list, if each begins after the word
pub none_below : (n : ℕ) (r : Distances) (bs : List Block) (w : ℕ) → AllByRecursion (λ b. w < b.start) bs → hits_from n r bs w ≡ []
none_below n r [] w h = refl
none_below n r (b ∷ bs) w h = skipped n r b bs w (before_start r w b h.0) ∙ none_below (n + 1) r bs w h.1

-- none of a list, if each ends before the word
pub none_above : (n : ℕ) (r : Distances) (bs : List Block) (w : ℕ) → AllByRecursion (λ b. b.start + b.size < w) bs → hits_from n r bs w ≡ []
none_above n r [] w h = refl
none_above n r (b ∷ bs) w h = skipped n r b bs w (behind_end r w b h.0) ∙ none_above (n + 1) r bs w h.1

-- each of a list that begins at `low` or after it begins after a word below
pub all_behind : (low w : ℕ) (bs : List Block) → w < low → AllByRecursion (λ b. low ≤ b.start) bs → AllByRecursion (λ b. w < b.start) bs
all_behind low w [] h above = tt
all_behind low w (b ∷ bs) h above = (omega (arith, above.0), all_behind low w bs h above.1)

-- each of a list that ends at `high` or before it ends before a word above
pub all_before : (high w : ℕ) (bs : List Block) → high < w → AllByRecursion (λ b. b.start + b.size ≤ high) bs → AllByRecursion (λ b. b.start + b.size < w) bs
all_before high w [] h below = tt
all_before high w (b ∷ bs) h below = (omega (arith, below.0), all_before high w bs h below.1)

-- ---- by number

-- the others begin after the word, by number
by_number : (w : ℕ) (bs : List Block) → ((k : ℕ) (d : Block) → k < length bs → w < (slice_index_or bs k d).start) → AllByRecursion (λ b. w < b.start) bs
by_number w [] h = tt
by_number w (b ∷ bs) h = (h 0 b (omega arith), by_number w bs (λ k d l. h (suc k) d (omega (arith, l))))

pub at_number : (P : Block → Type 0) (bs : List Block) (k : ℕ) (d : Block) → AllByRecursion P bs → k < length bs → P (slice_index_or bs k d)
at_number P [] k d all h = absurd (omega (arith, h))
at_number P (b ∷ bs) zero d all h = all.0
at_number P (b ∷ bs) (suc k) d all h = at_number P bs k d all.1 (omega (arith, h))

-- blocks that are apart ascend by start
pub ascending : (bs : List Block) → AreDisjoint bs → IsNonDecreasingBy (λ (b : Block). b.start) bs
ascending [] apart i j d h l = absurd (omega (arith, l))
ascending (b ∷ bs) apart zero zero d h l = omega arith
ascending (b ∷ bs) apart zero (suc j) d h l = let e : span_end b ≤ (slice_index_or bs j d).start = at_number (λ c. span_end b ≤ c.start) bs j d apart.0 (omega (arith, l)) in omega arith
ascending (b ∷ bs) apart (suc i) zero d h l = absurd (omega (arith, h))
ascending (b ∷ bs) apart (suc i) (suc j) d h l = ascending bs apart.1 i j d (omega (arith, h)) (omega (arith, l))

-- ---- the last two

-- the numbers of two blocks, each if the word leads to it
abbrev pub near : Bool → Bool → ℕ → ℕ → List ℕ
near true true i j = i ∷ j ∷ []
near true false i j = i ∷ []
near false true i j = j ∷ []
near false false i j = []

two_of : (n : ℕ) (r : Distances) (b c : Block) (bs : List Block) (w : ℕ) → hits_from (n + 1 + 1) r bs w ≡ [] → hits_from n r (b ∷ c ∷ bs) w ≡ near (leads r w b) (leads r w c) n (n + 1)
two_of n r b c bs w h = go (leads r w b) (leads r w c) (hits_from (n + 1 + 1) r bs w) h
  where
    go : (t u : Bool) (xs : List ℕ) → xs ≡ [] → (if t then n ∷ (if u then (n + 1) ∷ xs else xs) else (if u then (n + 1) ∷ xs else xs)) ≡ near t u n (n + 1)
    go true true xs e = ap (λ ys. n ∷ (n + 1) ∷ ys) e
    go true false xs e = ap (λ ys. n ∷ ys) e
    go false true xs e = ap (λ ys. (n + 1) ∷ ys) e
    go false false xs e = e

near_from : (n : ℕ) (r : Distances) (bs : List Block) (w m q i count : ℕ) (d : Block) → AreDisjoint bs → IsCountUpTo bs w count → count ≡ m + 2 → q ≡ m + 1 → i ≡ n + m →
    hits_from n r bs w ≡ near (leads r w (slice_index_or bs m d)) (leads r w (slice_index_or bs q d)) i (i + 1)
near_from n r [] w m q i count d apart up e f g = absurd (omega (arith, up.bound))
near_from n r (b ∷ []) w m q i count d apart up e f g = absurd (omega (arith, up.bound))
near_from n r (b ∷ c ∷ bs) w zero q i count d apart up e f g =
    let none = none_below (n + 1 + 1) r bs w (by_number w bs (λ k a l. up.beyond (suc (suc k)) a (omega (arith, e)) (omega (arith, l)))) in
    let one : 1 ≡ q = omega (arith, f) in
    let first : n ≡ i = omega (arith, g) in
    subst (λ (k : ℕ). hits_from n r (b ∷ c ∷ bs) w ≡ near (leads r w b) (leads r w (slice_index_or (b ∷ c ∷ bs) k d)) i (i + 1)) one
    (subst (λ (k : ℕ). hits_from n r (b ∷ c ∷ bs) w ≡ near (leads r w b) (leads r w c) k (k + 1)) first (two_of n r b c bs w none))
near_from n r (b ∷ c ∷ []) w (suc m) q i count d apart up e f g = absurd (omega (arith, up.bound))
near_from n r (b ∷ c ∷ x ∷ bs) w (suc m) zero i count d apart up e f g = absurd (omega (arith, f))
near_from n r (b ∷ c ∷ x ∷ bs) w (suc m) (suc q) i count d apart up e f g =
    let first : span_end b ≤ c.start = apart.0.0 in
    let second : span_end c ≤ x.start = apart.1.0.0 in
    let third : x.start ≤ w = up.within 2 d (omega arith) in
    let others : IsCountUpTo (c ∷ x ∷ bs) w (count - 1) = record {
      bound = omega (arith, up.bound);
      within = λ k a l. up.within (suc k) a (omega (arith, l));
      beyond = λ k a l h. up.beyond (suc k) a (omega (arith, l)) (omega (arith, h));
    } in
    skipped n r b (c ∷ x ∷ bs) w (behind_end r w b (omega arith))
    ∙ near_from (n + 1) r (c ∷ x ∷ bs) w m q i (count - 1) d apart.1 others (omega (arith, e)) (omega (arith, f)) (omega (arith, g))

-- none begins at the word or before it
pub found_none : (r : Distances) (bs : List Block) (w : ℕ) → IsCountUpTo bs w 0 → [] ≡ hits_from 0 r bs w
found_none r bs w up = sym (none_below 0 r bs w (by_number w bs (λ k d h. up.beyond k d (omega arith) h)))

-- one does
pub found_one : (r : Distances) (bs : List Block) (w count : ℕ) (d : Block) (t : Bool) → IsCountUpTo bs w count → ¬ (count ≡ 0) → count - 1 ≡ 0 → t ≡ leads r w (slice_index_or bs (count - 1) d) → near false t 0 0 ≡ hits_from 0 r bs w
found_one r [] w count d t up some one e = absurd (some (omega (arith, up.bound)))
found_one r (b ∷ bs) w count d t up some one e =
    let led : t ≡ leads r w b = rw one at e in
    subst (λ (u : Bool). near false t 0 0 ≡ (if u then 0 ∷ hits_from 1 r bs w else hits_from 1 r bs w)) led
    (go t (hits_from 1 r bs w) (none_below 1 r bs w (by_number w bs (λ k a l. up.beyond (suc k) a (omega arith) (omega (arith, l))))))
  where
    go : (u : Bool) (xs : List ℕ) → xs ≡ [] → near false u 0 0 ≡ (if u then 0 ∷ xs else xs)
    go true xs h = ap (λ ys. 0 ∷ ys) (sym h)
    go false xs h = sym h

-- two or more do
pub found_two : (r : Distances) (bs : List Block) (w count : ℕ) (d : Block) (t u : Bool) → AreDisjoint bs → IsCountUpTo bs w count → 2 ≤ count →
    t ≡ leads r w (slice_index_or bs (count - 1 - 1) d) → u ≡ leads r w (slice_index_or bs (count - 1) d) → near t u (count - 1 - 1) (count - 1) ≡ hits_from 0 r bs w
found_two r bs w count d t u apart up h et eu =
    let next : count - 1 - 1 + 1 ≡ count - 1 = omega arith in
    let all = near_from 0 r bs w (count - 1 - 1) (count - 1) (count - 1 - 1) count d apart up (omega arith) (omega arith) (omega arith) in
    sym (all ∙ rw (next, ← et, ← eu) refl)

-- ---- the start of a block

-- each reading lets a word lead to the block that begins at it
allows_start : (r : Option (List ℕ)) (distance : ℕ) → distance ≡ 0 → allows r distance ≡ true
allows_start None distance is = refl
allows_start (Some listed) distance is = ap (λ n. (n == 0) || list_any (λ d. d == distance) listed) is

start_counts : (s : Bool) (w : ℕ) (b : Block) → b.start ≡ w → is_up_to_end s w b ≡ true
start_counts false w b is = le-leb w (b.start + b.size) (omega (arith, is))
start_counts true w b is = lt-ltb w (b.start + max b.size 1) (omega (arith, is))

leads_start : (r : Distances) (w : ℕ) (b : Block) → b.start ≡ w → leads r w b ≡ true
leads_start r w b is =
    ap (λ t. t && is_up_to_end r.skips_ends w b && allows r.listed (w - b.start)) (le-leb b.start w (omega (arith, is)))
    ∙ ap (λ t. t && allows r.listed (w - b.start)) (start_counts r.skips_ends w b is)
    ∙ allows_start r.listed (w - b.start) (omega (arith, is))

-- the blocks after it begin after the word
start_past : (w : ℕ) (b : Block) (bs : List Block) → b.start ≡ w → AllByRecursion (λ c. span_end b ≤ c.start) bs → AllByRecursion (λ c. w < c.start) bs
start_past w b [] is all = tt
start_past w b (c ∷ bs) is all = (omega (arith, is, all.0), start_past w b bs is all.1)

only_from : (n : ℕ) (r : Distances) (bs : List Block) (w number : ℕ) → AreDisjoint bs → IsOnlyStart bs w number → hits_from n r bs w ≡ (n + number) ∷ []
only_from n r [] w number apart only = absurd (omega (arith, only.inside))
only_from n r (b ∷ bs) w zero apart only =
    ap (λ t. if t then n ∷ hits_from (n + 1) r bs w else hits_from (n + 1) r bs w) (leads_start r w b (only.here b))
    ∙ ap (λ xs. n ∷ xs) (none_below (n + 1) r bs w (start_past w b bs (only.here b) apart.0))
    ∙ ap (λ k. k ∷ []) (omega arith)
only_from n r (b ∷ bs) w (suc number) apart only =
    let others : IsOnlyStart bs w number = record {
      inside = omega (arith, only.inside);
      here = λ d. only.here d;
      before = λ k d h. only.before (suc k) d (omega (arith, h));
    } in
    skipped n r b bs w (behind_end r w b (only.before 0 b (omega arith)))
    ∙ only_from (n + 1) r bs w number apart.1 others
    ∙ ap (λ k. k ∷ []) (omega arith)

-- a word at the start of a block leads to it alone, if each block before it ends before the word
pub found_only : (r : Distances) (bs : List Block) (w number : ℕ) → AreDisjoint bs → IsOnlyStart bs w number → number ∷ [] ≡ hits_from 0 r bs w
found_only r bs w number apart only =
    let none : 0 + number ≡ number = omega arith in
    sym (only_from 0 r bs w number apart only ∙ ap (λ k. k ∷ []) none)

-- ---- bounds

from_number : (P : Block → Type 0) (bs : List Block) → ((k : ℕ) (d : Block) → k < length bs → P (slice_index_or bs k d)) → AllByRecursion P bs
from_number P [] h = tt
from_number P (b ∷ bs) h = (h 0 b (omega arith), from_number P bs (λ k d l. h (suc k) d (omega (arith, l))))

-- each ends where a later one begins, or before that
pub ends_before : (bs : List Block) (i j : ℕ) (d : Block) → AreDisjoint bs → i < j → j < length bs → span_end (slice_index_or bs i d) ≤ (slice_index_or bs j d).start
ends_before [] i j d apart h l = absurd (omega (arith, l))
ends_before (b ∷ bs) i zero d apart h l = absurd (omega (arith, h))
ends_before (b ∷ bs) zero (suc j) d apart h l = at_number (λ c. span_end b ≤ c.start) bs j d apart.0 (omega (arith, l))
ends_before (b ∷ bs) (suc i) (suc j) d apart h l = ends_before bs i j d apart.1 (omega (arith, h)) (omega (arith, l))

-- the first start and the last end are bounds
pub bounds : (bs : List Block) (d : Block) → AreDisjoint bs → 0 < length bs →
    AreWithin bs (slice_index_or bs 0 d).start ((slice_index_or bs (length bs - 1) d).start + (slice_index_or bs (length bs - 1) d).size)
bounds bs d apart some = record {
  disjoint = apart;
  above = from_number (λ b. (slice_index_or bs 0 d).start ≤ b.start) bs (λ k e h. let up = ascending bs apart 0 k e (omega arith) h in subst (λ (b : Block). b.start ≤ (slice_index_or bs k e).start) (get_any bs 0 e d some) up);
  below = from_number (λ b. b.start + b.size ≤ (slice_index_or bs (length bs - 1) d).start + (slice_index_or bs (length bs - 1) d).size) bs (λ k e h. under k e h (le_cases k (length bs - 1) (omega arith)));
}
  where
    get_any : (xs : List Block) (k : ℕ) (e f : Block) → k < length xs → slice_index_or xs k e ≡ slice_index_or xs k f
    get_any [] k e f h = absurd (omega (arith, h))
    get_any (x ∷ xs) zero e f h = refl
    get_any (x ∷ xs) (suc k) e f h = get_any xs k e f (omega (arith, h))

    le_cases : (j k : ℕ) → j ≤ k → (j < k) ⊎ (j ≡ k)
    le_cases j k h = cases (nat_lt j k) refl
      where
        cases : (t : Bool) → nat_lt j k ≡ t → (j < k) ⊎ (j ≡ k)
        cases true e = inl (ltb→lt _ _ (passes _ e))
        cases false e = let f : k ≤ j = nltb→le _ _ (fails _ e) in inr (omega arith)

    under : (k : ℕ) (e : Block) → k < length bs → (k < length bs - 1) ⊎ (k ≡ length bs - 1) → (slice_index_or bs k e).start + (slice_index_or bs k e).size ≤ (slice_index_or bs (length bs - 1) d).start + (slice_index_or bs (length bs - 1) d).size
    under k e h (inl l) =
        let past : span_end (slice_index_or bs k d) ≤ (slice_index_or bs (length bs - 1) d).start = ends_before bs k (length bs - 1) d apart l (omega arith) in
        subst (λ (b : Block). b.start + b.size ≤ (slice_index_or bs (length bs - 1) d).start + (slice_index_or bs (length bs - 1) d).size) (get_any bs k d e h) (omega arith)
    under k e h (inr q) =
        subst (λ (b : Block). b.start + b.size ≤ (slice_index_or bs (length bs - 1) d).start + (slice_index_or bs (length bs - 1) d).size) (get_any bs k d e h)
        (subst (λ (j : ℕ). (slice_index_or bs j d).start + (slice_index_or bs j d).size ≤ (slice_index_or bs (length bs - 1) d).start + (slice_index_or bs (length bs - 1) d).size) (sym q) (omega arith))

-- no block needs none
pub no_bounds : (bs : List Block) (low high : ℕ) → length bs ≡ 0 → AreWithin bs low high
no_bounds [] low high h = record { disjoint = tt; above = tt; below = tt }
no_bounds (b ∷ bs) low high h = absurd (omega (arith, h))
