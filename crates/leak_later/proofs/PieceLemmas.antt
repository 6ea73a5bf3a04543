-- Pieces of pages.
use Rattle.std.proofs.Common.{◌≡◌, ℕ, zero, suc, ◌+◌, ◌-◌, ◌*◌, ◌<◌, ◌≤◌, Bool, true, false, cond, refl, sym, subst, ap, ◌∙◌, List, [], ◌∷◌, ◌++◌, filter, flat_map, arith, append-nil, append_assoc, if◌then◌else◌, ⊎_elim, ◌^◌, Option, None, nat_lt, ltb→lt, nltb→le, map, Vec, Global, Bor, Ok, Err}
use Rattle.std.specs.Prelude.{IfOk}
use Rattle.std.specs.Result.{MatchResult}
use Rattle.std.specs.declared.result.Result.{Result}
use Rattle.std.specs.declared.alloc.AllocError.{AllocError}
use Rattle.std.specs.Bool.{passes, fails}
use Rattle.std.specs.List.{range_with_len, All, AllZip}
use Rattle.std.proofs.lemmas.List.Elements.{filter-append}
use Rattle.rayon.specs.Shown.{run-append}
use Rattle.leak_marks.specs.Lists.{Has}
use Rattle.leak_marks.proofs.ListLemmas.{none_has, has_front, has_back, of_append}
use Rattle.leak_marks.proofs.ElementLemmas.{has_filter, of_filter, has_range}
use Rattle.leak_later.specs.Differing.{differs, AreDiffering}
use Rattle.leak_later.specs.Pieces.{IsCover}
use Rattle.leak_later.proofs.NumberLemmas.{Rises, rises_lower, increasing}
use Rattle.leak_later.proofs.DifferLemmas.{has_word}

-- ---- the pages of a piece that pass

filter_next : (p : ℕ → Bool) (a n : ℕ) → filter p (range_with_len a (suc n)) ≡ filter p (range_with_len a n) ++ (if p (a + n) then (a + n) ∷ [] else [])
filter_next p a zero = ap (λ (m : ℕ). cond (p m) (m ∷ []) []) (let e : a ≡ a + 0 = omega arith in e)
filter_next p a (suc n) = go (p a)
    (filter_next p (a + 1) n ∙ ap (λ (m : ℕ). filter p (range_with_len (a + 1) n) ++ (if p m then m ∷ [] else [])) (let e : a + 1 + n ≡ a + suc n = omega arith in e))
  where
    go : (t : Bool) → filter p (range_with_len (a + 1) (suc n)) ≡ filter p (range_with_len (a + 1) n) ++ (if p (a + suc n) then (a + suc n) ∷ [] else []) →
        cond t (a ∷ filter p (range_with_len (a + 1) (suc n))) (filter p (range_with_len (a + 1) (suc n)))
        ≡ cond t (a ∷ filter p (range_with_len (a + 1) n)) (filter p (range_with_len (a + 1) n)) ++ (if p (a + suc n) then (a + suc n) ∷ [] else [])
    go true e = ap (λ (xs : List ℕ). a ∷ xs) e
    go false e = e

-- the list with the next page, if it passes
pub filter_more : (p : ℕ → Bool) (from n page : ℕ) (found pages longer : List ℕ) (t : Bool) → page ≡ from + n → pages ≡ found ++ filter p (range_with_len from n) → t ≡ p page →
    longer ≡ (if t then pages ++ page ∷ [] else pages) → longer ≡ found ++ filter p (range_with_len from (n + 1))
filter_more p from n page found pages longer t place so_far is e =
    e ∙ joined t
    ∙ ap (λ (xs : List ℕ). xs ++ (if t then page ∷ [] else [])) so_far
    ∙ append_assoc found (filter p (range_with_len from n)) (if t then page ∷ [] else [])
    ∙ ap (λ (u : Bool). found ++ (filter p (range_with_len from n) ++ (if u then page ∷ [] else []))) is
    ∙ ap (λ (m : ℕ). found ++ (filter p (range_with_len from n) ++ (if p m then m ∷ [] else []))) place
    ∙ ap (λ (xs : List ℕ). found ++ xs) (sym (filter_next p from n))
    ∙ ap (λ (m : ℕ). found ++ filter p (range_with_len from m)) (let z : suc n ≡ n + 1 = omega arith in z)
  where
    joined : (u : Bool) → (if u then pages ++ page ∷ [] else pages) ≡ pages ++ (if u then page ∷ [] else [])
    joined true = refl
    joined false = sym (append-nil pages)

-- the pages that pass of two stretches, one after the other
pub filter_join : (p : ℕ → Bool) (from page next : ℕ) (pages longer : List ℕ) → from ≤ page → page ≤ next → pages ≡ filter p (range_with_len from (page - from)) →
    longer ≡ pages ++ filter p (range_with_len page (next - page)) → longer ≡ filter p (range_with_len from (next - from))
filter_join p from page next pages longer low high so_far e =
    let place : page ≡ from + (page - from) = omega arith in
    let count : page - from + (next - page) ≡ next - from = omega arith in
    e ∙ ap (λ (xs : List ℕ). xs ++ filter p (range_with_len page (next - page))) so_far
    ∙ sym (filter-append p (range_with_len from (page - from)) (range_with_len page (next - page)))
    ∙ ap (λ (a : ℕ). filter p (range_with_len from (page - from) ++ range_with_len a (next - page))) place
    ∙ ap (filter p) (run-append from (page - from) (next - page))
    ∙ ap (λ (n : ℕ). filter p (range_with_len from n)) count

-- ---- the pages of pieces that cover a core's words

-- the pages of the pieces that pass
abbrev pub passing : (ℕ → Bool) → List (ℕ × ℕ) → List ℕ
passing p pieces = flat_map (λ r. filter p (range_with_len r.0 (r.1 - r.0))) pieces

range_rises : (p : ℕ → Bool) (n a low : ℕ) (xs : List ℕ) → low ≤ a → Rises (a + n) xs → Rises low (filter p (range_with_len a n) ++ xs)
range_rises p zero a low xs h r = rises_lower low (a + 0) xs (omega arith) r
range_rises p (suc n) a low xs h r = go (p a) (λ m l. range_rises p n (a + 1) m xs l (subst (λ (k : ℕ). Rises k xs) (let e : a + suc n ≡ a + 1 + n = omega arith in e) r))
  where
    go : (t : Bool) → ((m : ℕ) → m ≤ a + 1 → Rises m (filter p (range_with_len (a + 1) n) ++ xs)) → Rises low (cond t (a ∷ filter p (range_with_len (a + 1) n)) (filter p (range_with_len (a + 1) n)) ++ xs)
    go true rest = (h, rest (a + 1) (omega arith))
    go false rest = rest low (omega arith)

cover_rises : (word_at : ℕ → Option ℕ) (p : ℕ → Bool) (page : ℕ) (pieces : List (ℕ × ℕ)) → IsCover word_at page pieces → Rises page (passing p pieces)
cover_rises word_at p page [] c = tt
cover_rises word_at p page (r ∷ rs) c =
    range_rises p (r.1 - r.0) r.0 page (passing p rs) c.0
    (subst (λ (n : ℕ). Rises n (passing p rs)) (let l = c.1 in let e : r.1 ≡ r.0 + (r.1 - r.0) = omega arith in e) (cover_rises word_at p r.1 rs c.4))

passes_each : (p : ℕ → Bool) (pieces : List (ℕ × ℕ)) (x : ℕ) → Has (passing p pieces) x → p x ≡ true
passes_each p [] x h = absurd (none_has x h)
passes_each p (r ∷ rs) x h = ⊎_elim
    (λ here. (of_filter p (range_with_len r.0 (r.1 - r.0)) x here).1)
    (λ later. passes_each p rs x later)
    (of_append (filter p (range_with_len r.0 (r.1 - r.0))) (passing p rs) x h)

passes_all : (before now : ℕ → Option ℕ) (page : ℕ) (pieces : List (ℕ × ℕ)) (x : ℕ) → IsCover now page pieces → page ≤ x → differs before now x ≡ true → Has (passing (differs before now) pieces) x
passes_all before now page [] x c low d =
    let w : (a : ℕ) × (4096 * x ≤ a) × (a < 4096 * x + 4096) × (now a ≡ None → ⊥) = has_word before now x d in
    absurd (w.3 (c w.0 (let l = w.1 in omega arith)))
passes_all before now page (r ∷ rs) x c low d = go (nat_lt x r.0) refl (nat_lt x r.1) refl (λ l. passes_all before now r.1 rs x c.4 l d)
  where
    w : (a : ℕ) × (4096 * x ≤ a) × (a < 4096 * x + 4096) × (now a ≡ None → ⊥)
    w = has_word before now x d

    go : (t : Bool) → nat_lt x r.0 ≡ t → (u : Bool) → nat_lt x r.1 ≡ u → (r.1 ≤ x → Has (passing (differs before now) rs) x) → Has (passing (differs before now) (r ∷ rs)) x
    go true e u f rest = absurd (w.3 (c.3 w.0 (let l = w.1 in omega arith) (let l = w.2 in let m = ltb→lt _ _ (passes _ e) in omega arith)))
    go false e true f rest =
        let from : r.0 ≤ x = nltb→le _ _ (fails _ e) in
        let to : x < r.1 = ltb→lt _ _ (passes _ f) in
        has_front (filter (differs before now) (range_with_len r.0 (r.1 - r.0))) (passing (differs before now) rs) x
        (has_filter (differs before now) (range_with_len r.0 (r.1 - r.0)) x (has_range (r.1 - r.0) r.0 x from (omega arith)) d)
    go false e false f rest = has_back (filter (differs before now) (range_with_len r.0 (r.1 - r.0))) (passing (differs before now) rs) x (rest (nltb→le _ _ (fails _ f)))

pub are_differing : (before now : ℕ → Option ℕ) (pieces : List (ℕ × ℕ)) → IsCover now 0 pieces → AreDiffering before now (passing (differs before now) pieces)
are_differing before now pieces c = record {
  ascending = increasing 0 (passing (differs before now) pieces) (cover_rises now (differs before now) 0 pieces c);
  each = λ page. (passes_each (differs before now) pieces page, λ d. passes_all before now 0 pieces page c (omega arith) d);
}

-- ---- as the pieces are handed out

-- each piece ends by the last page
pub cover_bounds : (word_at : ℕ → Option ℕ) (page : ℕ) (pieces : List (ℕ × ℕ)) → IsCover word_at page pieces → All (λ r. r.1 ≤ 2 ^ 52) pieces
cover_bounds word_at page [] c k d h = absurd (omega arith)
cover_bounds word_at page (r ∷ rs) c zero d h = c.2
cover_bounds word_at page (r ∷ rs) c (suc k) d h = cover_bounds word_at r.1 rs c.4 k d (omega arith)

-- each list as an answer
abbrev pub oks : List (Vec ℕ Global) → List (Result (Vec ℕ Global) AllocError)
oks lists = map Ok lists

-- the lists that the pieces gave, one after the other
found_joined : (p : ℕ → Bool) (pieces : List (Bor (ℕ × ℕ))) (lists : List (Vec ℕ Global)) →
    AllZip (λ r x. IfOk x (λ v. v.items ≡ filter p (range_with_len r.now.0 (r.now.1 - r.now.0)))) pieces (oks lists) →
    flat_map (λ v. v.items) lists ≡ passing p (map (λ (r : Bor (ℕ × ℕ)). r.now) pieces)
found_joined p [] [] h = refl
found_joined p [] (v ∷ vs) h = absurd h
found_joined p (r ∷ rs) [] h = absurd h
found_joined p (r ∷ rs) (v ∷ vs) h =
    ap (λ (xs : List ℕ). xs ++ flat_map (λ l. l.items) vs) h.0
    ∙ ap (λ (xs : List ℕ). filter p (range_with_len r.now.0 (r.now.1 - r.now.0)) ++ xs) (found_joined p rs vs h.1)

pub passing_found : (p : ℕ → Bool) (pieces : List (ℕ × ℕ)) (answers : List (Bor (ℕ × ℕ))) (xs : List (Result (Vec ℕ Global) AllocError)) (result : Result (Vec (Vec ℕ Global) Global) AllocError)
    (failed : AllocError → Type 0) (found : Vec (Vec ℕ Global) Global) →
    map (λ (r : Bor (ℕ × ℕ)). r.now) answers ≡ pieces →
    AllZip (λ r x. IfOk x (λ v. v.items ≡ filter p (range_with_len r.now.0 (r.now.1 - r.now.0)))) answers xs →
    MatchResult result (λ c. (ys : List (Vec ℕ Global)) × (xs ≡ oks ys) × (c.items ≡ ys)) failed → result ≡ Ok found →
    flat_map (λ v. v.items) found.items ≡ passing p pieces
passing_found p pieces answers xs (Ok c) failed found shown each m is =
    let same : c ≡ found = cc in
    ap (λ (ls : List (Vec ℕ Global)). flat_map (λ v. v.items) ls) (sym (ap (λ v. v.items) same) ∙ m.2)
    ∙ found_joined p answers m.0 (subst (λ ys. AllZip (λ r x. IfOk x (λ v. v.items ≡ filter p (range_with_len r.now.0 (r.now.1 - r.now.0)))) answers ys) m.1 each)
    ∙ ap (passing p) shown
passing_found p pieces answers xs (Err e) failed found shown each m is = absurd (not_ok e is)
  where
    not_ok : (e : AllocError) → Err e ≡ Ok found → ⊥
    not_ok e is = cc
