-- Listed pages.
use Rattle.std.proofs.Common.{◌≡◌, ℕ, zero, suc, ◌+◌, ◌-◌, ◌*◌, ◌/◌, ◌<◌, ◌≤◌, Bool, true, false, ◌||◌, refl, ap, sym, ◌∙◌, List, [], ◌∷◌, length, slice_index_or, slice_index, ◌==◌, eqb→eq, true≢false, nat_lt, ltb→lt, nltb→le, ◌⊎◌, inl, inr, max, min, ◌%◌, ◌^◌, arith}
use Rattle.std.proofs.lemmas.Bool.{eq-eqb, ne_eqb, cases_lt}
use Rattle.std.proofs.lemmas.List.Sorted.{IsNonDecreasingBy-from_all_adjacent}
use Rattle.std.specs.Bool.{passes, fails}
use Rattle.std.specs.List.Sorted.{IsStrictlyIncreasing, IsNonDecreasingBy}
use Rattle.leak_scan.specs.Targets.{is_listed, is_on}
use Rattle.leak_scan.specs.Windows.{IsCountBelow, IsWindowAt}

-- a number of the list is listed
pub listed_at : (numbers : List ℕ) (k page d : ℕ) → k < length numbers → slice_index_or numbers k d ≡ page → is_listed numbers page ≡ true
listed_at [] k page d h e = absurd (omega (arith, h))
listed_at (n ∷ ns) zero page d h e = ap (λ t. t || is_listed ns page) (eq-eqb n page e)
listed_at (n ∷ ns) (suc k) page d h e = behind (n == page) (listed_at ns k page d (omega (arith, h)) e)
  where
    behind : (t : Bool) → is_listed ns page ≡ true → (t || is_listed ns page) ≡ true
    behind true r = refl
    behind false r = r

-- a page that differs from each number is not
pub not_listed : (numbers : List ℕ) (page : ℕ) → ((k : ℕ) (d : ℕ) → k < length numbers → slice_index_or numbers k d ≡ page → ⊥) → is_listed numbers page ≡ false
not_listed [] page h = refl
not_listed (n ∷ ns) page h = ap (λ t. t || is_listed ns page) (ne_eqb n page (h 0 n (omega arith))) ∙ not_listed ns page (λ k d l. h (suc k) d (omega (arith, l)))

get_any : (xs : List ℕ) (k d e : ℕ) → k < length xs → slice_index_or xs k d ≡ slice_index_or xs k e
get_any [] k d e h = absurd (omega (arith, h))
get_any (x ∷ xs) zero d e h = refl
get_any (x ∷ xs) (suc k) d e h = get_any xs k d e (omega (arith, h))

pub ascending : (numbers : List ℕ) → IsStrictlyIncreasing numbers → IsNonDecreasingBy (λ n. n) numbers
ascending numbers up = IsNonDecreasingBy-from_all_adjacent (λ n. n) numbers (λ k d h.
    let here : slice_index_or numbers k d ≡ slice_index numbers k = get_any numbers k d 0 (omega arith) in
    let next : slice_index_or numbers (k + 1) d ≡ slice_index numbers (k + 1) = get_any numbers (k + 1) d 0 (omega arith) in
    omega (arith, up k h))

-- ---- the first listed page

-- a page with this many numbers below it is listed if the next number is the page
pub listed_here : (numbers : List ℕ) (page count d : ℕ) → IsStrictlyIncreasing numbers → IsCountBelow numbers page count → count < length numbers → is_listed numbers page ≡ (slice_index_or numbers count d == page)
listed_here numbers page count d up below h = cases (slice_index_or numbers count d == page) refl
  where
    at_least : (k a : ℕ) → slice_index_or numbers k a ≡ page → count ≤ k
    at_least k a same = test (nat_lt k count) refl
      where
        test : (t : Bool) → nat_lt k count ≡ t → count ≤ k
        test true e = let low : slice_index_or numbers k a < page = below.below k a (ltb→lt _ _ (passes _ e)) in absurd (omega arith)
        test false e = nltb→le _ _ (fails _ e)

    cases : (t : Bool) → (slice_index_or numbers count d == page) ≡ t → is_listed numbers page ≡ t
    cases true e = listed_at numbers count page d h (eqb→eq _ _ (passes _ e))
    cases false e = not_listed numbers page (λ k a l same.
        let first : page ≤ slice_index_or numbers count d = below.others count d (omega arith) h in
        let away : slice_index_or numbers count d ≡ page → ⊥ = λ f. true≢false (sym (eq-eqb _ _ f) ∙ e) in
        let at : count ≤ k = at_least k a same in
        let later : slice_index_or numbers count d ≤ slice_index_or numbers k d = ascending numbers up count k d at l in
        let any = get_any numbers k d a l in
        away (omega arith))

-- no page from the one on is listed if all numbers are below it
pub listed_nowhere : (numbers : List ℕ) (page count : ℕ) → IsCountBelow numbers page count → length numbers ≤ count → (other : ℕ) → page ≤ other → is_listed numbers other ≡ false
listed_nowhere numbers page count up h other l = not_listed numbers other (λ k d z e. let low : slice_index_or numbers k d < page = up.below k d (omega arith) in omega arith)

-- the page of the first number that is not below the page of an address
pub window_at : (numbers : List ℕ) (from count d start : ℕ) → IsStrictlyIncreasing numbers → IsCountBelow numbers (from / 4096) count → count < length numbers →
    start ≡ max from (min (slice_index_or numbers count d * 4096) 18446744073709551615) → from < 2 ^ 64 → IsWindowAt numbers from start (4096 - start % 4096)
window_at numbers from count d start up below h e high = record {
  behind = omega arith;
  here = begins (cases_lt (slice_index_or numbers count d * 4096) (2 ^ 64));
  none = λ a l u. not_listed numbers (a / 4096) (λ k b z same. before a l u k b z same (cases_lt k count));
  some = omega arith;
  all = λ a l u z. listed_at numbers count (a / 4096) d h (here a l u z (cases_lt (slice_index_or numbers count d * 4096) (2 ^ 64)));
}
  where
    first : from / 4096 ≤ slice_index_or numbers count d
    first = below.others count d (omega arith) h

    begins : (slice_index_or numbers count d * 4096 < 2 ^ 64) ⊎ (2 ^ 64 ≤ slice_index_or numbers count d * 4096) → (is_on numbers start ≡ true) ⊎ (start + 1 ≡ 2 ^ 64)
    begins (inl low) = inl (listed_at numbers count (start / 4096) d h (let least = first in omega (arith, low)))
    begins (inr past) = inr (omega (arith, past))

    before : (a : ℕ) → from ≤ a → a < start → (k b : ℕ) → k < length numbers → slice_index_or numbers k b ≡ a / 4096 → (k < count) ⊎ (count ≤ k) → ⊥
    before a l u k b z same (inl low) = let less : slice_index_or numbers k b < from / 4096 = below.below k b low in omega (arith, l, same)
    before a l u k b z same (inr later) =
        let more : slice_index_or numbers count d ≤ slice_index_or numbers k d = ascending numbers up count k d later z in
        let any : slice_index_or numbers k d ≡ slice_index_or numbers k b = get_any numbers k d b z in
        let cut : a < slice_index_or numbers count d * 4096 = omega (arith, l, u) in
        let page : a / 4096 < slice_index_or numbers count d = omega arith in
        omega (arith, same)

    here : (a : ℕ) → start ≤ a → a < start + (4096 - start % 4096) → a % 8 ≡ 0 → (slice_index_or numbers count d * 4096 < 2 ^ 64) ⊎ (2 ^ 64 ≤ slice_index_or numbers count d * 4096) → slice_index_or numbers count d ≡ a / 4096
    here a l u z (inl low) =
        let least = first in
        let same : a / 4096 ≡ start / 4096 = omega (arith, l, u) in
        let page : start / 4096 ≡ slice_index_or numbers count d = omega (arith, low) in
        omega arith
    here a l u z (inr past) =
        let last : start ≡ 18446744073709551615 = omega (arith, past) in
        let same : a ≡ 18446744073709551615 = omega (arith, l, u) in
        absurd (omega (arith, z))
