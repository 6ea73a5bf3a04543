-- From numbers in the order of meeting to numbers in the order of bytes.
use Rattle.std.proofs.Common.{◌≡◌, ℕ, ◌<◌, List, [], ◌∷◌, length, map, get_or, refl, sym, ap, subst, ◌∙◌, arith}
use Rattle.std.specs.List.{All, Contains}
use Rattle.std.specs.Cmp.Lexicographic.{slice_cmp}
use Rattle.std.specs.Ordering.{nat_cmp, ordering_reverse}
use Rattle.std.proofs.lemmas.Cmp.{nat_list_cmp_total, tied_itself, ranked, by_ranked}
use Rattle.std.proofs.lemmas.List.{get_or-map, length-map}
use Rattle.std.proofs.lemmas.List.Elements.{All-head, All-tail, All-map, All-weaker}
use Rattle.std.proofs.lemmas.List.Sorted.{All-permutation}
use Rattle.std.proofs.lemmas.Map.Keys.{Less-from_sorted}
use denote.Ref.{Bor}
use Rattle.leak_report.specs.Numbered.{AreNumbered, bytes_each, text_with}
use Rattle.leak_report.specs.Meeting.{AreNumberedAsMet, IsSortOf}
use Rattle.leak_report.specs.Laws.{NumbersTell}
use Rattle.leak_report.proofs.SortLemmas.{same_texts, strictly}

-- a number and its place have one text
same_each : (texts sorted : List (List ℕ)) (places : List ℕ) (numbers : List ℕ) → map (text_with sorted) places ≡ texts → All (λ n. n < length places) numbers
    → map (text_with sorted) (map (λ n. get_or places n 0) numbers) ≡ map (text_with texts) numbers
same_each texts sorted places [] are below = refl
same_each texts sorted places (n ∷ numbers) are below =
    let first : text_with sorted (get_or places n 0) ≡ text_with texts n =
    sym (get_or-map (text_with sorted) places n 0 [] (All-head (λ n. n < length places) n numbers below)) ∙ ap (λ (ts : List (List ℕ)). text_with ts n) are in
    let rest = same_each texts sorted places numbers are (All-tail (λ n. n < length places) n numbers below) in
    ap (λ (t : List ℕ). t ∷ map (text_with sorted) (map (λ n. get_or places n 0) numbers)) first ∙ ap (λ (ts : List (List ℕ)). text_with texts n ∷ ts) rest

pub numbered : (given : List (List ℕ)) (texts sorted : List (Bor (List ℕ))) (met places new : List ℕ) → AreNumberedAsMet given (bytes_each texts) met → IsSortOf texts sorted
    → map (text_with (bytes_each sorted)) places ≡ bytes_each texts → All (λ n. n < length sorted) places → new ≡ map (λ n. get_or places n 0) met
    → AreNumbered given (bytes_each sorted) new
numbered given texts sorted met places new numbers sort are below is =
    let long : length places ≡ length (bytes_each texts) = sym (length-map places (text_with (bytes_each sorted))) ∙ ap length are in
    let inside : All (λ n. n < length places) met = All-weaker (λ n. n < length (bytes_each texts)) (λ n. n < length places) (λ n h. omega (arith, h, long)) met numbers.below in
    let whole : length (bytes_each sorted) ≡ length sorted = length-map sorted (λ (s : Bor (List ℕ)). s.now) in
    record {
      ascending = strictly texts sorted sort numbers.apart;
      each = All-permutation (Contains given) (bytes_each texts) (bytes_each sorted) (same_texts texts sorted sort) numbers.each;
      below = subst (All (λ n. n < length (bytes_each sorted))) (sym is)
          (All-map (λ n. n < length (bytes_each sorted)) (λ n. get_or places n 0) met
          (All-weaker (λ n. n < length places) (λ n. get_or places n 0 < length (bytes_each sorted)) (λ n h. omega (arith, below n 0 h, whole)) met inside));
      same = ap (map (text_with (bytes_each sorted))) is ∙ same_each (bytes_each texts) (bytes_each sorted) places met are inside ∙ numbers.same;
    }

-- places compare as their texts do
pub numbers_tell : NumbersTell
numbers_tell given texts numbers are i j h k = of_two ∙ ap (λ (t : List ℕ). slice_cmp nat_cmp t (text_with texts (get_or numbers j 0))) (text_of i h) ∙ ap (λ (t : List ℕ). slice_cmp nat_cmp (get_or given i []) t) (text_of j k)
  where
    long : length numbers ≡ length given
    long = sym (length-map numbers (text_with texts)) ∙ ap length are.same

    text_of : (i : ℕ) → i < length given → text_with texts (get_or numbers i 0) ≡ get_or given i []
    text_of i h = sym (get_or-map (text_with texts) numbers i 0 [] (omega (arith, h, long))) ∙ ap (λ (ts : List (List ℕ)). text_with ts i) are.same

    below_n : get_or numbers i 0 < length texts
    below_n = are.below i 0 (omega (arith, h, long))

    below_m : get_or numbers j 0 < length texts
    below_m = are.below j 0 (omega (arith, k, long))

    of_two : nat_cmp (get_or numbers i 0) (get_or numbers j 0) ≡ slice_cmp nat_cmp (text_with texts (get_or numbers i 0)) (text_with texts (get_or numbers j 0))
    of_two =
        by_ranked (get_or numbers i 0 < get_or numbers j 0) (get_or numbers i 0 ≡ get_or numbers j 0) (get_or numbers j 0 < get_or numbers i 0)
        (nat_cmp (get_or numbers i 0) (get_or numbers j 0)) (ranked (get_or numbers i 0) (get_or numbers j 0) _ refl)
        (λ e up. e ∙ sym (Less-from_sorted (slice_cmp nat_cmp) texts (get_or numbers i 0) (get_or numbers j 0) [] are.ascending up below_m))
        (λ e same. e ∙ sym (ap (λ (q : ℕ). slice_cmp nat_cmp (text_with texts (get_or numbers i 0)) (text_with texts q)) (sym same) ∙ tied_itself nat_list_cmp_total (text_with texts (get_or numbers i 0))))
        (λ e down. e ∙ sym (nat_list_cmp_total.antisymm (text_with texts (get_or numbers i 0)) (text_with texts (get_or numbers j 0))
        ∙ ap ordering_reverse (Less-from_sorted (slice_cmp nat_cmp) texts (get_or numbers j 0) (get_or numbers i 0) [] are.ascending down below_n)))
