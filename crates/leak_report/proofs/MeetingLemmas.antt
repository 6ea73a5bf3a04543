-- Texts as they are met, one after another.
use Rattle.std.proofs.Common.{◌≡◌, ℕ, ◌<◌, ◌≤◌, ◌⊎◌, inl, inr, ⊎_elim, Bool, true, false, cond, List, [], ◌∷◌, ◌++◌, length, map, Some, None, refl, sym, ap, subst, ◌∙◌, arith}
use Rattle.std.specs.List.{All, Contains}
use Rattle.std.specs.BTreeMap.{BTreeMap, get}
use Rattle.std.specs.Cmp.Lexicographic.{slice_cmp}
use Rattle.std.specs.declared.cmp.Ordering.{Ordering}
use Rattle.std.specs.declared.cmp.Ordering.TheVariants.{Less, Equal, Greater}
use Rattle.std.specs.Ordering.{nat_cmp, ordering_then, is_eq}
use Rattle.std.proofs.lemmas.Bool.{cases_lt}
use Rattle.std.proofs.lemmas.Cmp.{eq_by_cmp_equiv}
use Rattle.std.proofs.lemmas.List.{get_or_append_left, get_or_push, length_push, map-append}
use Rattle.std.proofs.lemmas.List.Elements.{All-head, All-tail, All-push, All-weaker, Contains-append_left, Contains-push}
use Rattle.std.proofs.lemmas.Map.Lookups.{exact_bytes}
use Rattle.leak_report.specs.Groups.{Key, order_of_keys}
use Rattle.leak_report.proofs.Orders.{order_of_keys_total}
use Rattle.leak_report.specs.Numbered.{text_with}
use Rattle.leak_report.specs.Meeting.{tail_of, AreMet, IsMet, AreNumberedAsMet}

-- keys that are equal have the same text
same_text : (k q : Key) → is_eq (order_of_keys k q) ≡ true → k.1.now ≡ q.1.now
same_text k q e = exact_bytes k.1.now q.1.now (second (nat_cmp k.0 q.0) (slice_cmp nat_cmp k.1.now q.1.now) e)
  where
    second : (o p : Ordering) → is_eq (ordering_then o p) ≡ true → p ≡ Equal
    second Less p h = cc
    second Equal Less h = cc
    second Equal Equal h = refl
    second Equal Greater h = cc
    second Greater p h = cc

-- and keys with one text are equal if their tails are
same_key : (k q : Key) → k.1.now ≡ q.1.now → k.0 ≡ q.0 → is_eq (order_of_keys k q) ≡ true
same_key k q text tail =
    ap (λ (n : ℕ). is_eq (ordering_then (nat_cmp k.0 n) (slice_cmp nat_cmp k.1.now q.1.now))) (sym tail)
    ∙ ap (λ (t : List ℕ). is_eq (ordering_then (nat_cmp k.0 k.0) (slice_cmp nat_cmp k.1.now t))) (sym text)
    ∙ (eq_by_cmp_equiv order_of_keys_total).refl k

-- a place among texts of which one was added
last_or_before : (texts : List (List ℕ)) (text : List ℕ) (m : ℕ) → m < length (texts ++ text ∷ []) → (m < length texts) ⊎ (m ≡ length texts)
last_or_before texts text m h = ⊎_elim (λ early. inl early) (λ late. inr (omega (arith, late, h, length_push texts text))) (cases_lt m (length texts))

-- a text that was met
pub met_again : (numbers : BTreeMap Key ℕ) (texts : List (List ℕ)) (key : Key) (n : ℕ) → AreMet numbers texts → get order_of_keys numbers key ≡ Some n
    → IsMet texts texts key.1.now n
met_again numbers texts key n met e = let at = met.found key n e in record { adds = inl refl; below = at.0; is = at.1 }

-- a text that is new
pub met_first : (texts : List (List ℕ)) (text : List ℕ) (n : ℕ) → n ≡ length texts → IsMet texts (texts ++ text ∷ []) text n
met_first texts text n last = record {
  adds = inr refl;
  below = omega (arith, length_push texts text);
  is = get_or_push texts text [] n (sym last);
}

pub met_more : (old new : BTreeMap Key ℕ) (texts : List (List ℕ)) (key : Key) (n : ℕ) → AreMet old texts → key.0 ≡ tail_of key.1.now → get order_of_keys old key ≡ None → n ≡ length texts
    → ((k : Key) → get order_of_keys new k ≡ cond (is_eq (order_of_keys key k)) (Some n) (get order_of_keys old k))
    → AreMet new (texts ++ key.1.now ∷ [])
met_more old new texts key n met tail none last steps = record {
  found = λ k m e. found k m (is_eq (order_of_keys key k)) refl (sym (steps k) ∙ e);
  each = λ k m below is place. steps k ∙ each k m (is_eq (order_of_keys key k)) refl below is place;
}
  where
    all : List (List ℕ)
    all = texts ++ key.1.now ∷ []

    found : (k : Key) (m : ℕ) (t : Bool) → is_eq (order_of_keys key k) ≡ t → cond (is_eq (order_of_keys key k)) (Some n) (get order_of_keys old k) ≡ Some m
        → (m < length all) × (text_with all m ≡ k.1.now)
    found k m true is e =
        let same : Some n ≡ Some m = ap (λ t. cond t (Some n) (get order_of_keys old k)) (sym is) ∙ e in
        let first = met_first texts key.1.now n last in
        let at : n ≡ m = cc in
        (subst (λ (i : ℕ). i < length all) at first.below, ap (text_with all) (sym at) ∙ first.is ∙ same_text key k is)
    found k m false is e =
        let before = met.found k m (ap (λ t. cond t (Some n) (get order_of_keys old k)) (sym is) ∙ e) in
        (omega (arith, before.0, length_push texts key.1.now), get_or_append_left texts (key.1.now ∷ []) [] m before.0 ∙ before.1)

    each : (k : Key) (m : ℕ) (t : Bool) → is_eq (order_of_keys key k) ≡ t → m < length all → k.1.now ≡ text_with all m → k.0 ≡ tail_of k.1.now
        → cond (is_eq (order_of_keys key k)) (Some n) (get order_of_keys old k) ≡ Some m
    each k m true is below text place = go (last_or_before texts key.1.now m below)
      where
        go : (m < length texts) ⊎ (m ≡ length texts) → cond (is_eq (order_of_keys key k)) (Some n) (get order_of_keys old k) ≡ Some m
        go (inl early) =
            let here : text_with all m ≡ text_with texts m = get_or_append_left texts (key.1.now ∷ []) [] m early in
            let there : get order_of_keys old key ≡ Some m = met.each key m early (same_text key k is ∙ text ∙ here) tail in
            absurd (cc)
        go (inr end) = ap (λ t. cond t (Some n) (get order_of_keys old k)) is ∙ ap (λ (i : ℕ). Some i) (last ∙ sym end)
    each k m false is below text place = go (last_or_before texts key.1.now m below)
      where
        go : (m < length texts) ⊎ (m ≡ length texts) → cond (is_eq (order_of_keys key k)) (Some n) (get order_of_keys old k) ≡ Some m
        go (inl early) =
            let here : text_with all m ≡ text_with texts m = get_or_append_left texts (key.1.now ∷ []) [] m early in
            ap (λ t. cond t (Some n) (get order_of_keys old k)) is ∙ met.each k m early (text ∙ here) place
        go (inr end) =
            let same : k.1.now ≡ key.1.now = text ∙ ap (text_with all) (end ∙ sym last) ∙ (met_first texts key.1.now n last).is in
            let equal : is_eq (order_of_keys key k) ≡ true = same_key key k (sym same) (tail ∙ ap tail_of (sym same) ∙ sym place) in
            absurd (cc)

-- the texts so far, of which each is one of the given, and their numbers
pub record AreSoFar (given texts : List (List ℕ)) (numbers : List ℕ) : Type 0 where
  pub few : length texts ≤ length given
  pub each : All (Contains given) texts
  pub below : All (λ n. n < length texts) numbers
  pub same : map (text_with texts) numbers ≡ given

-- texts that are added change no number
kept : (texts : List (List ℕ)) (text : List ℕ) (numbers : List ℕ) → All (λ n. n < length texts) numbers
    → map (text_with (texts ++ text ∷ [])) numbers ≡ map (text_with texts) numbers
kept texts text [] below = refl
kept texts text (n ∷ numbers) below =
    let first : text_with (texts ++ text ∷ []) n ≡ text_with texts n = get_or_append_left texts (text ∷ []) [] n (All-head (λ n. n < length texts) n numbers below) in
    let rest : map (text_with (texts ++ text ∷ [])) numbers ≡ map (text_with texts) numbers = kept texts text numbers (All-tail (λ n. n < length texts) n numbers below) in
    ap (λ (t : List ℕ). t ∷ map (text_with (texts ++ text ∷ [])) numbers) first ∙ ap (λ (ts : List (List ℕ)). text_with texts n ∷ ts) rest

-- one more given text
pub so_far_more : (given old new : List (List ℕ)) (numbers : List ℕ) (text : List ℕ) (n : ℕ) → AreSoFar given old numbers → IsMet old new text n
    → AreSoFar (given ++ text ∷ []) new (numbers ++ n ∷ [])
so_far_more given old new numbers text n so met = go met.adds
  where
    ends : (same : map (text_with new) numbers ≡ given) → map (text_with new) (numbers ++ n ∷ []) ≡ given ++ text ∷ []
    ends same = map-append (text_with new) numbers (n ∷ []) ∙ ap (λ (ts : List (List ℕ)). ts ++ text_with new n ∷ []) same ∙ ap (λ (t : List ℕ). given ++ t ∷ []) met.is

    wider : All (Contains (given ++ text ∷ [])) old
    wider = All-weaker (Contains given) (Contains (given ++ text ∷ [])) (λ t has. Contains-append_left given (text ∷ []) t has) old so.each

    go : (new ≡ old) ⊎ (new ≡ old ++ text ∷ []) → AreSoFar (given ++ text ∷ []) new (numbers ++ n ∷ [])
    go (inl e) = record {
      few = omega (arith, so.few, ap length e, length_push given text);
      each = subst (All (Contains (given ++ text ∷ []))) (sym e) wider;
      below = All-push (λ m. m < length new) numbers n (All-weaker (λ m. m < length old) (λ m. m < length new) (λ m h. omega (arith, h, ap length e)) numbers so.below) met.below;
      same = ends (ap (λ (ts : List (List ℕ)). map (text_with ts) numbers) e ∙ so.same);
    }
    go (inr e) = record {
      few = omega (arith, so.few, ap length e, length_push old text, length_push given text);
      each = subst (All (Contains (given ++ text ∷ []))) (sym e) (All-push (Contains (given ++ text ∷ [])) old text wider (Contains-push given text));
      below = All-push (λ m. m < length new) numbers n (All-weaker (λ m. m < length old) (λ m. m < length new) (λ m h. omega (arith, h, ap length e, length_push old text)) numbers so.below) met.below;
      same = ends (ap (λ (ts : List (List ℕ)). map (text_with ts) numbers) e ∙ kept old text numbers so.below ∙ so.same);
    }

-- texts that a map has by their keys differ
pub all_met : (found : BTreeMap Key ℕ) (given texts : List (List ℕ)) (numbers : List ℕ) → AreMet found texts → AreSoFar given texts numbers → AreNumberedAsMet given texts numbers
all_met found given texts numbers met so = record {
  apart = λ i j below later e.
      let key : Key = (tail_of (text_with texts i), record { ref_ptr = (0, 0); now = text_with texts i }) in
      let first : get order_of_keys found key ≡ Some i = met.each key i below refl refl in
      let second : get order_of_keys found key ≡ Some j = met.each key j later e refl in
      cc;
  few = so.few;
  each = so.each;
  below = so.below;
  same = so.same;
}
