-- Texts that are found by their number.
use Rattle.std.proofs.Common.{◌≡◌, ◌∙◌, ℕ, ◌<◌, ◌≤◌, ◌⊎◌, inl, inr, Bool, true, false, cond, List, [], ◌∷◌, ◌++◌, length, Option, Some, None, refl, ap, ap₂, sym, subst, arith}
use Rattle.std.specs.Cmp.{IsTotalOrder}
use Rattle.std.specs.Cmp.Lexicographic.{bytes_decides, nat_list_eq_equiv, slice_cmp}
use Rattle.std.specs.Ordering.{is_eq, nat_cmp, ordering_then}
use Rattle.std.specs.declared.cmp.Ordering.{Ordering}
use Rattle.std.specs.declared.cmp.Ordering.TheVariants.{Less, Equal, Greater}
use Rattle.std.specs.Str.{bytes_eq}
use Rattle.std.specs.BTreeMap.{BTreeMap, UpdatesBy, get_by}
use Rattle.std.specs.Map.{AreApart, IsKeyTest, KeepsOthers, lookup}
use Rattle.std.proofs.lemmas.Bool.{cases_lt, false≢true}
use Rattle.std.proofs.lemmas.Cmp.{eq_by_cmp_equiv, nat_cmp_total, nat_list_cmp_total, on_total, then_total}
use Rattle.std.proofs.lemmas.List.{get_or_append_left, get_or_push, length_push}
use Rattle.std.proofs.lemmas.Map.Lookups.{exact_bytes}
use Rattle.leak_texts.specs.Texts.{IsNew, IsNumbered, text_with}
use Rattle.leak_texts.specs.Finding.{Finds, IsKeyOf, Key, number_in, order_at, tail_of}

-- ---- a text that was met

pub met : (find : List ℕ → Option ℕ) (texts : List (List ℕ)) (text : List ℕ) (n : ℕ) → Finds find texts → find text ≡ Some n → IsNumbered texts text texts n
met find texts text n finds e =
    let at = finds.found text n e in
    record {
      below = at.0;
      is = at.1;
      first = λ i less same.
          let there : find text ≡ Some i = subst (λ (t : List ℕ). find t ≡ Some i) same (finds.each i (omega (arith, less, at.0))) in
          let equal : n ≡ i = cc in
          omega (arith, less, equal);
      adds = inl refl;
    }

pub has : (find : List ℕ → Option ℕ) (texts : List (List ℕ)) (text : List ℕ) (n : ℕ) → Finds find texts → n < length texts → text_with texts n ≡ text → IsNumbered texts text texts n
has find texts text n finds below is = met find texts text n finds (subst (λ (t : List ℕ). find t ≡ Some n) is (finds.each n below))

-- ---- a text that is new

pub new : (find : List ℕ → Option ℕ) (texts : List (List ℕ)) (text : List ℕ) → Finds find texts → find text ≡ None → IsNew texts text
new find texts text finds none i below same =
    let there : find text ≡ Some i = subst (λ (t : List ℕ). find t ≡ Some i) same (finds.each i below) in
    absurd (cc)

pub added : (texts : List (List ℕ)) (text : List ℕ) (n : ℕ) → IsNew texts text → n ≡ length texts → IsNumbered texts text (texts ++ text ∷ []) n
added texts text n is_new last = record {
  below = omega (arith, last, length_push texts text);
  is = get_or_push texts text [] n (sym last);
  first = λ i less same.
      let below : i < length texts = omega (arith, less, last) in
      is_new i below (sym (get_or_append_left texts (text ∷ []) [] i below) ∙ same);
  adds = inr (record { added = refl; last = last });
}

-- it is found from then on
module _ (old later : List ℕ → Option ℕ) (texts : List (List ℕ)) (text : List ℕ) (n : ℕ) (finds : Finds old texts) (is_new : IsNew texts text) (last : n ≡ length texts)
    (steps : (t : List ℕ) → later t ≡ cond (bytes_eq text t) (Some n) (old t)) where
  abbrev pub all : List (List ℕ)
  all = texts ++ text ∷ []

  at_last : text_with all n ≡ text
  at_last = get_or_push texts text [] n (sym last)

  found : (t : List ℕ) (m : ℕ) (b : Bool) → bytes_eq text t ≡ b → later t ≡ Some m → (m < length all) × (text_with all m ≡ t)
  found t m true is e =
      let same : text ≡ t = (bytes_decides text t).0 is in
      let there : Some n ≡ Some m = sym (steps t ∙ ap (λ (b : Bool). cond b (Some n) (old t)) is) ∙ e in
      let equal : n ≡ m = cc in
      (omega (arith, equal, last, length_push texts text), ap (text_with all) (sym equal) ∙ at_last ∙ same)
  found t m false is e =
      let at = finds.found t m (sym (steps t ∙ ap (λ (b : Bool). cond b (Some n) (old t)) is) ∙ e) in
      (omega (arith, at.0, length_push texts text), get_or_append_left texts (text ∷ []) [] m at.0 ∙ at.1)

  each : (m : ℕ) → m < length all → (m < length texts) ⊎ (length texts ≤ m) → later (text_with all m) ≡ Some m
  each m below (inl early) =
      let here : text_with all m ≡ text_with texts m = get_or_append_left texts (text ∷ []) [] m early in
      let other : bytes_eq text (text_with texts m) ≡ false = differs (bytes_eq text (text_with texts m)) refl in
      ap later here ∙ steps (text_with texts m) ∙ ap (λ (b : Bool). cond b (Some n) (old (text_with texts m))) other ∙ finds.each m early
    where
      differs : (b : Bool) → bytes_eq text (text_with texts m) ≡ b → bytes_eq text (text_with texts m) ≡ false
      differs true is = absurd (is_new m early (sym ((bytes_decides text (text_with texts m)).0 is)))
      differs false is = is
  each m below (inr late) =
      let equal : m ≡ n = omega (arith, below, late, last, length_push texts text) in
      let here : text_with all m ≡ text = ap (text_with all) equal ∙ at_last in
      ap later here ∙ steps text ∙ ap (λ (b : Bool). cond b (Some n) (old text)) (nat_list_eq_equiv.refl text) ∙ ap (λ (i : ℕ). Some i) (sym equal)

  pub finds-push : Finds later all
  finds-push = record {
    found = λ t m e. found t m (bytes_eq text t) refl e;
    each = λ m below. each m below (cases_lt m (length texts));
  }

pub finds-same : (old later : List ℕ → Option ℕ) (texts : List (List ℕ)) → Finds old texts → ((t : List ℕ) → later t ≡ old t) → Finds later texts
finds-same old later texts finds same = record {
  found = λ t m e. finds.found t m (sym (same t) ∙ e);
  each = λ m below. same (text_with texts m) ∙ finds.each m below;
}

-- ---- the map

-- how keys are compared
abbrev pub order_of_keys : Key → Key → Ordering
order_of_keys x y = order_at x.0 x.1.items y

order_of_pairs : ℕ × List ℕ → ℕ × List ℕ → Ordering
order_of_pairs x y = ordering_then (nat_cmp x.0 y.0) (slice_cmp nat_cmp x.1 y.1)

pairs_total : IsTotalOrder order_of_pairs
unfolding order_of_pairs
pairs_total = then_total (on_total (λ (k : ℕ × List ℕ). k.0) nat_cmp_total) (on_total (λ (k : ℕ × List ℕ). k.1) nat_list_cmp_total)

others : {K X : Type 0} (eq : K → K → Bool) (test : K → Bool) (old later : List (K × X)) → KeepsOthers eq test old later
    → (other : K → Bool) → IsKeyTest eq other → AreApart test other → lookup other later ≡ lookup other old
unfolding KeepsOthers
others eq test old later keeps = keeps

-- a key at which a text is looked for has the text
same_text : (tail : ℕ) (text : List ℕ) (key : Key) → is_eq (order_at tail text key) ≡ true → text ≡ key.1.items
same_text tail text key e = exact_bytes text key.1.items (second (nat_cmp tail key.0) (slice_cmp nat_cmp text key.1.items) e)
  where
    second : (o p : Ordering) → is_eq (ordering_then o p) ≡ true → p ≡ Equal
    second Less p h = cc
    second Equal Less h = cc
    second Equal Equal h = refl
    second Equal Greater h = cc
    second Greater p h = cc

-- a key of a text is that of no other text
apart : (text t : List ℕ) (key k : Key) → IsKeyOf key text → bytes_eq text t ≡ false → is_eq (order_of_keys key k) ≡ true → is_eq (order_at (tail_of t) t k) ≡ false
apart text t key k is_key other at = go (is_eq (order_at (tail_of t) t k)) refl
  where
    go : (b : Bool) → is_eq (order_at (tail_of t) t k) ≡ b → is_eq (order_at (tail_of t) t k) ≡ false
    go true is =
        let same : text ≡ t = sym is_key.bytes ∙ same_text key.0 key.1.items k at ∙ sym (same_text (tail_of t) t k is) in
        absurd (false≢true (sym other ∙ (bytes_decides text t).1 same))
    go false is = is

-- the text is looked for by its key
pub number_in-key : (numbers : BTreeMap Key ℕ) (key : Key) (text : List ℕ) → IsKeyOf key text → number_in numbers text ≡ get_by (order_of_keys key) numbers
number_in-key numbers key text is_key = ap₂ (λ (n : ℕ) (s : List ℕ). get_by (order_at n s) numbers) (sym is_key.tail) (sym is_key.bytes)

congr : (t : List ℕ) → IsKeyTest (λ x y. is_eq (order_of_keys x y)) (λ k. is_eq (order_at (tail_of t) t k))
unfolding order_of_pairs
congr t = λ x y. (eq_by_cmp_equiv pairs_total).congr (tail_of t, t) (x.0, x.1.items) (y.0, y.1.items)

module _ (numbers later : BTreeMap Key ℕ) where
  -- what a map has after a number is put at a text's key
  pub number_in-insert : (key : Key) (text : List ℕ) (n : ℕ) → IsKeyOf key text → UpdatesBy order_of_keys (order_of_keys key) numbers later (Some n)
      → (t : List ℕ) → number_in later t ≡ cond (bytes_eq text t) (Some n) (number_in numbers t)
  number_in-insert key text n is_key updates t = go (bytes_eq text t) refl
    where
      go : (b : Bool) → bytes_eq text t ≡ b → number_in later t ≡ cond b (Some n) (number_in numbers t)
      go true is = ap (number_in later) (sym ((bytes_decides text t).0 is)) ∙ number_in-key later key text is_key ∙ updates.1
      go false is =
          others _ _ numbers.entries later.entries updates.3 (λ k. is_eq (order_at (tail_of t) t k))
          (congr t)
          (λ k e. apart text t key k is_key is e)

  pub number_in-same : later.entries ≡ numbers.entries → (t : List ℕ) → number_in later t ≡ number_in numbers t
  number_in-same e t = ap (λ (es : List (Key × ℕ)). lookup (λ k. is_eq (order_at (tail_of t) t k)) es) e
