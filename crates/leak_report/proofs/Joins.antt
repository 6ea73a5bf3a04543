-- Rows, as blocks are added one by one.
use Rattle.std.proofs.Common.{◌≡◌, ℕ, ◌+◌, ◌^◌, ◌<◌, Bool, true, false, cond, List, [], ◌∷◌, ◌++◌, length, bytes_eq, None, Some, IfSome, refl, sym, ap, ◌∙◌, zero-add}
use Rattle.std.proofs.lemmas.List.Sums.{sum_by_push}
use Rattle.std.proofs.lemmas.List.{length-append}
use Rattle.std.proofs.lemmas.Slice.Eq.{bytes_eq-Decides}
use Rattle.std.proofs.lemmas.Map.Text.{is_eq-slice_cmp}
use Rattle.std.proofs.lemmas.Cmp.{tied_itself, nat_cmp_total, ranked}
use Rattle.std.proofs.lemmas.Bool.{eq-eqb, eqb-true, false_from_ne_true}
use Rattle.std.specs.Prelude.{nat_eq}
use Rattle.std.specs.Bool.{Decides}
use Rattle.std.specs.Cmp.Lexicographic.{slice_cmp}
use Rattle.std.specs.declared.cmp.Ordering.{Ordering}
use Rattle.std.specs.declared.cmp.Ordering.TheVariants.{Less, Equal, Greater}
use Rattle.std.specs.Ordering.{nat_cmp, ordering_then, is_eq}
use Rattle.leak_blocks.specs.declared.block.Block.{Block}
use Rattle.leak_report.specs.declared.totals.CallerRow.{CallerRow}
use Rattle.leak_report.specs.Totals.{Leak, bytes_in, heads_in, text_at, with_text}
use Rattle.leak_report.specs.Places.{place_of}
use Rattle.leak_report.specs.Groups.{Key, order_of_keys, with_leak, HasRoom, HasLeak, row_from, row_with, found_in, AreEntries}
use Rattle.leak_report.proofs.Leaks.{filter-push_yes, filter-push_no, heads_in-push, few_heads}

row_from-push : (leaks : List Leak) (l : Leak) → row_from (leaks ++ l ∷ []) ≡ Some (with_leak (row_from leaks) l)
row_from-push [] l =
    ap (λ n. Some (record { blocks = 1; bytes = n; heads = heads_in (l ∷ []); caller = l.block.caller })) (zero-add l.block.size)
    ∙ ap (λ n. Some (record { blocks = 1; bytes = l.block.size; heads = n; caller = l.block.caller })) (heads_in-push [] l ∙ zero-add (cond l.head 1 0))
row_from-push (x ∷ leaks) l =
    let long : length (x ∷ leaks ++ l ∷ []) ≡ length (x ∷ leaks) + 1 = length-append (x ∷ leaks) (l ∷ []) in
    let sum : bytes_in (x ∷ leaks ++ l ∷ []) ≡ bytes_in (x ∷ leaks) + l.block.size = sum_by_push (λ (l : Leak). l.block.size) (x ∷ leaks) l in
    let few : heads_in (x ∷ leaks ++ l ∷ []) ≡ heads_in (x ∷ leaks) + cond l.head 1 0 = heads_in-push (x ∷ leaks) l in
    cc

-- one more block changes the row of its text, and no other
row_with-push : (log : List ℕ) (blocks : List Leak) (b : Leak) (text : List ℕ)
    → row_with log (blocks ++ b ∷ []) text
    ≡ cond (bytes_eq (text_at log b.block.caller) text) (Some (with_leak (row_with log blocks (text_at log b.block.caller)) b)) (row_with log blocks text)
row_with-push log blocks b text = go (bytes_eq (text_at log b.block.caller) text) refl (bytes_eq-Decides (text_at log b.block.caller) text)
  where
    go : (t : Bool) → bytes_eq (text_at log b.block.caller) text ≡ t → Decides t (text_at log b.block.caller ≡ text)
        → row_with log (blocks ++ b ∷ []) text ≡ cond t (Some (with_leak (row_with log blocks (text_at log b.block.caller)) b)) (row_with log blocks text)
    go true e d =
        ap row_from (filter-push_yes (λ (x : Leak). bytes_eq (text_at log x.block.caller) text) blocks b e)
        ∙ row_from-push (with_text log text blocks) b
        ∙ ap (λ u. Some (with_leak (row_with log blocks u) b)) (sym (d.0 refl))
    go false e d = ap row_from (filter-push_no (λ (x : Leak). bytes_eq (text_at log x.block.caller) text) blocks b e)

-- keys with the places of their texts are equal if the texts are
same_key : (prefix text : List ℕ) (k : Key) → k.0 ≡ place_of prefix k.1.now
    → is_eq (ordering_then (nat_cmp (place_of prefix text) k.0) (slice_cmp nat_cmp text k.1.now)) ≡ bytes_eq text k.1.now
same_key prefix text k e = go (bytes_eq text k.1.now) refl
  where
    other : (o p : Ordering) → is_eq p ≡ false → is_eq (ordering_then o p) ≡ false
    other Less p h = refl
    other Equal p h = h
    other Greater p h = refl

    go : (t : Bool) → bytes_eq text k.1.now ≡ t → is_eq (ordering_then (nat_cmp (place_of prefix text) k.0) (slice_cmp nat_cmp text k.1.now)) ≡ t
    go true is =
        let same : place_of prefix text ≡ k.0 = ap (place_of prefix) ((bytes_eq-Decides text k.1.now).0 is) ∙ sym e in
        ap (λ (n : ℕ). is_eq (ordering_then (nat_cmp n k.0) (slice_cmp nat_cmp text k.1.now))) same
        ∙ ap (λ o. is_eq (ordering_then o (slice_cmp nat_cmp text k.1.now))) (tied_itself nat_cmp_total k.0)
        ∙ is_eq-slice_cmp text k.1.now ∙ is
    go false is = other (nat_cmp (place_of prefix text) k.0) (slice_cmp nat_cmp text k.1.now) (is_eq-slice_cmp text k.1.now ∙ is)

-- and a key of another place is none of theirs
other_key : (prefix text : List ℕ) (k : Key) → nat_eq k.0 (place_of prefix k.1.now) ≡ false
    → is_eq (ordering_then (nat_cmp (place_of prefix text) k.0) (slice_cmp nat_cmp text k.1.now)) ≡ false
other_key prefix text k e = false_from_ne_true (is_eq (ordering_then (nat_cmp (place_of prefix text) k.0) (slice_cmp nat_cmp text k.1.now))) (λ h.
    let parts : (nat_cmp (place_of prefix text) k.0 ≡ Equal) × (is_eq (slice_cmp nat_cmp text k.1.now) ≡ true) = both (nat_cmp (place_of prefix text) k.0) (slice_cmp nat_cmp text k.1.now) h in
    let same : text ≡ k.1.now = (bytes_eq-Decides text k.1.now).0 (sym (is_eq-slice_cmp text k.1.now) ∙ parts.1) in
    let place : place_of prefix text ≡ k.0 = exact (place_of prefix text) k.0 parts.0 in
    let is : nat_eq k.0 (place_of prefix k.1.now) ≡ true = eq-eqb k.0 (place_of prefix k.1.now) (sym place ∙ ap (place_of prefix) same) in
    cc)
  where
    both : (o p : Ordering) → is_eq (ordering_then o p) ≡ true → (o ≡ Equal) × (is_eq p ≡ true)
    both Less p h = cc
    both Equal p h = (refl, h)
    both Greater p h = cc

    exact : (x y : ℕ) → nat_cmp x y ≡ Equal → x ≡ y
    exact x y e = ranked x y Equal (sym e)

-- what the entries have at a key with the place of its text
pub row_at : (prefix log : List ℕ) (blocks : List Leak) (entries : List (Key × CallerRow)) → AreEntries prefix log blocks entries
    → (key : Key) → key.0 ≡ place_of prefix key.1.now → found_in entries key ≡ row_with log blocks key.1.now
row_at prefix log blocks entries are key place =
    are key ∙ ap (λ t. cond t (row_with log blocks key.1.now) None) (eq-eqb key.0 (place_of prefix key.1.now) place)

-- what `add` says makes the rows of the blocks those with one more
pub AreEntries-push : (prefix log : List ℕ) (blocks : List Leak) (b : Leak) (key : Key) (old new : List (Key × CallerRow))
    → AreEntries prefix log blocks old → key.0 ≡ place_of prefix key.1.now → key.1.now ≡ text_at log b.block.caller
    → HasLeak old new key b → AreEntries prefix log (blocks ++ b ∷ []) new
AreEntries-push prefix log blocks b key old new are place is steps = λ k. steps k ∙ go k (nat_eq k.0 (place_of prefix k.1.now)) refl
  where
    text : List ℕ
    text = text_at log b.block.caller

    at_key : found_in old key ≡ row_with log blocks text
    at_key = row_at prefix log blocks old are key place ∙ ap (row_with log blocks) is

    tests : (k : Key) → is_eq (order_of_keys key k) ≡ is_eq (ordering_then (nat_cmp (place_of prefix text) k.0) (slice_cmp nat_cmp text k.1.now))
    tests k =
        ap (λ (n : ℕ). is_eq (ordering_then (nat_cmp n k.0) (slice_cmp nat_cmp key.1.now k.1.now))) (place ∙ ap (place_of prefix) is)
        ∙ ap (λ (t : List ℕ). is_eq (ordering_then (nat_cmp (place_of prefix text) k.0) (slice_cmp nat_cmp t k.1.now))) is

    step : (k : Key) (t u : Bool) → is_eq (order_of_keys key k) ≡ t → nat_eq k.0 (place_of prefix k.1.now) ≡ u
        → cond (is_eq (order_of_keys key k)) (Some (with_leak (found_in old key) b)) (found_in old k)
        ≡ cond t (Some (with_leak (row_with log blocks text) b)) (cond u (row_with log blocks k.1.now) None)
    step k t u e f =
        ap (λ s. cond s (Some (with_leak (found_in old key) b)) (found_in old k)) e
        ∙ ap (λ r. cond t (Some (with_leak r b)) (found_in old k)) at_key
        ∙ ap (λ r. cond t (Some (with_leak (row_with log blocks text) b)) r) (are k ∙ ap (λ s. cond s (row_with log blocks k.1.now) None) f)

    go : (k : Key) (u : Bool) → nat_eq k.0 (place_of prefix k.1.now) ≡ u
        → cond (is_eq (order_of_keys key k)) (Some (with_leak (found_in old key) b)) (found_in old k)
        ≡ cond (nat_eq k.0 (place_of prefix k.1.now)) (row_with log (blocks ++ b ∷ []) k.1.now) None
    go k true f =
        step k (bytes_eq text k.1.now) true (tests k ∙ same_key prefix text k (eqb-true k.0 (place_of prefix k.1.now) f)) f
        ∙ sym (row_with-push log blocks b k.1.now)
        ∙ ap (λ s. cond s (row_with log (blocks ++ b ∷ []) k.1.now) None) (sym f)
    go k false f =
        step k false false (tests k ∙ other_key prefix text k f) f
        ∙ ap (λ s. cond s (row_with log (blocks ++ b ∷ []) k.1.now) None) (sym f)

pub row_from-fits : (leaks : List Leak) (b : Block) → length leaks + 1 < 2 ^ 64 → bytes_in leaks + b.size < 2 ^ 64
    → IfSome (row_from leaks) (λ row. HasRoom row b)
row_from-fits [] b h k = tt
row_from-fits (l ∷ leaks) b h k = record { blocks = h; bytes = k; heads = few_heads (l ∷ leaks) }
