-- Items of a list of displacements, as they are cut off from the front.
use Rattle.std.proofs.Common.{◌≡◌, ℕ, ◌+◌, ◌<◌, ◌≤◌, suc, Bool, true, false, refl, ap, ap₂, sym, List, [], ◌∷◌, take, drop, length, cond, not, ◌==◌, if◌then◌else◌, Some, None, arith}
use Rattle.std.specs.Prelude.{nat_lt}
use Rattle.std.proofs.lemmas.Bool.{ltb-false, ltb-true}
use Rattle.std.specs.List.{position, position_or_len}
use Rattle.leak_request.specs.Displacements.{items_of, before_first}

abbrev comma : ℕ → Bool
comma b = b == 44

whole : ℕ → List ℕ → Bool → List (List ℕ)
whole b rest t = if t then [] ∷ items_of rest else before_first b (items_of rest)

abbrev passed : List ℕ → Bool → ℕ
passed rest t = cond (not t) (1 + position_or_len comma rest) 0

-- a text without a comma is one item
pub one_item : (text : List ℕ) → length text ≤ position_or_len comma text → items_of text ≡ text ∷ []
one_item [] h = refl
one_item (b ∷ rest) h = go (b == 44) h (one_item rest)
  where
    go : (t : Bool) → suc (length rest) ≤ passed rest t → (length rest ≤ position_or_len comma rest → items_of rest ≡ rest ∷ [])
        → (if t then [] ∷ items_of rest else before_first b (items_of rest)) ≡ (b ∷ rest) ∷ []
    go true h rec = absurd (omega arith)
    go false h rec = ap (before_first b) (rec (omega arith))

-- the first item ends at the first comma
pub first_item : (text : List ℕ) → position_or_len comma text < length text
    → items_of text ≡ take (position_or_len comma text) text ∷ items_of (drop (position_or_len comma text + 1) text)
first_item [] h = absurd (omega arith)
first_item (b ∷ rest) h = go (b == 44) h (first_item rest)
  where
    go : (t : Bool) → passed rest t < suc (length rest)
        → (position_or_len comma rest < length rest → items_of rest ≡ take (position_or_len comma rest) rest ∷ items_of (drop (position_or_len comma rest + 1) rest))
        → (if t then [] ∷ items_of rest else before_first b (items_of rest))
        ≡ take (passed rest t) (b ∷ rest) ∷ items_of (drop (passed rest t + 1) (b ∷ rest))
    go true h rec = refl
    go false h rec =
        let n = position_or_len comma rest in
        let more : 1 + n ≡ suc n = omega arith in
        let after : 1 + n + 1 ≡ suc (n + 1) = omega arith in
        rw (rec (omega arith)) (ap₂ (λ k m. take k (b ∷ rest) ∷ items_of (drop m (b ∷ rest))) (sym more) (sym after))

-- the same if the first comma was looked for
pub first_item_at : (text : List ℕ) (i : ℕ) → Some i ≡ position comma text → (i < length text) × (items_of text ≡ take i text ∷ items_of (drop (i + 1) text))
first_item_at text i found = go (nat_lt (position_or_len comma text) (length text)) refl found
  where
    go : (t : Bool) → nat_lt (position_or_len comma text) (length text) ≡ t → Some i ≡ cond t (Some (position_or_len comma text)) None
        → (i < length text) × (items_of text ≡ take i text ∷ items_of (drop (i + 1) text))
    go true e found =
        let at : i ≡ position_or_len comma text = cc in
        let low = ltb-true _ _ e in
        (omega arith, rw at (first_item text low))
    go false e found = cc

pub no_comma : (text : List ℕ) → None ≡ position comma text → items_of text ≡ text ∷ []
no_comma text found = go (nat_lt (position_or_len comma text) (length text)) refl found
  where
    go : (t : Bool) → nat_lt (position_or_len comma text) (length text) ≡ t → None ≡ cond t (Some (position_or_len comma text)) None → items_of text ≡ text ∷ []
    go true e found = cc
    go false e found = one_item text (ltb-false _ _ e)
