-- The next place whose word is kept.
use Rattle.std.proofs.Common.{◌≡◌, ◌∙◌, ℕ, ◌+◌, ◌-◌, ◌*◌, ◌/◌, ◌%◌, ◌<◌, ◌≤◌, min, ◌⊎◌, inl, inr, ap, sym, refl, subst, List, length, get_or, arith}
use Rattle.std.specs.Int.{bit_at}
use Rattle.std.proofs.lemmas.Bool.{cases_lt}
use Rattle.std.proofs.lemmas.List.{get_or_read_under}
use Rattle.leak_sparse.specs.declared.group.Group.{Group}
use Rattle.leak_sparse.specs.Bits.{IsLowestFrom, NoneFrom}
use Rattle.leak_sparse.specs.Groups.{AreGroups, empty, words_of}
use Rattle.leak_sparse.specs.Words.{AreZerosTo, IsNextKept, NoneKeptFrom}
use Rattle.leak_sparse.proofs.RankLemmas.{bits_of, clear_at, kept_inside}
use Rattle.leak_sparse.proofs.ViewLemmas.{length_is, word_index, word_is, word_nonzero}

-- the bit of the place, in its group
bit_of_place : (groups : List Group) (number k place : ℕ) → place ≡ 64 * number + k → k < 64 → bit_at (bits_of groups (place / 64)) (place % 64) ≡ bit_at (bits_of groups number) k
bit_of_place groups number k place is h =
    let group : place / 64 ≡ number = omega arith in
    let bit : place % 64 ≡ k = omega arith in
    ap (λ (g : ℕ). bit_at (bits_of groups g) (place % 64)) group ∙ ap (λ (b : ℕ). bit_at (bits_of groups number) b) bit

-- the bits that are read are those of the group
pub lowest_of : (groups : List Group) (number bit found : ℕ) (group : Group) → number < length groups → group ≡ get_or groups number group → IsLowestFrom group.bits bit found → IsLowestFrom (bits_of groups number) bit found
lowest_of groups number bit found group h read low =
    subst (λ (g : Group). IsLowestFrom g.bits bit found) (get_or_read_under groups number (length groups) group (empty 0) read h refl) low

set_at : (groups : List Group) (number bit found : ℕ) → IsLowestFrom (bits_of groups number) bit found → bit_at (bits_of groups ((64 * number + found) / 64)) ((64 * number + found) % 64) ≡ 1
set_at groups number bit found low = bit_of_place groups number found (64 * number + found) refl low.within ∙ low.set

pub found_inside : (groups : List Group) (kept : List ℕ) (len number bit found : ℕ) → AreGroups groups kept len → IsLowestFrom (bits_of groups number) bit found → 64 * number + found < len
found_inside groups kept len number bit found are low = kept_inside groups kept len (64 * number + found) are (set_at groups number bit found low)

-- the word that is found is the next one
pub found_next : (groups : List Group) (kept : List ℕ) (len from number bit found : ℕ) → AreGroups groups kept len → from ≤ 64 * number + bit → ((k : ℕ) → from ≤ k → k < 64 * number + bit → bit_at (bits_of groups (k / 64)) (k % 64) ≡ 0)
    → IsLowestFrom (bits_of groups number) bit found → IsNextKept (words_of groups kept len) from (64 * number + found)
found_next groups kept len from number bit found are reached none low = record {
  at_or_after = omega (arith, low.at_or_after);
  inside = omega (arith, length_is groups kept len, inside);
  kept = λ e. word_nonzero groups kept len (64 * number + found) are (set_at groups number bit found low) (sym (word_is groups kept len (64 * number + found) inside) ∙ e);
  least = λ k l m. word_index groups kept len k are (go k l m (cases_lt k (64 * number + bit)));
}
  where
    inside : 64 * number + found < len
    inside = found_inside groups kept len number bit found are low

    go : (k : ℕ) → from ≤ k → k < 64 * number + found → (k < 64 * number + bit) ⊎ (64 * number + bit ≤ k) → bit_at (bits_of groups (k / 64)) (k % 64) ≡ 0
    go k l m (inl before) = none k l before
    go k l m (inr at) = bit_of_place groups number (k - 64 * number) k (omega arith) (omega (arith, low.within)) ∙ low.least (k - 64 * number) (omega arith) (omega arith)

-- past the end, no word is kept
pub none_left : (groups : List Group) (kept : List ℕ) (len from number bit : ℕ) → AreGroups groups kept len → len ≤ 64 * number → ((k : ℕ) → from ≤ k → k < 64 * number + bit → bit_at (bits_of groups (k / 64)) (k % 64) ≡ 0)
    → NoneKeptFrom (words_of groups kept len) from
none_left groups kept len from number bit are past none = record { each = λ k l. word_index groups kept len k are (go k l (cases_lt k (64 * number + bit))) }
  where
    go : (k : ℕ) → from ≤ k → (k < 64 * number + bit) ⊎ (64 * number + bit ≤ k) → bit_at (bits_of groups (k / 64)) (k % 64) ≡ 0
    go k l (inl before) = none k l before
    go k l (inr after) = clear_at groups kept len k are (omega arith)

-- the place is one of the list's
pub is_inside : (groups : List Group) (kept : List ℕ) (len from : ℕ) (words : List ℕ) → words_of groups kept len ≡ words → from < length words → from < len
is_inside groups kept len from words is inside = omega (arith, inside, ap length is, length_is groups kept len)

-- the bits that are read are those of the group, and none is set
pub none_of : (groups : List Group) (number bit : ℕ) (group : Group) → number < length groups → group ≡ get_or groups number group → NoneFrom group.bits bit → NoneFrom (bits_of groups number) bit
none_of groups number bit group h read none =
    subst (λ (g : Group). NoneFrom g.bits bit) (get_or_read_under groups number (length groups) group (empty 0) read h refl) none

-- a word is kept in the group of the place
pub zeros_to_kept : (groups : List Group) (kept : List ℕ) (len from found : ℕ) → AreGroups groups kept len → IsLowestFrom (bits_of groups (from / 64)) (from % 64) found → AreZerosTo (words_of groups kept len) from (64 * (from / 64) + found)
zeros_to_kept groups kept len from found are low =
    let place : 64 * (from / 64) + from % 64 ≡ from = omega arith in
    let next = found_next groups kept len from (from / 64) (from % 64) found are (omega arith) (λ k l m. absurd (omega (arith, l, m))) low in record {
      at_or_after = next.at_or_after;
      within = omega (arith, next.inside, low.within);
      each = next.least;
      kept = λ l. next.kept;
    }

-- none is
pub zeros_to_end : (groups : List Group) (kept : List ℕ) (len from place : ℕ) → AreGroups groups kept len → from < len → NoneFrom (bits_of groups (from / 64)) (from % 64) → place ≡ min len (64 * (from / 64) + 64) → AreZerosTo (words_of groups kept len) from place
zeros_to_end groups kept len from place are inside none is =
    let long = length_is groups kept len in record {
      at_or_after = omega arith;
      within = omega arith;
      each = λ k l m. word_index groups kept len k are (bit_of_place groups (from / 64) (k - 64 * (from / 64)) k (omega arith) (omega arith) ∙ none.each (k - 64 * (from / 64)) (omega arith) (omega arith));
      kept = λ l. absurd (omega arith);
    }
