-- Groups after words were appended, and the words that they stand for.
use Rattle.std.proofs.Common.{◌≡◌, ◌∙◌, ℕ, zero, suc, ◌+◌, ◌-◌, ◌*◌, ◌/◌, ◌%◌, ◌^◌, ◌<◌, ◌≤◌, ◌⊎◌, inl, inr, ap, sym, refl, subst, List, [], ◌++◌, length, get_or, replicate, take, count_ones, arith}
use Rattle.std.specs.Int.{bit_at}
use Rattle.std.proofs.lemmas.Bool.{cases_lt}
use Rattle.std.proofs.lemmas.Nat.{pow_pos}
use Rattle.std.proofs.lemmas.List.{append-nil, get_or_append_left, get_or-append_right, get_or_past, get_or-replicate, length-append, length-replicate, take-append-le, take-replicate}
use Rattle.std.proofs.lemmas.List.FromFn.{fill_by_all}
use Rattle.std.proofs.lemmas.List.Sums.{sum_by-append, sum_by-cons}
use Rattle.std.proofs.Math.Seq.{take-append-add}
use Rattle.leak_sparse.specs.declared.group.Group.{Group}
use Rattle.leak_sparse.specs.Groups.{AreGroups, covered, empty, kept_in, word_at, word_in, words_of}
use Rattle.leak_sparse.proofs.BitLemmas.{grows, ones_of_none}
use Rattle.leak_sparse.proofs.RankLemmas.{bits_of, clear_at, last_group}
use Rattle.leak_sparse.proofs.ViewLemmas.{length_is, word_is, word_unset}

-- ---- words at the end

-- words that stay, and more of them
pub appended : (groups more : List Group) (kept all : List ℕ) (len end : ℕ) (added : List ℕ) → end ≡ len + length added → ((k : ℕ) → k < len → word_at more all k ≡ word_at groups kept k) → ((k : ℕ) → k < length added → get_or added k 0 ≡ word_at more all (len + k))
    → words_of more all end ≡ words_of groups kept len ++ added
appended groups more kept all len end added is old new =
    sym (fill_by_all (word_at more all) (words_of groups kept len ++ added) end 0 (length-append (words_of groups kept len) added ∙ omega (arith, length_is groups kept len, is)) each)
  where
    each : (k : ℕ) → k < end → get_or (words_of groups kept len ++ added) k 0 ≡ word_at more all k
    each k h = go (cases_lt k len)
      where
        go : (k < len) ⊎ (len ≤ k) → get_or (words_of groups kept len ++ added) k 0 ≡ word_at more all k
        go (inl inside) = get_or_append_left (words_of groups kept len) added 0 k (omega (arith, length_is groups kept len, inside)) ∙ word_is groups kept len k inside ∙ sym (old k inside)
        go (inr past) =
            let at : len + (k - len) ≡ k = omega arith in
            get_or-append_right (words_of groups kept len) added len k 0 (length_is groups kept len) past
            ∙ subst (λ (j : ℕ). get_or added (k - len) 0 ≡ word_at more all j) at (new (k - len) (omega (arith, h, is)))

-- ---- empty groups at the end

kept_in_empty : (n before : ℕ) → kept_in (replicate n (empty before)) ≡ 0
kept_in_empty zero before = refl
kept_in_empty (suc n) before = sum_by-cons (λ (group : Group). count_ones group.bits) (empty before) (replicate n (empty before)) ∙ omega (arith, ones_of_none, kept_in_empty n before)

abbrev pub padded : List Group → ℕ → ℕ → List Group
padded groups n before = groups ++ replicate n (empty before)

padded_length : (groups : List Group) (n before : ℕ) → length (padded groups n before) ≡ length groups + n
padded_length groups n before = length-append groups (replicate n (empty before)) ∙ ap (λ (m : ℕ). length groups + m) (length-replicate n (empty before))

padded_past : (groups : List Group) (n before g : ℕ) → length groups ≤ g → g < length groups + n → get_or (padded groups n before) g (empty 0) ≡ empty before
padded_past groups n before g past h = get_or-append_right groups (replicate n (empty before)) (length groups) g (empty 0) refl past ∙ get_or-replicate n (g - length groups) (empty before) (empty 0) (omega arith)

-- no bit is set in them
pub padded_bits : (groups : List Group) (n before g : ℕ) → bits_of (padded groups n before) g ≡ bits_of groups g
padded_bits groups n before g = go (cases_lt g (length groups)) (cases_lt g (length groups + n))
  where
    none : length groups ≤ g → bits_of groups g ≡ 0
    none past = ap (λ (group : Group). group.bits) (get_or_past groups g (empty 0) past)

    go : (g < length groups) ⊎ (length groups ≤ g) → (g < length groups + n) ⊎ (length groups + n ≤ g) → bits_of (padded groups n before) g ≡ bits_of groups g
    go (inl inside) other = ap (λ (group : Group). group.bits) (get_or_append_left groups (replicate n (empty before)) (empty 0) g inside)
    go (inr past) (inl new) = ap (λ (group : Group). group.bits) (padded_past groups n before g past new) ∙ sym (none past)
    go (inr past) (inr end) = ap (λ (group : Group). group.bits) (get_or_past (padded groups n before) g (empty 0) (omega (arith, padded_length groups n before, end))) ∙ sym (none past)

padded_kept : (groups : List Group) (n before g : ℕ) → length groups ≤ g → g < length groups + n → kept_in (take g (padded groups n before)) ≡ kept_in groups
padded_kept groups n before g past h =
    let at : length groups + (g - length groups) ≡ g = omega arith in
    subst (λ (m : ℕ). kept_in (take m (padded groups n before)) ≡ kept_in groups) at
    (ap kept_in (take-append-add groups (replicate n (empty before)) (g - length groups) ∙ ap (λ (rest : List Group). groups ++ rest) (take-replicate (g - length groups) n (empty before) (omega arith)))
    ∙ sum_by-append (λ (group : Group). count_ones group.bits) groups (replicate (g - length groups) (empty before))
    ∙ omega (arith, kept_in_empty (g - length groups) before))

-- and none is set from a later end on
clear_later : (groups : List Group) (kept : List ℕ) (len end : ℕ) → AreGroups groups kept len → len ≤ end → bits_of groups (end / 64) < 2 ^ (end % 64)
clear_later groups kept len end are later = go (cases_lt (len / 64) (end / 64))
  where
    go : (len / 64 < end / 64) ⊎ (end / 64 ≤ len / 64) → bits_of groups (end / 64) < 2 ^ (end % 64)
    go (inl past) =
        let none : bits_of groups (end / 64) ≡ 0 = ap (λ (group : Group). group.bits) (get_or_past groups (end / 64) (empty 0) (omega (arith, last_group groups kept len are, past))) in
        omega (arith, none, pow_pos (end % 64))
    go (inr same) =
        let group : len / 64 ≡ end / 64 = omega arith in
        grows (bits_of groups (end / 64)) (len % 64) (end % 64) (subst (λ (g : ℕ). bits_of groups g < 2 ^ (len % 64)) group are.clear) (omega arith)

pub padded_are : (groups : List Group) (kept : List ℕ) (len end n : ℕ) → AreGroups groups kept len → len ≤ end → end ≤ 64 * (length groups + n) → 64 * (length groups + n) ≤ end + 64 → AreGroups (padded groups n (length kept)) kept end
padded_are groups kept len end n are later enough spare = record {
  enough = omega (arith, enough, padded_length groups n (length kept));
  spare = omega (arith, spare, padded_length groups n (length kept));
  narrow = λ g. omega (arith, padded_bits groups n (length kept) g, are.narrow g);
  clear = subst (λ (bits : ℕ). bits < 2 ^ (end % 64)) (sym (padded_bits groups n (length kept) (end / 64))) (clear_later groups kept len end are later);
  before = λ g h. go g (omega (arith, h, padded_length groups n (length kept))) (cases_lt g (length groups));
  whole = are.whole ∙ sym (sum_by-append (λ (group : Group). count_ones group.bits) groups (replicate n (empty (length kept))) ∙ omega (arith, kept_in_empty n (length kept)));
  nonzero = are.nonzero;
}
  where
    go : (g : ℕ) → g < length groups + n → (g < length groups) ⊎ (length groups ≤ g) → (get_or (padded groups n (length kept)) g (empty 0)).before ≡ kept_in (take g (padded groups n (length kept)))
    go g h (inl inside) =
        ap (λ (group : Group). group.before) (get_or_append_left groups (replicate n (empty (length kept))) (empty 0) g inside)
        ∙ are.before g inside ∙ ap kept_in (sym (take-append-le g groups (replicate n (empty (length kept))) (omega arith)))
    go g h (inr past) = ap (λ (group : Group). group.before) (padded_past groups n (length kept) g past h) ∙ are.whole ∙ sym (padded_kept groups n (length kept) g past h)

pub padded_words : (groups : List Group) (kept : List ℕ) (len count n : ℕ) → AreGroups groups kept len → words_of (padded groups n (length kept)) kept (len + count) ≡ words_of groups kept len ++ replicate count 0
padded_words groups kept len count n are =
    appended groups (padded groups n (length kept)) kept kept len (len + count) (replicate count 0) (ap (λ (m : ℕ). len + m) (sym (length-replicate {A = ℕ} count 0)))
    (λ k h. ap (λ (group : Group). word_in group kept (k % 64)) (get_or_append_left groups (replicate n (empty (length kept))) (empty 0) (k / 64) (omega (arith, are.enough, h))))
    (λ k h. get_or-replicate count k 0 0 (omega (arith, h, length-replicate {A = ℕ} count 0))
    ∙ sym (word_unset (padded groups n (length kept)) kept (len + k)
    (ap (λ (bits : ℕ). bit_at bits ((len + k) % 64)) (padded_bits groups n (length kept) ((len + k) / 64)) ∙ clear_at groups kept len (len + k) are (omega arith))))

-- until there are enough of them for the places, of which the last may have no word yet
pub covered_are : (groups : List Group) (kept : List ℕ) (len end places : ℕ) → AreGroups groups kept len → len ≤ end → end ≤ places → places ≤ end + 1 → AreGroups (covered groups places (length kept)) kept end
covered_are groups kept len end places are later enough near =
    padded_are groups kept len end ((places + 63) / 64 - length groups) are later (omega (arith, are.spare)) (omega (arith, are.spare))

pub covered_words : (groups : List Group) (kept : List ℕ) (len count places : ℕ) → AreGroups groups kept len → words_of (covered groups places (length kept)) kept (len + count) ≡ words_of groups kept len ++ replicate count 0
covered_words groups kept len count places are = padded_words groups kept len count ((places + 63) / 64 - length groups) are

-- with one group at least for the place after the end
pub covered_last : (groups : List Group) (len before : ℕ) → len / 64 < length (covered groups (len + 1) before)
covered_last groups len before = omega (arith, padded_length groups ((len + 1 + 63) / 64 - length groups) before)

pub covered_same : (groups : List Group) (kept : List ℕ) (len places : ℕ) → AreGroups groups kept len → words_of (covered groups places (length kept)) kept len ≡ words_of groups kept len
covered_same groups kept len places are =
    let at : len + 0 ≡ len = omega arith in
    subst (λ (n : ℕ). words_of (covered groups places (length kept)) kept n ≡ words_of groups kept len ++ []) at (covered_words groups kept len 0 places are)
    ∙ append-nil (words_of groups kept len)
