-- Groups after one more bit was set, and the word that it is for.
use Rattle.std.proofs.Common.{◌≡◌, ◌≢◌, ◌∙◌, ℕ, zero, suc, ◌+◌, ◌*◌, ◌/◌, ◌%◌, ◌^◌, ◌<◌, ◌≤◌, ◌⊎◌, inl, inr, ap, sym, refl, subst, List, [], ◌∷◌, ◌++◌, length, get_or, set, count_ones, arith}
use Rattle.std.specs.Int.{bit_at}
use Rattle.std.proofs.lemmas.Bool.{cases_lt, cases_eq}
use Rattle.std.proofs.lemmas.Nat.{one_shl, pow_pos}
use Rattle.std.proofs.lemmas.List.{get_or_append_left, get_or_past, get_or_push, get_or_read_under, get_or-set_other, get_or-set_same, length-set, length_push, take-set-le}
use Rattle.std.proofs.lemmas.List.Sums.{sum_by-set}
use Rattle.leak_sparse.specs.declared.group.Group.{Group}
use Rattle.leak_sparse.specs.Groups.{AreGroups, empty, kept_in, word_at, word_in, words_of}
use Rattle.leak_sparse.proofs.BitLemmas.{below_next, bit_below, bit_here, grows, low_below, ones_with_bit}
use Rattle.leak_sparse.proofs.RankLemmas.{bits_of, last_group, rank_all, rank_inside, rank_is, rank_of}
use Rattle.leak_sparse.proofs.ViewLemmas.{by_bit, in_set, in_unset}
use Rattle.leak_sparse.proofs.ChangeLemmas.{appended}

-- the group with one more bit
abbrev pub with_bit : Group → ℕ → Group
with_bit group bit = record { bits = group.bits + 2 ^ bit; before = group.before }

-- the groups with the bit of the place after the end
abbrev pub marked : List Group → ℕ → List Group
marked groups len = set groups (len / 64) (with_bit (get_or groups (len / 64) (empty 0)) (len % 64))

at_last : (groups : List Group) (len : ℕ) → len / 64 < length groups → get_or (marked groups len) (len / 64) (empty 0) ≡ with_bit (get_or groups (len / 64) (empty 0)) (len % 64)
at_last groups len h = get_or-set_same groups (len / 64) (with_bit (get_or groups (len / 64) (empty 0)) (len % 64)) (empty 0) h

at_other : (groups : List Group) (len g : ℕ) → g ≢ len / 64 → get_or (marked groups len) g (empty 0) ≡ get_or groups g (empty 0)
at_other groups len g ne = get_or-set_other groups (len / 64) g (with_bit (get_or groups (len / 64) (empty 0)) (len % 64)) (empty 0) ne

-- ---- the groups are those of one more word

marked_before : (groups : List Group) (len g : ℕ) → len / 64 < length groups → (get_or (marked groups len) g (empty 0)).before ≡ (get_or groups g (empty 0)).before
marked_before groups len g h = go (cases_eq g (len / 64))
  where
    go : (g ≡ len / 64) ⊎ (g ≡ len / 64 → ⊥) → (get_or (marked groups len) g (empty 0)).before ≡ (get_or groups g (empty 0)).before
    go (inl e) = subst (λ (j : ℕ). (get_or (marked groups len) j (empty 0)).before ≡ (get_or groups j (empty 0)).before) (sym e) (ap (λ (group : Group). group.before) (at_last groups len h))
    go (inr ne) = ap (λ (group : Group). group.before) (at_other groups len g ne)

marked_narrow : (groups : List Group) (kept : List ℕ) (len g : ℕ) → AreGroups groups kept len → len / 64 < length groups → bits_of (marked groups len) g < 2 ^ 64
marked_narrow groups kept len g are h = go (cases_eq g (len / 64))
  where
    go : (g ≡ len / 64) ⊎ (g ≡ len / 64 → ⊥) → bits_of (marked groups len) g < 2 ^ 64
    go (inl e) =
        subst (λ (j : ℕ). bits_of (marked groups len) j < 2 ^ 64) (sym e)
        (subst (λ (group : Group). group.bits < 2 ^ 64) (sym (at_last groups len h))
        (grows (bits_of groups (len / 64) + 2 ^ (len % 64)) (len % 64 + 1) 64 (below_next (bits_of groups (len / 64)) (len % 64) are.clear) (omega arith)))
    go (inr ne) = subst (λ (group : Group). group.bits < 2 ^ 64) (sym (at_other groups len g ne)) (are.narrow g)

marked_clear : (groups : List Group) (kept : List ℕ) (len : ℕ) → AreGroups groups kept len → len / 64 < length groups → bits_of (marked groups len) ((len + 1) / 64) < 2 ^ ((len + 1) % 64)
marked_clear groups kept len are h = go (cases_lt (len % 64) 63)
  where
    go : (len % 64 < 63) ⊎ (63 ≤ len % 64) → bits_of (marked groups len) ((len + 1) / 64) < 2 ^ ((len + 1) % 64)
    go (inl low) =
        let group : len / 64 ≡ (len + 1) / 64 = omega arith in
        let bit : len % 64 + 1 ≡ (len + 1) % 64 = omega arith in
        subst (λ (j : ℕ). bits_of (marked groups len) j < 2 ^ ((len + 1) % 64)) group
        (subst (λ (k : ℕ). bits_of (marked groups len) (len / 64) < 2 ^ k) bit
        (subst (λ (group : Group). group.bits < 2 ^ (len % 64 + 1)) (sym (at_last groups len h)) (below_next (bits_of groups (len / 64)) (len % 64) are.clear)))
    go (inr last) =
        let none : bits_of (marked groups len) ((len + 1) / 64) ≡ 0 =
        ap (λ (group : Group). group.bits) (get_or_past (marked groups len) ((len + 1) / 64) (empty 0)
        (omega (arith, length-set groups (len / 64) (with_bit (get_or groups (len / 64) (empty 0)) (len % 64)), last_group groups kept len are, last))) in
        omega (arith, none, pow_pos ((len + 1) % 64))

marked_kept : (groups : List Group) (kept : List ℕ) (len : ℕ) → AreGroups groups kept len → len / 64 < length groups → kept_in (marked groups len) ≡ kept_in groups + 1
marked_kept groups kept len are h =
    let more : count_ones (bits_of groups (len / 64) + 2 ^ (len % 64)) ≡ count_ones (bits_of groups (len / 64)) + 1 = ones_with_bit (bits_of groups (len / 64)) (len % 64) are.clear in
    let sum : kept_in (marked groups len) + count_ones (bits_of groups (len / 64)) ≡ kept_in groups + count_ones (bits_of groups (len / 64) + 2 ^ (len % 64)) =
    sum_by-set (λ (group : Group). count_ones group.bits) groups (len / 64) (with_bit (get_or groups (len / 64) (empty 0)) (len % 64)) (empty 0) h in
    omega arith

pub marked_are : (groups : List Group) (kept : List ℕ) (len word : ℕ) → AreGroups groups kept len → len / 64 < length groups → word ≢ 0 → AreGroups (marked groups len) (kept ++ word ∷ []) (len + 1)
marked_are groups kept len word are h some = record {
  enough = omega (arith, count, h);
  spare = omega (arith, count, are.spare);
  narrow = λ g. marked_narrow groups kept len g are h;
  clear = marked_clear groups kept len are h;
  before = λ g l. marked_before groups len g h ∙ are.before g (omega (arith, count, l))
      ∙ ap kept_in (sym (take-set-le g groups (len / 64) (with_bit (get_or groups (len / 64) (empty 0)) (len % 64)) (omega (arith, count, l, last_group groups kept len are))));
  whole = omega (arith, length_push kept word, are.whole, marked_kept groups kept len are h);
  nonzero = λ k l. go k (omega (arith, length_push kept word, l)) (cases_lt k (length kept));
}
  where
    count : length (marked groups len) ≡ length groups
    count = length-set groups (len / 64) (with_bit (get_or groups (len / 64) (empty 0)) (len % 64))

    go : (k : ℕ) → k < length kept + 1 → (k < length kept) ⊎ (length kept ≤ k) → get_or (kept ++ word ∷ []) k 0 ≢ 0
    go k l (inl old) none = are.nonzero k old (sym (get_or_append_left kept (word ∷ []) 0 k old) ∙ none)
    go k l (inr last) none = some (sym (get_or_push kept word 0 k (omega arith)) ∙ none)

-- ---- the words that stay, and the new one

-- in a group with the bits as they were, below this one
word_stays : (now group : Group) (kept : List ℕ) (word bit : ℕ) → now.before ≡ group.before → bit_at now.bits bit ≡ bit_at group.bits bit → now.bits % 2 ^ bit ≡ group.bits % 2 ^ bit
    → (bit_at group.bits bit ≡ 1 → group.before + count_ones (group.bits % 2 ^ bit) < length kept) → word_in now (kept ++ word ∷ []) bit ≡ word_in group kept bit
word_stays now group kept word bit before same low inside = go (by_bit group.bits bit)
  where
    go : (bit_at group.bits bit ≡ 0) ⊎ (bit_at group.bits bit ≡ 1) → word_in now (kept ++ word ∷ []) bit ≡ word_in group kept bit
    go (inl unset) = in_unset now (kept ++ word ∷ []) bit (same ∙ unset) ∙ sym (in_unset group kept bit unset)
    go (inr set) =
        in_set now (kept ++ word ∷ []) bit (same ∙ set)
        ∙ ap (λ (n : ℕ). get_or (kept ++ word ∷ []) (n + count_ones (now.bits % 2 ^ bit)) 0) before
        ∙ ap (λ (n : ℕ). get_or (kept ++ word ∷ []) (group.before + count_ones n) 0) low
        ∙ get_or_append_left kept (word ∷ []) 0 (group.before + count_ones (group.bits % 2 ^ bit)) (inside set)
        ∙ sym (in_set group kept bit set)

pub marked_words : (groups : List Group) (kept : List ℕ) (len word : ℕ) → AreGroups groups kept len → len / 64 < length groups → words_of (marked groups len) (kept ++ word ∷ []) (len + 1) ≡ words_of groups kept len ++ word ∷ []
marked_words groups kept len word are h =
    appended groups (marked groups len) kept (kept ++ word ∷ []) len (len + 1) (word ∷ []) refl old new
  where
    old : (k : ℕ) → k < len → word_at (marked groups len) (kept ++ word ∷ []) k ≡ word_at groups kept k
    old k l = go (cases_eq (k / 64) (len / 64))
      where
        go : (k / 64 ≡ len / 64) ⊎ (k / 64 ≡ len / 64 → ⊥) → word_at (marked groups len) (kept ++ word ∷ []) k ≡ word_at groups kept k
        go (inl e) =
            let lower : k % 64 < len % 64 = omega arith in
            ap (λ (now : Group). word_in now (kept ++ word ∷ []) (k % 64))
            (subst (λ (g : ℕ). get_or (marked groups len) g (empty 0) ≡ with_bit (get_or groups g (empty 0)) (len % 64)) (sym e) (at_last groups len h))
            ∙ word_stays (with_bit (get_or groups (k / 64) (empty 0)) (len % 64)) (get_or groups (k / 64) (empty 0)) kept word (k % 64) refl
            (bit_below (bits_of groups (k / 64)) (len % 64) (k % 64) lower) (low_below (bits_of groups (k / 64)) (len % 64) (k % 64) (omega arith)) (rank_inside groups kept len k are)
        go (inr ne) =
            ap (λ (now : Group). word_in now (kept ++ word ∷ []) (k % 64)) (at_other groups len (k / 64) ne)
            ∙ word_stays (get_or groups (k / 64) (empty 0)) (get_or groups (k / 64) (empty 0)) kept word (k % 64) refl refl refl (rank_inside groups kept len k are)

    last : word ≡ word_at (marked groups len) (kept ++ word ∷ []) len
    last =
        sym (get_or_push kept word 0 (rank_of groups len) (sym (rank_is groups kept len len are h ∙ rank_all groups kept len are)))
        ∙ ap (λ (n : ℕ). get_or (kept ++ word ∷ []) ((get_or groups (len / 64) (empty 0)).before + count_ones n) 0) (sym (low_below (bits_of groups (len / 64)) (len % 64) (len % 64) (omega arith)))
        ∙ sym (in_set (with_bit (get_or groups (len / 64) (empty 0)) (len % 64)) (kept ++ word ∷ []) (len % 64) (bit_here (bits_of groups (len / 64)) (len % 64) are.clear))
        ∙ ap (λ (now : Group). word_in now (kept ++ word ∷ []) (len % 64)) (sym (at_last groups len h))

    new : (k : ℕ) → k < 1 → get_or (word ∷ []) k 0 ≡ word_at (marked groups len) (kept ++ word ∷ []) (len + k)
    new zero l = let at : len ≡ len + zero = omega arith in subst (λ (n : ℕ). word ≡ word_at (marked groups len) (kept ++ word ∷ []) n) at last
    new (suc k) l = absurd (omega (arith, l))

-- ---- what the code computes

read_last : (groups : List Group) (len : ℕ) (group : Group) → len / 64 < length groups → group ≡ get_or groups (len / 64) group → group ≡ get_or groups (len / 64) (empty 0)
read_last groups len group h read = get_or_read_under groups (len / 64) (length groups) group (empty 0) read h refl

pub bit_room : (groups : List Group) (kept : List ℕ) (len : ℕ) (group : Group) → AreGroups groups kept len → len / 64 < length groups → group ≡ get_or groups (len / 64) group → group.bits + 1 * 2 ^ (len % 64) % 2 ^ 64 < 2 ^ 64
bit_room groups kept len group are h read =
    let low : group.bits < 2 ^ (len % 64) = subst (λ (g : Group). g.bits < 2 ^ (len % 64)) (sym (read_last groups len group h read)) are.clear in
    subst (λ (n : ℕ). group.bits + n < 2 ^ 64) (sym (one_shl (len % 64) 64 (omega arith)))
    (grows (group.bits + 2 ^ (len % 64)) (len % 64 + 1) 64 (below_next group.bits (len % 64) low) (omega arith))

pub set_is_marked : (groups : List Group) (len : ℕ) (group : Group) → len / 64 < length groups → group ≡ get_or groups (len / 64) group
    → set groups (len / 64) (record { bits = group.bits + 1 * 2 ^ (len % 64) % 2 ^ 64; before = group.before }) ≡ marked groups len
set_is_marked groups len group h read =
    ap (λ (n : ℕ). set groups (len / 64) (record { bits = group.bits + n; before = group.before })) (one_shl (len % 64) 64 (omega arith))
    ∙ ap (λ (g : Group). set groups (len / 64) (with_bit g (len % 64))) (read_last groups len group h read)
