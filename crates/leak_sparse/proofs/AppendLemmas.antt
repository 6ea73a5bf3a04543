-- The groups of two lists, of which the first fills whole groups.
use Rattle.std.proofs.Common.{◌≡◌, ◌≢◌, ◌∙◌, ℕ, ◌+◌, ◌-◌, ◌*◌, ◌/◌, ◌%◌, ◌^◌, ◌<◌, ◌≤◌, ◌⊎◌, inl, inr, ap, sym, refl, subst, List, [], ◌∷◌, ◌++◌, length, get_or, map, take, count_ones, arith}
use Rattle.std.specs.Int.{bit_at}
use Rattle.std.proofs.lemmas.Bool.{cases_lt}
use Rattle.std.proofs.lemmas.List.{get_or_append_left, get_or-append_right, get_or-map, get_or_past, get_or-take, length-append, length-map, length-take-le, take-append-le, take-map, take-take}
use Rattle.std.proofs.lemmas.List.FromFn.{fill_by_all}
use Rattle.std.proofs.lemmas.List.Sums.{sum_by-append, sum_by-cons}
use Rattle.std.proofs.Math.Seq.{take-append-add}
use Rattle.leak_sparse.specs.declared.group.Group.{Group}
use Rattle.leak_sparse.specs.Groups.{AreGroups, empty, kept_in, moved, word_at, word_in, words_of}
use Rattle.leak_sparse.proofs.BitLemmas.{ones_of_low, ones_of_none}
use Rattle.leak_sparse.proofs.RankLemmas.{bits_of, last_group, rank_all, rank_inside}
use Rattle.leak_sparse.proofs.ViewLemmas.{by_bit, in_set, in_unset, length_is, word_is}
use Rattle.leak_sparse.proofs.ChangeLemmas.{appended}

-- ---- without a group past the last word

abbrev pub trimmed : List Group → ℕ → List Group
trimmed groups len = take (len / 64) groups

trimmed_length : (groups : List Group) (kept : List ℕ) (len : ℕ) → AreGroups groups kept len → len % 64 ≡ 0 → length (trimmed groups len) ≡ len / 64
trimmed_length groups kept len are whole = length-take-le (len / 64) groups (omega (arith, are.enough, whole))

trimmed_in : (groups : List Group) (len g : ℕ) → g < len / 64 → get_or (trimmed groups len) g (empty 0) ≡ get_or groups g (empty 0)
trimmed_in groups len g inside = get_or-take (len / 64) groups g (empty 0) inside

-- no bit is set in it
none_past : (groups : List Group) (kept : List ℕ) (len g : ℕ) → AreGroups groups kept len → len % 64 ≡ 0 → len / 64 ≤ g → bits_of groups g ≡ 0
none_past groups kept len g are whole past = go (cases_lt (len / 64) g)
  where
    go : (len / 64 < g) ⊎ (g ≤ len / 64) → bits_of groups g ≡ 0
    go (inl later) = ap (λ (group : Group). group.bits) (get_or_past groups g (empty 0) (omega (arith, last_group groups kept len are, later)))
    go (inr same) =
        let at : len / 64 ≡ g = omega arith in
        let low : bits_of groups (len / 64) < 2 ^ 0 = subst (λ (k : ℕ). bits_of groups (len / 64) < 2 ^ k) whole are.clear in
        subst (λ (j : ℕ). bits_of groups j ≡ 0) at (omega (arith, low))

trimmed_bits : (groups : List Group) (kept : List ℕ) (len g : ℕ) → AreGroups groups kept len → len % 64 ≡ 0 → bits_of (trimmed groups len) g ≡ bits_of groups g
trimmed_bits groups kept len g are whole = go (cases_lt g (len / 64))
  where
    go : (g < len / 64) ⊎ (len / 64 ≤ g) → bits_of (trimmed groups len) g ≡ bits_of groups g
    go (inl inside) = ap (λ (group : Group). group.bits) (trimmed_in groups len g inside)
    go (inr past) =
        ap (λ (group : Group). group.bits) (get_or_past (trimmed groups len) g (empty 0) (omega (arith, trimmed_length groups kept len are whole, past)))
        ∙ sym (none_past groups kept len g are whole past)

trimmed_kept : (groups : List Group) (kept : List ℕ) (len : ℕ) → AreGroups groups kept len → len % 64 ≡ 0 → length kept ≡ kept_in (trimmed groups len)
trimmed_kept groups kept len are whole =
    let none : count_ones (bits_of groups (len / 64) % 2 ^ (len % 64)) ≡ 0 =
    ones_of_low (bits_of groups (len / 64)) (len % 64) are.clear ∙ ap count_ones (none_past groups kept len (len / 64) are whole (omega arith)) ∙ ones_of_none in
    omega (arith, none, rank_all groups kept len are)

trimmed_are : (groups : List Group) (kept : List ℕ) (len : ℕ) → AreGroups groups kept len → len % 64 ≡ 0 → AreGroups (trimmed groups len) kept len
trimmed_are groups kept len are whole = record {
  enough = omega (arith, count, whole);
  spare = omega (arith, count, whole);
  narrow = λ g. omega (arith, trimmed_bits groups kept len g are whole, are.narrow g);
  clear = subst (λ (bits : ℕ). bits < 2 ^ (len % 64)) (sym (trimmed_bits groups kept len (len / 64) are whole)) are.clear;
  before = λ g h. let inside : g < len / 64 = omega (arith, count, h) in
      ap (λ (group : Group). group.before) (trimmed_in groups len g inside) ∙ are.before g (omega (arith, are.enough, inside)) ∙ ap kept_in (sym (take-take g (len / 64) groups (omega (arith, inside))));
  whole = trimmed_kept groups kept len are whole;
  nonzero = are.nonzero;
}
  where
    count : length (trimmed groups len) ≡ len / 64
    count = trimmed_length groups kept len are whole

trimmed_words : (groups : List Group) (kept : List ℕ) (len place : ℕ) → len % 64 ≡ 0 → place < len → word_at (trimmed groups len) kept place ≡ word_at groups kept place
trimmed_words groups kept len place whole inside = ap (λ (group : Group). word_in group kept (place % 64)) (trimmed_in groups len (place / 64) (omega (arith, whole, inside)))

-- ---- groups after more kept words

kept_in_moved : (count : ℕ) (groups : List Group) → kept_in (map (moved count) groups) ≡ kept_in groups
kept_in_moved count [] = refl
kept_in_moved count (group ∷ groups) =
    sum_by-cons (λ (g : Group). count_ones g.bits) (moved count group) (map (moved count) groups)
    ∙ ap (λ (n : ℕ). count_ones group.bits + n) (kept_in_moved count groups)
    ∙ sym (sum_by-cons (λ (g : Group). count_ones g.bits) group groups)

abbrev pub joined : List Group → ℕ → List Group → List Group
joined groups count more = groups ++ map (moved count) more

joined_length : (groups : List Group) (count : ℕ) (more : List Group) → length (joined groups count more) ≡ length groups + length more
joined_length groups count more = length-append groups (map (moved count) more) ∙ ap (λ (n : ℕ). length groups + n) (length-map more (moved count))

joined_first : (groups : List Group) (count : ℕ) (more : List Group) (g : ℕ) → g < length groups → get_or (joined groups count more) g (empty 0) ≡ get_or groups g (empty 0)
joined_first groups count more g inside = get_or_append_left groups (map (moved count) more) (empty 0) g inside

joined_second : (groups : List Group) (count : ℕ) (more : List Group) (g : ℕ) → length groups ≤ g → g < length groups + length more → get_or (joined groups count more) g (empty 0) ≡ moved count (get_or more (g - length groups) (empty 0))
joined_second groups count more g past inside =
    get_or-append_right groups (map (moved count) more) (length groups) g (empty 0) refl past
    ∙ get_or-map (moved count) more (g - length groups) (empty 0) (empty 0) (omega (arith, past, inside))

joined_bits : (groups : List Group) (count : ℕ) (more : List Group) (g : ℕ) → length groups ≤ g → bits_of (joined groups count more) g ≡ bits_of more (g - length groups)
joined_bits groups count more g past = go (cases_lt g (length groups + length more))
  where
    go : (g < length groups + length more) ⊎ (length groups + length more ≤ g) → bits_of (joined groups count more) g ≡ bits_of more (g - length groups)
    go (inl inside) = ap (λ (group : Group). group.bits) (joined_second groups count more g past inside)
    go (inr end) =
        ap (λ (group : Group). group.bits) (get_or_past (joined groups count more) g (empty 0) (omega (arith, joined_length groups count more, end)))
        ∙ sym (ap (λ (group : Group). group.bits) (get_or_past more (g - length groups) (empty 0) (omega (arith, end))))

joined_kept : (groups : List Group) (count : ℕ) (more : List Group) → kept_in (joined groups count more) ≡ kept_in groups + kept_in more
joined_kept groups count more =
    sum_by-append (λ (group : Group). count_ones group.bits) groups (map (moved count) more) ∙ ap (λ (n : ℕ). kept_in groups + n) (kept_in_moved count more)

joined_take : (groups : List Group) (count : ℕ) (more : List Group) (g : ℕ) → length groups ≤ g → kept_in (take g (joined groups count more)) ≡ kept_in groups + kept_in (take (g - length groups) more)
joined_take groups count more g past =
    let at : length groups + (g - length groups) ≡ g = omega (arith, past) in
    subst (λ (n : ℕ). kept_in (take n (joined groups count more)) ≡ kept_in groups + kept_in (take (g - length groups) more)) at
    (ap kept_in (take-append-add groups (map (moved count) more) (g - length groups) ∙ ap (λ (rest : List Group). groups ++ rest) (take-map (moved count) (g - length groups) more))
    ∙ joined_kept groups count (take (g - length groups) more))

-- ---- the groups are those of both lists

joined_are : (groups : List Group) (kept : List ℕ) (len : ℕ) (more : List Group) (after : List ℕ) (count : ℕ) → AreGroups groups kept len → AreGroups more after count → len ≡ 64 * length groups
    → AreGroups (joined groups (length kept) more) (kept ++ after) (len + count)
joined_are groups kept len more after count are others full = record {
  enough = omega (arith, size, others.enough, full);
  spare = omega (arith, size, others.spare, full);
  narrow = λ g. narrow g (cases_lt g (length groups));
  clear = clear;
  before = λ g h. before g (omega (arith, size, h)) (cases_lt g (length groups));
  whole = length-append kept after ∙ omega (arith, are.whole, others.whole, joined_kept groups (length kept) more);
  nonzero = λ k h. nonzero k (omega (arith, length-append kept after, h)) (cases_lt k (length kept));
}
  where
    size : length (joined groups (length kept) more) ≡ length groups + length more
    size = joined_length groups (length kept) more

    narrow : (g : ℕ) → (g < length groups) ⊎ (length groups ≤ g) → bits_of (joined groups (length kept) more) g < 2 ^ 64
    narrow g (inl inside) = subst (λ (group : Group). group.bits < 2 ^ 64) (sym (joined_first groups (length kept) more g inside)) (are.narrow g)
    narrow g (inr past) = subst (λ (bits : ℕ). bits < 2 ^ 64) (sym (joined_bits groups (length kept) more g past)) (others.narrow (g - length groups))

    clear : bits_of (joined groups (length kept) more) ((len + count) / 64) < 2 ^ ((len + count) % 64)
    clear =
        let bit : count % 64 ≡ (len + count) % 64 = omega (arith, full) in
        let group : count / 64 ≡ (len + count) / 64 - length groups = omega (arith, full) in
        subst (λ (bits : ℕ). bits < 2 ^ ((len + count) % 64)) (sym (joined_bits groups (length kept) more ((len + count) / 64) (omega (arith, full))))
        (subst (λ (k : ℕ). bits_of more ((len + count) / 64 - length groups) < 2 ^ k) bit
        (subst (λ (g : ℕ). bits_of more g < 2 ^ (count % 64)) group others.clear))

    before : (g : ℕ) → g < length groups + length more → (g < length groups) ⊎ (length groups ≤ g) → (get_or (joined groups (length kept) more) g (empty 0)).before ≡ kept_in (take g (joined groups (length kept) more))
    before g h (inl inside) =
        ap (λ (group : Group). group.before) (joined_first groups (length kept) more g inside)
        ∙ are.before g inside ∙ ap kept_in (sym (take-append-le g groups (map (moved (length kept)) more) (omega (arith, inside))))
    before g h (inr past) =
        ap (λ (group : Group). group.before) (joined_second groups (length kept) more g past h)
        ∙ omega (arith, others.before (g - length groups) (omega (arith, past, h)), are.whole, joined_take groups (length kept) more g past)

    nonzero : (k : ℕ) → k < length kept + length after → (k < length kept) ⊎ (length kept ≤ k) → get_or (kept ++ after) k 0 ≢ 0
    nonzero k h (inl inside) none = are.nonzero k inside (sym (get_or_append_left kept after 0 k inside) ∙ none)
    nonzero k h (inr past) none = others.nonzero (k - length kept) (omega (arith, past, h)) (sym (get_or-append_right kept after (length kept) k 0 refl past) ∙ none)

-- ---- and stand for the words of both

-- the kept words of the second list come after those of the first
word_stays : (group : Group) (kept after : List ℕ) (bit : ℕ) → (bit_at group.bits bit ≡ 1 → group.before + count_ones (group.bits % 2 ^ bit) < length kept) → word_in group (kept ++ after) bit ≡ word_in group kept bit
word_stays group kept after bit inside = go (by_bit group.bits bit)
  where
    go : (bit_at group.bits bit ≡ 0) ⊎ (bit_at group.bits bit ≡ 1) → word_in group (kept ++ after) bit ≡ word_in group kept bit
    go (inl unset) = in_unset group (kept ++ after) bit unset ∙ sym (in_unset group kept bit unset)
    go (inr set) =
        in_set group (kept ++ after) bit set
        ∙ get_or_append_left kept after 0 (group.before + count_ones (group.bits % 2 ^ bit)) (inside set)
        ∙ sym (in_set group kept bit set)

word_moves : (group : Group) (kept after : List ℕ) (bit : ℕ) → word_in (moved (length kept) group) (kept ++ after) bit ≡ word_in group after bit
word_moves group kept after bit = go (by_bit group.bits bit)
  where
    go : (bit_at group.bits bit ≡ 0) ⊎ (bit_at group.bits bit ≡ 1) → word_in (moved (length kept) group) (kept ++ after) bit ≡ word_in group after bit
    go (inl unset) = in_unset (moved (length kept) group) (kept ++ after) bit unset ∙ sym (in_unset group after bit unset)
    go (inr set) =
        let rank : length kept + group.before + count_ones (group.bits % 2 ^ bit) - length kept ≡ group.before + count_ones (group.bits % 2 ^ bit) = omega arith in
        in_set (moved (length kept) group) (kept ++ after) bit set
        ∙ get_or-append_right kept after (length kept) (length kept + group.before + count_ones (group.bits % 2 ^ bit)) 0 refl (omega arith)
        ∙ ap (λ (n : ℕ). get_or after n 0) rank
        ∙ sym (in_set group after bit set)

joined_words : (groups : List Group) (kept : List ℕ) (len : ℕ) (more : List Group) (after : List ℕ) (count : ℕ) → AreGroups groups kept len → AreGroups more after count → len ≡ 64 * length groups
    → words_of (joined groups (length kept) more) (kept ++ after) (len + count) ≡ words_of groups kept len ++ words_of more after count
joined_words groups kept len more after count are others full =
    appended groups (joined groups (length kept) more) kept (kept ++ after) len (len + count) (words_of more after count) (ap (λ (n : ℕ). len + n) (sym (length_is more after count))) old
    (λ k h. new k (omega (arith, length_is more after count, h)))
  where
    old : (k : ℕ) → k < len → word_at (joined groups (length kept) more) (kept ++ after) k ≡ word_at groups kept k
    old k h =
        ap (λ (group : Group). word_in group (kept ++ after) (k % 64)) (joined_first groups (length kept) more (k / 64) (omega (arith, full, h)))
        ∙ word_stays (get_or groups (k / 64) (empty 0)) kept after (k % 64) (rank_inside groups kept len k are)

    new : (k : ℕ) → k < count → get_or (words_of more after count) k 0 ≡ word_at (joined groups (length kept) more) (kept ++ after) (len + k)
    new k h =
        let bit : k % 64 ≡ (len + k) % 64 = omega (arith, full) in
        let at : (len + k) / 64 - length groups ≡ k / 64 = omega (arith, full) in
        word_is more after count k h
        ∙ sym (word_moves (get_or more (k / 64) (empty 0)) kept after (k % 64))
        ∙ ap (λ (j : ℕ). word_in (moved (length kept) (get_or more (k / 64) (empty 0))) (kept ++ after) j) bit
        ∙ ap (λ (j : ℕ). word_in (moved (length kept) (get_or more j (empty 0))) (kept ++ after) ((len + k) % 64)) (sym at)
        ∙ ap (λ (group : Group). word_in group (kept ++ after) ((len + k) % 64)) (sym (joined_second groups (length kept) more ((len + k) / 64) (omega (arith, full)) (omega (arith, full, others.enough, h))))

-- ---- what the code computes

-- the groups of the first list, with no spare one, and those of the second
abbrev pub both : List Group → ℕ → ℕ → List Group → List Group
both groups len count more = joined (trimmed groups len) count more

full_groups : (groups : List Group) (kept : List ℕ) (len : ℕ) → AreGroups groups kept len → len % 64 ≡ 0 → len ≡ 64 * length (trimmed groups len)
full_groups groups kept len are whole = omega (arith, trimmed_length groups kept len are whole, whole)

both_are : (groups : List Group) (kept : List ℕ) (len : ℕ) (more : List Group) (after : List ℕ) (count : ℕ) → AreGroups groups kept len → AreGroups more after count → len % 64 ≡ 0
    → AreGroups (both groups len (length kept) more) (kept ++ after) (len + count)
both_are groups kept len more after count are others whole =
    joined_are (trimmed groups len) kept len more after count (trimmed_are groups kept len are whole) others (full_groups groups kept len are whole)

both_words : (groups : List Group) (kept : List ℕ) (len : ℕ) (more : List Group) (after : List ℕ) (count : ℕ) → AreGroups groups kept len → AreGroups more after count → len % 64 ≡ 0
    → words_of (both groups len (length kept) more) (kept ++ after) (len + count) ≡ words_of groups kept len ++ words_of more after count
both_words groups kept len more after count are others whole =
    joined_words (trimmed groups len) kept len more after count (trimmed_are groups kept len are whole) others (full_groups groups kept len are whole)
    ∙ ap (λ (words : List ℕ). words ++ words_of more after count) same
  where
    same : words_of (trimmed groups len) kept len ≡ words_of groups kept len
    same =
        fill_by_all (word_at groups kept) (words_of (trimmed groups len) kept len) len 0 (length_is (trimmed groups len) kept len)
        (λ k h. word_is (trimmed groups len) kept len k h ∙ trimmed_words groups kept len k whole h)

pub is_both : (groups cut more read now : List Group) (kept : List ℕ) (len before : ℕ) → now ≡ cut ++ map (moved before) read → cut ≡ take (len / 64) groups → before ≡ length kept → read ≡ more → now ≡ both groups len (length kept) more
is_both groups cut more read now kept len before is first count second =
    is ∙ ap (λ (gs : List Group). gs ++ map (moved before) read) first ∙ ap (λ (n : ℕ). trimmed groups len ++ map (moved n) read) count ∙ ap (λ (gs : List Group). both groups len (length kept) gs) second

pub full : (groups : List Group) (kept : List ℕ) (len : ℕ) (old : List ℕ) → words_of groups kept len ≡ old → length old % 64 ≡ 0 → len % 64 ≡ 0
full groups kept len old is whole = ap (λ (n : ℕ). n % 64) (sym (length_is groups kept len) ∙ ap length is) ∙ whole

pub append_are : (groups more now : List Group) (kept after all : List ℕ) (len count end : ℕ) → AreGroups groups kept len → AreGroups more after count → len % 64 ≡ 0 → now ≡ both groups len (length kept) more → all ≡ kept ++ after → end ≡ len + count
    → AreGroups now all end
append_are groups more now kept after all len count end are others whole is words size =
    subst (λ (n : ℕ). AreGroups now all n) (sym size)
    (subst (λ (ws : List ℕ). AreGroups now ws (len + count)) (sym words)
    (subst (λ (gs : List Group). AreGroups gs (kept ++ after) (len + count)) (sym is)
    (both_are groups kept len more after count are others whole)))

pub append_words : (groups more now : List Group) (kept after all : List ℕ) (len count end : ℕ) → AreGroups groups kept len → AreGroups more after count → len % 64 ≡ 0 → now ≡ both groups len (length kept) more → all ≡ kept ++ after → end ≡ len + count
    → words_of now all end ≡ words_of groups kept len ++ words_of more after count
append_words groups more now kept after all len count end are others whole is words size =
    ap (λ (n : ℕ). words_of now all n) size
    ∙ ap (λ (ws : List ℕ). words_of now ws (len + count)) words
    ∙ ap (λ (gs : List Group). words_of gs (kept ++ after) (len + count)) is
    ∙ both_words groups kept len more after count are others whole
