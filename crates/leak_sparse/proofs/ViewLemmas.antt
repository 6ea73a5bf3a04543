-- The words that groups and kept words stand for.
use Rattle.std.proofs.Common.{◌≡◌, ◌≢◌, ◌∙◌, ℕ, zero, suc, ◌+◌, ◌/◌, ◌%◌, ◌^◌, ◌<◌, ◌≤◌, ◌⊎◌, inl, inr, ap, sym, refl, subst, Bool, not, cond, List, length, get_or, Some, None, arith}
use Rattle.std.specs.Prelude.{◌==◌, if◌then◌else◌, count_ones, slice_get, slice_index}
use Rattle.std.specs.Int.{bit_at}
use Rattle.std.proofs.lemmas.Bool.{cases_lt, ne_eqb}
use Rattle.std.proofs.lemmas.Nat.Bits.{bit_at-lt}
use Rattle.std.proofs.lemmas.List.{get_or_past, get_or_read_under}
use Rattle.std.proofs.lemmas.List.FromFn.{length-map-range_with_len, get_or-map-range_with_len, sum_by-map-range_with_len_more}
use Rattle.std.proofs.lemmas.Option.{slice_get-get_or, slice_get_past}
use Rattle.leak_sparse.specs.declared.group.Group.{Group}
use Rattle.leak_sparse.specs.Groups.{AreGroups, empty, group_count, word_at, word_in, words_of}
use Rattle.leak_sparse.specs.Words.{HasRoom, kept_of}
use Rattle.leak_sparse.proofs.BitLemmas.{ones_of_none}
use Rattle.leak_sparse.proofs.RankLemmas.{bits_of, rank_inside, rank_of, rank_step, rank_to}

pub length_is : (groups : List Group) (kept : List ℕ) (len : ℕ) → length (words_of groups kept len) ≡ len
length_is groups kept len = length-map-range_with_len (word_at groups kept) 0 len

pub word_is : (groups : List Group) (kept : List ℕ) (len place : ℕ) → place < len → get_or (words_of groups kept len) place 0 ≡ word_at groups kept place
word_is groups kept len place inside = get_or-map-range_with_len (word_at groups kept) 0 len place place 0 inside (omega arith)

-- ---- the word at a place, by its bit

pub in_unset : (group : Group) (kept : List ℕ) (bit : ℕ) → bit_at group.bits bit ≡ 0 → word_in group kept bit ≡ 0
in_unset group kept bit unset = ap (λ (b : ℕ). if b == 1 then slice_index kept (group.before + count_ones (group.bits % 2 ^ bit)) else 0) unset

pub in_set : (group : Group) (kept : List ℕ) (bit : ℕ) → bit_at group.bits bit ≡ 1 → word_in group kept bit ≡ get_or kept (group.before + count_ones (group.bits % 2 ^ bit)) 0
in_set group kept bit set = ap (λ (b : ℕ). if b == 1 then slice_index kept (group.before + count_ones (group.bits % 2 ^ bit)) else 0) set

pub word_unset : (groups : List Group) (kept : List ℕ) (place : ℕ) → bit_at (bits_of groups (place / 64)) (place % 64) ≡ 0 → word_at groups kept place ≡ 0
word_unset groups kept place = in_unset (get_or groups (place / 64) (empty 0)) kept (place % 64)

pub word_set : (groups : List Group) (kept : List ℕ) (place : ℕ) → bit_at (bits_of groups (place / 64)) (place % 64) ≡ 1 → word_at groups kept place ≡ get_or kept (rank_of groups place) 0
word_set groups kept place = in_set (get_or groups (place / 64) (empty 0)) kept (place % 64)

pub word_nonzero : (groups : List Group) (kept : List ℕ) (len place : ℕ) → AreGroups groups kept len → bit_at (bits_of groups (place / 64)) (place % 64) ≡ 1 → word_at groups kept place ≢ 0
word_nonzero groups kept len place are set none = are.nonzero (rank_of groups place) (rank_inside groups kept len place are set) (sym (word_set groups kept place set) ∙ none)

-- a bit is 0 or 1
pub by_bit : (bits k : ℕ) → (bit_at bits k ≡ 0) ⊎ (bit_at bits k ≡ 1)
by_bit bits k = go (cases_lt (bit_at bits k) 1)
  where
    go : (bit_at bits k < 1) ⊎ (1 ≤ bit_at bits k) → (bit_at bits k ≡ 0) ⊎ (bit_at bits k ≡ 1)
    go (inl f) = inl (omega arith)
    go (inr f) = inr (omega (arith, bit_at-lt bits k))

-- also past the end, where no word is kept
pub word_index : (groups : List Group) (kept : List ℕ) (len place : ℕ) → AreGroups groups kept len → bit_at (bits_of groups (place / 64)) (place % 64) ≡ 0 → get_or (words_of groups kept len) place 0 ≡ 0
word_index groups kept len place are unset = go (cases_lt place len)
  where
    go : (place < len) ⊎ (len ≤ place) → get_or (words_of groups kept len) place 0 ≡ 0
    go (inl inside) = word_is groups kept len place inside ∙ word_unset groups kept place unset
    go (inr past) = get_or_past (words_of groups kept len) place 0 (omega (arith, length_is groups kept len, past))

-- ---- the answers

pub get_past : (groups : List Group) (kept : List ℕ) (len place : ℕ) → len ≤ place → None ≡ slice_get (words_of groups kept len) place
get_past groups kept len place past = sym (slice_get_past (words_of groups kept len) place (omega (arith, length_is groups kept len, past)))

pub get_inside : (groups : List Group) (kept : List ℕ) (len place word : ℕ) → place < len → word ≡ word_at groups kept place → Some word ≡ slice_get (words_of groups kept len) place
get_inside groups kept len place word inside is =
    ap (λ (w : ℕ). Some w) (is ∙ sym (word_is groups kept len place inside))
    ∙ sym (slice_get-get_or (words_of groups kept len) place 0 (omega (arith, length_is groups kept len, inside)))

-- ---- the group that is read

pub read_group : (groups : List Group) (kept : List ℕ) (len place : ℕ) (group : Group) → AreGroups groups kept len → place < len → group ≡ get_or groups (place / 64) group → group ≡ get_or groups (place / 64) (empty 0)
read_group groups kept len place group are inside is = get_or_read_under groups (place / 64) (length groups) group (empty 0) is (omega (arith, are.enough, inside)) refl

pub get_unset : (groups : List Group) (kept : List ℕ) (len place : ℕ) (group : Group) → AreGroups groups kept len → place < len → group ≡ get_or groups (place / 64) group → (bit_at group.bits (place % 64) ≡ 1 → ⊥) → Some 0 ≡ slice_get (words_of groups kept len) place
get_unset groups kept len place group are inside is unset = go (by_bit group.bits (place % 64))
  where
    go : (bit_at group.bits (place % 64) ≡ 0) ⊎ (bit_at group.bits (place % 64) ≡ 1) → Some 0 ≡ slice_get (words_of groups kept len) place
    go (inr set) = absurd (unset set)
    go (inl none) = get_inside groups kept len place 0 inside (sym (word_unset groups kept place
        (ap (λ (g : Group). bit_at g.bits (place % 64)) (sym (read_group groups kept len place group are inside is)) ∙ none)))

rank_read : (groups : List Group) (kept : List ℕ) (len place ones : ℕ) (group : Group) → AreGroups groups kept len → place < len → group ≡ get_or groups (place / 64) group → ones ≡ count_ones (group.bits % 2 ^ (place % 64)) → group.before + ones ≡ rank_of groups place
rank_read groups kept len place ones group are inside is counted =
    ap (λ (n : ℕ). group.before + n) counted ∙ ap (λ (g : Group). g.before + count_ones (g.bits % 2 ^ (place % 64))) (read_group groups kept len place group are inside is)

set_read : (groups : List Group) (kept : List ℕ) (len place : ℕ) (group : Group) → AreGroups groups kept len → place < len → group ≡ get_or groups (place / 64) group → bit_at group.bits (place % 64) ≡ 1 → bit_at (bits_of groups (place / 64)) (place % 64) ≡ 1
set_read groups kept len place group are inside is set = ap (λ (g : Group). bit_at g.bits (place % 64)) (sym (read_group groups kept len place group are inside is)) ∙ set

pub get_index : (groups : List Group) (kept : List ℕ) (len place ones : ℕ) (group : Group) → AreGroups groups kept len → place < len → group ≡ get_or groups (place / 64) group → bit_at group.bits (place % 64) ≡ 1 → ones ≡ count_ones (group.bits % 2 ^ (place % 64)) → group.before + ones < length kept
get_index groups kept len place ones group are inside is set counted =
    omega (arith, rank_read groups kept len place ones group are inside is counted, rank_inside groups kept len place are (set_read groups kept len place group are inside is set))

pub get_set : (groups : List Group) (kept : List ℕ) (len place ones word : ℕ) (group : Group) → AreGroups groups kept len → place < len → group ≡ get_or groups (place / 64) group → bit_at group.bits (place % 64) ≡ 1 → ones ≡ count_ones (group.bits % 2 ^ (place % 64)) → word ≡ get_or kept (group.before + ones) word → Some word ≡ slice_get (words_of groups kept len) place
get_set groups kept len place ones word group are inside is set counted read =
    get_inside groups kept len place word inside
    (get_or_read_under kept (group.before + ones) (length kept) word 0 read (get_index groups kept len place ones group are inside is set counted) refl
    ∙ ap (λ (n : ℕ). get_or kept n 0) (rank_read groups kept len place ones group are inside is counted)
    ∙ sym (word_set groups kept place (set_read groups kept len place group are inside is set)))

-- ---- how many are kept

counted : (groups : List Group) (kept : List ℕ) (len place : ℕ) → AreGroups groups kept len → cond (not (word_at groups kept place == 0)) 1 0 ≡ bit_at (bits_of groups (place / 64)) (place % 64)
counted groups kept len place are = go (by_bit (bits_of groups (place / 64)) (place % 64))
  where
    go : (bit_at (bits_of groups (place / 64)) (place % 64) ≡ 0) ⊎ (bit_at (bits_of groups (place / 64)) (place % 64) ≡ 1) → cond (not (word_at groups kept place == 0)) 1 0 ≡ bit_at (bits_of groups (place / 64)) (place % 64)
    go (inl unset) = ap (λ (w : ℕ). cond (not (w == 0)) 1 0) (word_unset groups kept place unset) ∙ sym unset
    go (inr set) = ap (λ (b : Bool). cond (not b) 1 0) (ne_eqb (word_at groups kept place) 0 (word_nonzero groups kept len place are set)) ∙ sym set

pub kept_below : (groups : List Group) (kept : List ℕ) (len : ℕ) → AreGroups groups kept len → (n : ℕ) → kept_of (words_of groups kept n) ≡ rank_to groups n
kept_below groups kept len are zero =
    let e : bits_of groups 0 % 1 ≡ 0 = omega arith in
    let none : count_ones (bits_of groups 0 % 1) ≡ 0 = ap count_ones e ∙ ones_of_none in
    let sum : 0 ≡ 0 + count_ones (bits_of groups 0 % 1) = omega arith in
    sum
kept_below groups kept len are (suc n) =
    let at : n + 1 ≡ suc n = omega arith in
    subst (λ (m : ℕ). kept_of (words_of groups kept m) ≡ rank_to groups m) at
    (omega (arith, sum_by-map-range_with_len_more (λ (word : ℕ). cond (not (word == 0)) 1 0) (word_at groups kept) 0 n n (omega arith), counted groups kept len n are, kept_below groups kept len are n, rank_step groups n (are.narrow (n / 64))))

-- ---- room in the groups that are there

pub room_there : (groups : List Group) (kept : List ℕ) (len count : ℕ) (old : List ℕ) → AreGroups groups kept len → words_of groups kept len ≡ old → HasRoom old count → (len + count < 2 ^ 64) × (group_count (len + count) ≤ length groups)
room_there groups kept len count old are is room =
    let size : length old ≡ len = ap length (sym is) ∙ length_is groups kept len in
    (omega (arith, size, room.fits), omega (arith, size, room.same, are.enough))
