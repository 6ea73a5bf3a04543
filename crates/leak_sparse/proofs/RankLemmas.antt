-- How many words are kept before a place.
use Rattle.std.proofs.Common.{◌≡◌, ◌∙◌, ℕ, zero, suc, ◌+◌, ◌-◌, ◌/◌, ◌%◌, ◌^◌, ◌<◌, ◌≤◌, ◌⊎◌, inl, inr, ap, sym, subst, List, length, take, get_or, count_ones, arith}
use Rattle.std.specs.Int.{bit_at}
use Rattle.std.proofs.lemmas.Bool.{cases_lt}
use Rattle.std.proofs.lemmas.Nat.Bits.{bit_at_above, bit_at-zero}
use Rattle.std.proofs.lemmas.List.{get_or_past, take_all}
use Rattle.std.proofs.lemmas.List.Sums.{sum_by_more}
use Rattle.leak_sparse.specs.declared.group.Group.{Group}
use Rattle.leak_sparse.specs.Groups.{AreGroups, empty, kept_in}
use Rattle.leak_sparse.proofs.BitLemmas.{ones_of_none, ones_of_low, ones_step}

-- the bits of a group
abbrev pub bits_of : List Group → ℕ → ℕ
bits_of groups g = (get_or groups g (empty 0)).bits

-- how many words are kept before a place, by its group
abbrev pub rank_of : List Group → ℕ → ℕ
rank_of groups place = (get_or groups (place / 64) (empty 0)).before + count_ones (bits_of groups (place / 64) % 2 ^ (place % 64))

-- how many words are kept in the first groups and in the lowest places of the next
abbrev pub kept_to : List Group → ℕ → ℕ → ℕ
kept_to groups g k = kept_in (take g groups) + count_ones (bits_of groups g % 2 ^ k)

abbrev pub rank_to : List Group → ℕ → ℕ
rank_to groups place = kept_to groups (place / 64) (place % 64)

-- in one more group
pub kept_more : (groups : List Group) (g : ℕ) → kept_in (take (g + 1) groups) ≡ kept_in (take g groups) + count_ones (bits_of groups g)
kept_more groups g = go (cases_lt g (length groups))
  where
    go : (g < length groups) ⊎ (length groups ≤ g) → kept_in (take (g + 1) groups) ≡ kept_in (take g groups) + count_ones (bits_of groups g)
    go (inl inside) = sum_by_more (λ (group : Group). count_ones group.bits) groups g (empty 0) inside
    go (inr past) =
        let none : count_ones (bits_of groups g) ≡ 0 = ap (λ (group : Group). count_ones group.bits) (get_or_past groups g (empty 0) past) ∙ ones_of_none in
        let same : kept_in (take (g + 1) groups) ≡ kept_in (take g groups) = ap kept_in (take_all (g + 1) groups (omega arith) ∙ sym (take_all g groups past)) in
        omega arith

step_within : (groups : List Group) (g k : ℕ) → kept_to groups g (k + 1) ≡ kept_to groups g k + bit_at (bits_of groups g) k
step_within groups g k = omega (arith, ones_step (bits_of groups g) k)

step_across : (groups : List Group) (g : ℕ) → bits_of groups g < 2 ^ 64 → kept_to groups (g + 1) 0 ≡ kept_to groups g 63 + bit_at (bits_of groups g) 63
step_across groups g narrow =
    let none : count_ones (bits_of groups (g + 1) % 2 ^ 0) ≡ 0 = let e : bits_of groups (g + 1) % 1 ≡ 0 = omega arith in ap count_ones e ∙ ones_of_none in
    let all : count_ones (bits_of groups g % 2 ^ 64) ≡ count_ones (bits_of groups g) = ones_of_low (bits_of groups g) 64 narrow in
    let step : count_ones (bits_of groups g % 2 ^ 64) ≡ count_ones (bits_of groups g % 2 ^ 63) + bit_at (bits_of groups g) 63 = ones_step (bits_of groups g) 63 in
    omega (arith, kept_more groups g, none, all, step)

-- at one more place
pub rank_step : (groups : List Group) (place : ℕ) → bits_of groups (place / 64) < 2 ^ 64 → rank_to groups (place + 1) ≡ rank_to groups place + bit_at (bits_of groups (place / 64)) (place % 64)
rank_step groups place narrow = go (cases_lt (place % 64) 63)
  where
    go : (place % 64 < 63) ⊎ (63 ≤ place % 64) → rank_to groups (place + 1) ≡ rank_to groups place + bit_at (bits_of groups (place / 64)) (place % 64)
    go (inl low) =
        let group : (place + 1) / 64 ≡ place / 64 = omega arith in
        let bit : (place + 1) % 64 ≡ place % 64 + 1 = omega arith in
        ap (λ (g : ℕ). kept_to groups g ((place + 1) % 64)) group ∙ ap (λ (k : ℕ). kept_to groups (place / 64) k) bit ∙ step_within groups (place / 64) (place % 64)
    go (inr last) =
        let group : (place + 1) / 64 ≡ place / 64 + 1 = omega arith in
        let bit : (place + 1) % 64 ≡ 0 = omega arith in
        let here : 63 ≡ place % 64 = omega arith in
        ap (λ (g : ℕ). kept_to groups g ((place + 1) % 64)) group ∙ ap (λ (k : ℕ). kept_to groups (place / 64 + 1) k) bit
        ∙ subst (λ (k : ℕ). kept_to groups (place / 64 + 1) 0 ≡ kept_to groups (place / 64) k + bit_at (bits_of groups (place / 64)) k) here (step_across groups (place / 64) narrow)

pub rank_grows : (groups : List Group) → ((g : ℕ) → bits_of groups g < 2 ^ 64) → (place more : ℕ) → rank_to groups place ≤ rank_to groups (place + more)
rank_grows groups narrow place zero = let e : place + zero ≡ place = omega arith in subst (λ (n : ℕ). rank_to groups place ≤ rank_to groups n) (sym e) (omega arith)
rank_grows groups narrow place (suc more) =
    let e : place + more + 1 ≡ place + suc more = omega arith in
    subst (λ (n : ℕ). rank_to groups place ≤ rank_to groups n) e
    (omega (arith, rank_grows groups narrow place more, rank_step groups (place + more) (narrow ((place + more) / 64))))

-- ---- the groups of a list

-- past the last group
pub last_group : (groups : List Group) (kept : List ℕ) (len : ℕ) → AreGroups groups kept len → length groups ≤ len / 64 + 1
last_group groups kept len are = omega (arith, are.spare)

-- the words before the end are all that are kept
pub rank_all : (groups : List Group) (kept : List ℕ) (len : ℕ) → AreGroups groups kept len → rank_to groups len ≡ length kept
rank_all groups kept len are =
    let low : count_ones (bits_of groups (len / 64) % 2 ^ (len % 64)) ≡ count_ones (bits_of groups (len / 64)) = ones_of_low (bits_of groups (len / 64)) (len % 64) are.clear in
    let whole : kept_in (take (len / 64 + 1) groups) ≡ kept_in groups = ap kept_in (take_all (len / 64 + 1) groups (last_group groups kept len are)) in
    omega (arith, low, whole, kept_more groups (len / 64), are.whole)

-- the word after the end is not kept, and none later is
pub clear_at : (groups : List Group) (kept : List ℕ) (len place : ℕ) → AreGroups groups kept len → len ≤ place → bit_at (bits_of groups (place / 64)) (place % 64) ≡ 0
clear_at groups kept len place are past = go (cases_lt (len / 64) (place / 64))
  where
    go : (len / 64 < place / 64) ⊎ (place / 64 ≤ len / 64) → bit_at (bits_of groups (place / 64)) (place % 64) ≡ 0
    go (inl later) = ap (λ (group : Group). bit_at group.bits (place % 64)) (get_or_past groups (place / 64) (empty 0) (omega (arith, last_group groups kept len are, later))) ∙ bit_at-zero (place % 64)
    go (inr same) =
        let group : len / 64 ≡ place / 64 = omega arith in
        subst (λ (g : ℕ). bit_at (bits_of groups g) (place % 64) ≡ 0) group (bit_at_above (bits_of groups (len / 64)) (len % 64) (place % 64) are.clear (omega arith))

-- a place whose word is kept is inside
pub kept_inside : (groups : List Group) (kept : List ℕ) (len place : ℕ) → AreGroups groups kept len → bit_at (bits_of groups (place / 64)) (place % 64) ≡ 1 → place < len
kept_inside groups kept len place are set = go (cases_lt place len)
  where
    go : (place < len) ⊎ (len ≤ place) → place < len
    go (inl inside) = inside
    go (inr past) = absurd (omega (arith, clear_at groups kept len place are past, set))

pub rank_is : (groups : List Group) (kept : List ℕ) (len place : ℕ) → AreGroups groups kept len → place / 64 < length groups → rank_of groups place ≡ rank_to groups place
rank_is groups kept len place are inside = ap (λ (n : ℕ). n + count_ones (bits_of groups (place / 64) % 2 ^ (place % 64))) (are.before (place / 64) inside)

-- and its rank is one of a kept word
pub rank_inside : (groups : List Group) (kept : List ℕ) (len place : ℕ) → AreGroups groups kept len → bit_at (bits_of groups (place / 64)) (place % 64) ≡ 1 → rank_of groups place < length kept
rank_inside groups kept len place are set =
    let inside : place < len = kept_inside groups kept len place are set in
    let rest : place + 1 + (len - (place + 1)) ≡ len = omega arith in
    let up : rank_to groups (place + 1) ≤ rank_to groups len = subst (λ (n : ℕ). rank_to groups (place + 1) ≤ rank_to groups n) rest (rank_grows groups are.narrow (place + 1) (len - (place + 1))) in
    let step : rank_to groups (place + 1) ≡ rank_to groups place + bit_at (bits_of groups (place / 64)) (place % 64) = rank_step groups place (are.narrow (place / 64)) in
    let is : rank_of groups place ≡ rank_to groups place = rank_is groups kept len place are (omega (arith, are.enough)) in
    let all : rank_to groups len ≡ length kept = rank_all groups kept len are in
    omega (arith, is, step, up, all, set)
