-- The bits that stay of a group of which only some words stay, group by group.
use Rattle.std.proofs.Common.{◌≡◌, ◌∙◌, ℕ, zero, suc, ◌+◌, ◌-◌, ◌*◌, ◌%◌, ◌^◌, ◌<◌, ◌≤◌, ◌⊎◌, inl, inr, ap, sym, refl, subst, Bool, true, false, List, length, get_or, set, take, count_ones, arith}
use Rattle.std.specs.Prelude.{if◌then◌else◌}
use Rattle.std.specs.Int.{bit_at}
use Rattle.std.proofs.lemmas.Bool.{cases_lt, cases_eq}
use Rattle.std.proofs.lemmas.Nat.{mod-pow-add, one_shl}
use Rattle.std.proofs.lemmas.Nat.Bits.{bit_at_above}
use Rattle.std.proofs.lemmas.List.{get_or-set_other, get_or-set_same, length-set, take-set-le}
use Rattle.std.proofs.lemmas.List.Sums.{sum_by-take-le}
use Rattle.std.proofs.Math.Nat.{mod-eq_of_lt}
use mir.Val.{bool_byte}
use Rattle.leak_sparse.specs.declared.group.Group.{Group}
use Rattle.leak_sparse.specs.Bits.{IsLowestFrom}
use Rattle.leak_sparse.specs.Groups.{AreBitsBetween, AreGroups, AreGroupsBetween, empty, kept_in, word_in}
use Rattle.leak_sparse.specs.Words.{is_between}
use Rattle.leak_sparse.proofs.BitLemmas.{below_next, bit_below, bit_here, grows, ones_of_low, ones_step}
use Rattle.leak_sparse.proofs.RankLemmas.{bits_of, kept_more}
use Rattle.leak_sparse.proofs.ViewLemmas.{in_set}

-- a choice between what is the same, and one of a bit or none
pub either : (b : Bool) (n : ℕ) → (if b then n else n) ≡ n
either true n = refl
either false n = refl

pub chosen : (b : Bool) (bit old : ℕ) → bit ≡ (if b then old else 0) → (bit ≡ old) ⊎ (bit ≡ 0)
chosen true bit old e = inl e
chosen false bit old e = inr e

-- ---- the bits so far

-- below this one
pub record AreBitsTo (low high : ℕ) (kept : List ℕ) (group : Group) (bits from : ℕ) : Type 0 where
  pub below : bits < 2 ^ from
  pub each : (k : ℕ) → k < from → bit_at bits k ≡ (if is_between low high (word_in group kept k) then bit_at group.bits k else 0)

module _ (low high : ℕ) (kept : List ℕ) (group : Group) where
  pub bits_none : AreBitsTo low high kept group 0 0
  bits_none = record { below = omega arith; each = λ k h. absurd (omega (arith, h)) }

  -- past bits that aren't set
  pub bits_skip : (bits from bit : ℕ) → AreBitsTo low high kept group bits from → from ≤ bit → ((k : ℕ) → from ≤ k → k < bit → bit_at group.bits k ≡ 0) → AreBitsTo low high kept group bits bit
  bits_skip bits from bit to h none = record { below = grows bits from bit to.below h; each = λ k l. go k l (cases_lt k from) }
    where
      go : (k : ℕ) → k < bit → (k < from) ⊎ (from ≤ k) → bit_at bits k ≡ (if is_between low high (word_in group kept k) then bit_at group.bits k else 0)
      go k l (inl before) = to.each k before
      go k l (inr at) =
          bit_at_above bits from k to.below at
          ∙ sym (ap (λ (b : ℕ). if is_between low high (word_in group kept k) then b else 0) (none k at l) ∙ either (is_between low high (word_in group kept k)) 0)

  -- the word goes
  pub bits_out : (bits bit : ℕ) → AreBitsTo low high kept group bits bit → is_between low high (word_in group kept bit) ≡ false → AreBitsTo low high kept group bits (bit + 1)
  bits_out bits bit to out = record { below = grows bits bit (bit + 1) to.below (omega arith); each = λ k l. go k l (cases_lt k bit) }
    where
      go : (k : ℕ) → k < bit + 1 → (k < bit) ⊎ (bit ≤ k) → bit_at bits k ≡ (if is_between low high (word_in group kept k) then bit_at group.bits k else 0)
      go k l (inl before) = to.each k before
      go k l (inr at) =
          let same : bit ≡ k = omega arith in
          subst (λ (j : ℕ). bit_at bits j ≡ (if is_between low high (word_in group kept j) then bit_at group.bits j else 0)) same
          (bit_at_above bits bit bit to.below (omega arith) ∙ sym (ap (λ (b : Bool). if b then bit_at group.bits bit else 0) out))

  -- the word stays
  pub bits_in : (bits bit : ℕ) → AreBitsTo low high kept group bits bit → bit_at group.bits bit ≡ 1 → is_between low high (word_in group kept bit) ≡ true → AreBitsTo low high kept group (bits + 2 ^ bit) (bit + 1)
  bits_in bits bit to set stays = record { below = below_next bits bit to.below; each = λ k l. go k l (cases_lt k bit) }
    where
      go : (k : ℕ) → k < bit + 1 → (k < bit) ⊎ (bit ≤ k) → bit_at (bits + 2 ^ bit) k ≡ (if is_between low high (word_in group kept k) then bit_at group.bits k else 0)
      go k l (inl before) = bit_below bits bit k before ∙ to.each k before
      go k l (inr at) =
          let same : bit ≡ k = omega arith in
          subst (λ (j : ℕ). bit_at (bits + 2 ^ bit) j ≡ (if is_between low high (word_in group kept j) then bit_at group.bits j else 0)) same
          (bit_here bits bit to.below ∙ sym set ∙ sym (ap (λ (b : Bool). if b then bit_at group.bits bit else 0) stays))

  pub bits_all : (bits from : ℕ) → AreBitsTo low high kept group bits from → 64 ≤ from → from ≤ 64 → AreBitsBetween low high kept group bits
  bits_all bits from to past within =
      let end : from ≡ 64 = omega arith in
      let all = subst (λ (k : ℕ). AreBitsTo low high kept group bits k) end to in
      record { narrow = all.below; each = all.each }

  -- ---- a lower number than before

  weighed : (x y a b p : ℕ) → (x ≡ y) ⊎ (x ≡ 0) → a ≤ b → x * p + a ≤ y * p + b
  weighed x y a b p (inl e) h = subst (λ (z : ℕ). x * p + a ≤ z * p + b) e (omega (arith, h))
  weighed x y a b p (inr e) h = subst (λ (z : ℕ). z * p + a ≤ y * p + b) (sym e) (omega (arith, h))

  lower_to : (bits : ℕ) → AreBitsBetween low high kept group bits → (k : ℕ) → k ≤ 64 → bits % 2 ^ k ≤ group.bits % 2 ^ k
  lower_to bits are zero h = let e : bits % 1 ≡ 0 = omega arith in subst (λ (n : ℕ). n ≤ group.bits % 2 ^ 0) (sym e) (omega arith)
  lower_to bits are (suc k) h =
      let at : 1 + k ≡ suc k = omega arith in
      let here = weighed (bit_at bits k) (bit_at group.bits k) (bits % 2 ^ k) (group.bits % 2 ^ k) (2 ^ k)
      (chosen (is_between low high (word_in group kept k)) (bit_at bits k) (bit_at group.bits k) (are.each k (omega (arith, h)))) (lower_to bits are k (omega (arith, h))) in
      subst (λ (n : ℕ). bits % 2 ^ n ≤ group.bits % 2 ^ n) at
      (subst (λ (n : ℕ). n ≤ group.bits % 2 ^ (1 + k)) (sym (mod-pow-add bits 1 k))
      (subst (λ (n : ℕ). bit_at bits k * 2 ^ k + bits % 2 ^ k ≤ n) (sym (mod-pow-add group.bits 1 k)) here))

  pub lower : (bits : ℕ) → AreBitsBetween low high kept group bits → group.bits < 2 ^ 64 → bits ≤ group.bits
  lower bits are narrow =
      subst (λ (n : ℕ). n ≤ group.bits) (mod-eq_of_lt are.narrow)
      (subst (λ (n : ℕ). bits % 2 ^ 64 ≤ n) (mod-eq_of_lt narrow) (lower_to bits are 64 (omega arith)))

-- ---- how many bits are set below one

-- past bits that aren't set
pub ones_skip : (bits from n : ℕ) → ((k : ℕ) → from ≤ k → k < from + n → bit_at bits k ≡ 0) → count_ones (bits % 2 ^ (from + n)) ≡ count_ones (bits % 2 ^ from)
ones_skip bits from zero none = let at : from + zero ≡ from = omega arith in ap (λ (k : ℕ). count_ones (bits % 2 ^ k)) at
ones_skip bits from (suc n) none =
    let at : from + suc n ≡ from + n + 1 = omega arith in
    ap (λ (k : ℕ). count_ones (bits % 2 ^ k)) at
    ∙ omega (arith, ones_step bits (from + n), none (from + n) (omega arith) (omega arith), ones_skip bits from n (λ k l h. none k l (omega (arith, h))))

pub ones_up : (bits from n : ℕ) → count_ones (bits % 2 ^ from) ≤ count_ones (bits % 2 ^ (from + n))
ones_up bits from zero = let at : from ≡ from + zero = omega arith in subst (λ (k : ℕ). count_ones (bits % 2 ^ from) ≤ count_ones (bits % 2 ^ k)) at (omega arith)
ones_up bits from (suc n) =
    let at : from + n + 1 ≡ from + suc n = omega arith in
    subst (λ (k : ℕ). count_ones (bits % 2 ^ from) ≤ count_ones (bits % 2 ^ k)) at
    (omega (arith, ones_up bits from n, ones_step bits (from + n)))

-- those of all bits are as many at least
pub ones_part : (bits k : ℕ) → k ≤ 64 → bits < 2 ^ 64 → count_ones (bits % 2 ^ k) ≤ count_ones bits
ones_part bits k h narrow =
    let at : k + (64 - k) ≡ 64 = omega arith in
    let up = subst (λ (n : ℕ). count_ones (bits % 2 ^ k) ≤ count_ones (bits % 2 ^ n)) at (ones_up bits k (64 - k)) in
    omega (arith, up, ones_of_low bits 64 narrow)

-- up to the next that is set
pub ones_next : (bits from bit : ℕ) → IsLowestFrom bits from bit → count_ones (bits % 2 ^ bit) ≡ count_ones (bits % 2 ^ from)
ones_next bits from bit low =
    let at : from + (bit - from) ≡ bit = omega (arith, low.at_or_after) in
    subst (λ (k : ℕ). count_ones (bits % 2 ^ k) ≡ count_ones (bits % 2 ^ from)) at (ones_skip bits from (bit - from) (λ k l h. low.least k l (omega (arith, at, h))))

module _ (low high : ℕ) (kept : List ℕ) (group : Group) (bits rank from bit : ℕ) (lowest : IsLowestFrom group.bits from bit) (ranked : rank ≡ group.before + count_ones (group.bits % 2 ^ from)) where
  -- the rank is that of the next bit
  pub rank_here : group.before + count_ones (group.bits % 2 ^ bit) ≡ rank
  rank_here = omega (arith, ranked, ones_next group.bits from bit lowest)

  pub rank_after : rank + 1 ≡ group.before + count_ones (group.bits % 2 ^ (bit + 1))
  rank_after = omega (arith, rank_here, ones_step group.bits bit, lowest.set)

  pub rank_within : group.bits < 2 ^ 64 → group.before + count_ones group.bits ≤ length kept → rank < length kept
  rank_within narrow fits = omega (arith, rank_after, ones_part group.bits (bit + 1) (omega (arith, lowest.within)) narrow, fits)

  -- and the word read is the bit's
  pub word_here : word_in group kept bit ≡ get_or kept rank 0
  word_here = in_set group kept bit lowest.set ∙ ap (λ (n : ℕ). get_or kept n 0) rank_here

  reached : AreBitsTo low high kept group bits from → AreBitsTo low high kept group bits bit
  reached to = bits_skip low high kept group bits from bit to lowest.at_or_after lowest.least

  pub after_out : AreBitsTo low high kept group bits from → is_between low high (get_or kept rank 0) ≡ false → AreBitsTo low high kept group bits (bit + 1)
  after_out to out = bits_out low high kept group bits bit (reached to) (ap (is_between low high) word_here ∙ out)

  pub after_in : AreBitsTo low high kept group bits from → is_between low high (get_or kept rank 0) ≡ true → AreBitsTo low high kept group (bits + 1 * 2 ^ bit % 2 ^ 64) (bit + 1)
  after_in to stays =
      subst (λ (n : ℕ). AreBitsTo low high kept group (bits + n) (bit + 1)) (sym (one_shl bit 64 lowest.within))
      (bits_in low high kept group bits bit (reached to) lowest.set (ap (is_between low high) word_here ∙ stays))

  -- whether it stays or goes
  pub after_either : AreBitsTo low high kept group bits from → (b : Bool) (n : ℕ) → b ≡ is_between low high (get_or kept rank 0) → n ≡ bool_byte b → AreBitsTo low high kept group (bits + n * 2 ^ bit % 2 ^ 64) (bit + 1)
  after_either to true n e is = subst (λ (m : ℕ). AreBitsTo low high kept group (bits + m * 2 ^ bit % 2 ^ 64) (bit + 1)) (sym is) (after_in to (sym e))
  after_either to false n e is =
      let same : bits ≡ bits + 0 * 2 ^ bit % 2 ^ 64 = omega arith in
      subst (λ (m : ℕ). AreBitsTo low high kept group (bits + m * 2 ^ bit % 2 ^ 64) (bit + 1)) (sym is)
      (subst (λ (m : ℕ). AreBitsTo low high kept group m (bit + 1)) same (after_out to (sym e)))

-- ---- the groups so far

pub record AreGroupsTo (low high : ℕ) (kept : List ℕ) (groups now : List Group) (number before : ℕ) : Type 0 where
  pub long : length now ≡ length groups
  pub bits : (g : ℕ) → g < number → AreBitsBetween low high kept (get_or groups g (empty 0)) (bits_of now g)
  pub counted : (g : ℕ) → g < number → (get_or now g (empty 0)).before ≡ kept_in (take g now)
  pub rest : (g : ℕ) → number ≤ g → get_or now g (empty 0) ≡ get_or groups g (empty 0)
  pub so_far : before ≡ kept_in (take number now)

pub groups_none : (low high : ℕ) (kept : List ℕ) (groups : List Group) → AreGroupsTo low high kept groups groups 0 0
groups_none low high kept groups = record {
  long = refl;
  bits = λ g h. absurd (omega (arith, h));
  counted = λ g h. absurd (omega (arith, h));
  rest = λ g h. refl;
  so_far = refl;
}

pub groups_next : (low high : ℕ) (kept : List ℕ) (groups now : List Group) (number before bits : ℕ) → AreGroupsTo low high kept groups now number before → number < length groups
    → AreBitsBetween low high kept (get_or groups number (empty 0)) bits → AreGroupsTo low high kept groups (set now number (record { bits = bits; before = before })) (number + 1) (before + count_ones bits)
groups_next low high kept groups now number before bits to h are = record {
  long = length-set now number new ∙ to.long;
  bits = λ g l. bits_at g l (cases_eq g number);
  counted = λ g l. counted_at g l (cases_eq g number);
  rest = λ g l. get_or-set_other now number g new (empty 0) (λ e. omega (arith, e, l)) ∙ to.rest g (omega (arith, l));
  so_far = sum;
}
  where
    new : Group
    new = record { bits = bits; before = before }

    later : List Group
    later = set now number new

    here : get_or later number (empty 0) ≡ new
    here = get_or-set_same now number new (empty 0) (omega (arith, h, to.long))

    first : (g : ℕ) → g ≤ number → kept_in (take g later) ≡ kept_in (take g now)
    first g l = ap kept_in (take-set-le g now number new l)

    sum : before + count_ones bits ≡ kept_in (take (number + 1) later)
    sum =
        let ones : count_ones (bits_of later number) ≡ count_ones bits = ap (λ (group : Group). count_ones group.bits) here in
        omega (arith, kept_more later number, ones, first number (omega arith), to.so_far)

    bits_at : (g : ℕ) → g < number + 1 → (g ≡ number) ⊎ (g ≡ number → ⊥) → AreBitsBetween low high kept (get_or groups g (empty 0)) (bits_of later g)
    bits_at g l (inl e) =
        subst (λ (j : ℕ). AreBitsBetween low high kept (get_or groups j (empty 0)) (bits_of later j)) (sym e)
        (subst (λ (group : Group). AreBitsBetween low high kept (get_or groups number (empty 0)) group.bits) (sym here) are)
    bits_at g l (inr ne) =
        subst (λ (group : Group). AreBitsBetween low high kept (get_or groups g (empty 0)) group.bits) (sym (get_or-set_other now number g new (empty 0) ne))
        (to.bits g (omega (arith, l, ne)))

    counted_at : (g : ℕ) → g < number + 1 → (g ≡ number) ⊎ (g ≡ number → ⊥) → (get_or later g (empty 0)).before ≡ kept_in (take g later)
    counted_at g l (inl e) =
        subst (λ (j : ℕ). (get_or later j (empty 0)).before ≡ kept_in (take j later)) (sym e)
        (ap (λ (group : Group). group.before) here ∙ to.so_far ∙ sym (first number (omega arith)))
    counted_at g l (inr ne) =
        ap (λ (group : Group). group.before) (get_or-set_other now number g new (empty 0) ne)
        ∙ to.counted g (omega (arith, l, ne)) ∙ sym (first g (omega (arith, l)))

pub groups_all : (low high : ℕ) (kept : List ℕ) (groups now : List Group) (number before : ℕ) → AreGroupsTo low high kept groups now number before → length groups ≤ number → AreGroupsBetween low high kept groups now
groups_all low high kept groups now number before to past = record {
  long = to.long;
  bits = λ g h. to.bits g (omega (arith, h, past));
  before = λ g h. to.counted g (omega (arith, h, past));
}

-- ---- what the code reads

pub group_held : (groups : List Group) (kept : List ℕ) (len g : ℕ) → AreGroups groups kept len → g < length groups → (get_or groups g (empty 0)).before + count_ones (bits_of groups g) ≤ length kept
group_held groups kept len g are h =
    omega (arith, are.before g h, kept_more groups g, sum_by-take-le (λ (group : Group). count_ones group.bits) groups (g + 1), are.whole)
