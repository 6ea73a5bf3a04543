-- What the bits of a row count.
use Rattle.std.proofs.Common.{◌≡◌, ◌∙◌, ℕ, suc, Bool, true, ◌+◌, ◌-◌, ◌*◌, ◌/◌, ◌%◌, ◌^◌, ◌<◌, ◌≤◌, ap, sym, subst, List, length, count_ones, arith}
use Rattle.std.proofs.lemmas.Nat.{pow_pos}
use Rattle.std.proofs.Math.Nat.{mod-eq_of_lt, pow-le-pow_right, two-pow-succ}
use Rattle.leak_blocks.specs.declared.block.Block.{Block}
use Rattle.leak_blocks.specs.Span.{AreDisjoint}
use Rattle.leak_index.specs.declared.ranks.Row.{Row}
use Rattle.leak_index.specs.Bounds.{IsCountUpTo}
use Rattle.leak_index.specs.Ranks.{AreAligned, IsApart, IsCountBelow, IsRow, none, row_of, start_of, stop_of}
use Rattle.leak_index.proofs.Listing.{any_default}
use Rattle.leak_index.proofs.Near.{either, ends_before}
use Rattle.leak_index.proofs.Ones.{all_low, ones_of_none, set_above, set_below}

-- no two blocks start at one address
pub strictly : (bs : List Block) (i j : ℕ) → AreDisjoint bs → i < j → j < length bs → start_of bs i < start_of bs j
strictly bs i j apart h l = omega (arith, ends_before bs i j none apart h l)

-- the block before ends before this one begins, and those before that end no later than it begins
pub apart_last : (bs : List Block) (n : ℕ) → AreDisjoint bs → n < length bs → ¬ (n ≡ 0) → stop_of bs (n - 1) < start_of bs n → IsApart bs n
apart_last bs n apart h some last = record {
  each = λ k l. either k (n - 1) (stop_of bs k < start_of bs n)
      (λ f. omega (arith, ends_before bs k (n - 1) none apart f (omega arith), last))
      (λ f. let at : n - 1 ≡ k = omega arith in subst (λ (j : ℕ). stop_of bs j < start_of bs n) at last);
}

-- ---- one more block

extended : (bs : List Block) (n address count : ℕ) → address ≤ start_of bs n → IsCountBelow bs n address count → IsCountBelow bs (n + 1) address count
extended bs n address count high old = record {
  bound = omega (arith, old.bound);
  below = old.below;
  above = λ k l m. either k n (address ≤ start_of bs k) (λ f. old.above k l f) (λ f. let at : n ≡ k = omega arith in subst (λ (j : ℕ). address ≤ start_of bs j) at high);
}

all_below : (bs : List Block) (n address : ℕ) → ((k : ℕ) → k < n → start_of bs k < address) → IsCountBelow bs n address n
all_below bs n address low = record {
  bound = omega arith;
  below = low;
  above = λ k l m. absurd (omega (arith, l, m));
}

-- a row in which no block starts yet
pub fresh : (bs : List Block) (n next number : ℕ) → ((k : ℕ) → k < n → row_of bs k < next) → next ≤ number → IsRow bs n number (record { bits = 0; first = n; apart = true })
fresh bs n next number known h = record {
  counts = λ g l.
      let zeros : count_ones (0 % 2 ^ g) ≡ 0 = ap count_ones (mod-eq_of_lt (pow_pos g)) ∙ ones_of_none in
      let same : n ≡ n + count_ones (0 % 2 ^ g) = omega arith in
      subst (λ (c : ℕ). IsCountBelow bs n (1024 * number + 16 * g) c) same (all_below bs n (1024 * number + 16 * g) (λ k m. omega (arith, known k m)));
  apart = λ t k l is. absurd (omega (arith, known k l, is, h));
}

-- of a block that starts in a later row
pub row_before : (bs : List Block) (n number : ℕ) (row : Row) → number < row_of bs n → IsRow bs n number row → IsRow bs (n + 1) number row
row_before bs n number row h old = record {
  counts = λ g l. extended bs n (1024 * number + 16 * g) (row.first + count_ones (row.bits % 2 ^ g)) (omega (arith, h, l)) (old.counts g l);
  apart = λ t k l is. either k n (IsApart bs k) (λ f. old.apart t k f is) (λ f.
      let at : n ≡ k = omega arith in
      let later : number < row_of bs k = subst (λ (j : ℕ). number < row_of bs j) at h in
      absurd (omega (arith, later, is)));
}

-- of a block that starts in the row, after the others
pub is_free : (bs : List Block) (n number g : ℕ) (row : Row) → AreDisjoint bs → n < length bs → start_of bs n ≡ 1024 * number + 16 * g → g < 64 → row.bits < 2 ^ 64 → IsRow bs n number row →
    (row.bits < 2 ^ g) × (n ≤ row.first + count_ones (row.bits % 2 ^ g))
is_free bs n number g row apart h is l fits old = (all_low row.bits g (omega (arith, whole, all, (old.counts 64 (omega arith)).bound)), all)
  where
    whole : count_ones (row.bits % 2 ^ 64) ≡ count_ones row.bits
    whole = ap count_ones (mod-eq_of_lt fits)

    all : n ≤ row.first + count_ones (row.bits % 2 ^ g)
    all = either (row.first + count_ones (row.bits % 2 ^ g)) n (n ≤ row.first + count_ones (row.bits % 2 ^ g))
        (λ f. absurd (omega (arith, (old.counts g (omega arith)).above (row.first + count_ones (row.bits % 2 ^ g)) (omega arith) f, strictly bs (row.first + count_ones (row.bits % 2 ^ g)) n apart f h, is)))
        (λ f. f)

pub row_more : (bs : List Block) (n number g : ℕ) (row : Row) (stands : Bool) → AreDisjoint bs → n < length bs → start_of bs n ≡ 1024 * number + 16 * g → g < 64 → row.bits < 2 ^ 64 → (stands ≡ true → (row.apart ≡ true) × IsApart bs n) → IsRow bs n number row →
    IsRow bs (n + 1) number (record { bits = row.bits + 2 ^ g; first = row.first; apart = stands })
row_more bs n number g row stands apart h is l fits new old = record {
  counts = λ m within. either g m (IsCountBelow bs (n + 1) (1024 * number + 16 * m) (row.first + count_ones ((row.bits + 2 ^ g) % 2 ^ m)))
      (λ f. subst (λ (c : ℕ). IsCountBelow bs (n + 1) (1024 * number + 16 * m) c) (behind m f) (all_below bs (n + 1) (1024 * number + 16 * m) (under m f)))
      (λ f. subst (λ (c : ℕ). IsCountBelow bs (n + 1) (1024 * number + 16 * m) c) (before m f) (extended bs n (1024 * number + 16 * m) (row.first + count_ones (row.bits % 2 ^ m)) (omega (arith, is, f)) (old.counts m within)));
  apart = λ t k low' at_row. either k n (IsApart bs k) (λ f. old.apart (new t).0 k f at_row) (λ f.
      let at : n ≡ k = omega arith in
      subst (λ (j : ℕ). IsApart bs j) at (new t).1);
}
  where
    free : (row.bits < 2 ^ g) × (n ≤ row.first + count_ones (row.bits % 2 ^ g))
    free = is_free bs n number g row apart h is l fits old

    low : count_ones (row.bits % 2 ^ g) ≡ count_ones row.bits
    low = ap count_ones (mod-eq_of_lt free.0)

    behind : (m : ℕ) → g < m → n + 1 ≡ row.first + count_ones ((row.bits + 2 ^ g) % 2 ^ m)
    behind m f = omega (arith, set_below row.bits g m free.0 f, low, free.1, (old.counts g (omega arith)).bound)

    before : (m : ℕ) → m ≤ g → row.first + count_ones (row.bits % 2 ^ m) ≡ row.first + count_ones ((row.bits + 2 ^ g) % 2 ^ m)
    before m f =
        let at : g - m + m ≡ g = omega arith in
        ap (λ (b : ℕ). row.first + count_ones b) (sym (subst (λ (j : ℕ). (row.bits + 2 ^ j) % 2 ^ m ≡ row.bits % 2 ^ m) at (set_above row.bits m (g - m))))

    under : (m : ℕ) → g < m → (k : ℕ) → k < n + 1 → start_of bs k < 1024 * number + 16 * m
    under m f k low' = either k n (start_of bs k < 1024 * number + 16 * m)
        (λ e. omega (arith, strictly bs k n apart e h, is, f))
        (λ e. let at : n ≡ k = omega arith in subst (λ (j : ℕ). start_of bs j < 1024 * number + 16 * m) at (omega (arith, is, f)))

bit_fits : (bits g : ℕ) → bits < 2 ^ g → g < 64 → bits + 2 ^ g < 2 ^ 64
bit_fits bits g low h =
    let least : suc g ≤ 64 = omega arith in
    let double : 2 ^ suc g ≡ 2 ^ g + 2 ^ g = two-pow-succ g in
    let room : 2 ^ suc g ≤ 2 ^ 64 = pow-le-pow_right {n = 2} (omega arith) least in
    omega arith

-- by the granule of the block, which starts at `start`
granule : (bs : List Block) (n start : ℕ) → start ≡ start_of bs n → start % 16 ≡ 0 → start_of bs n ≡ 1024 * row_of bs n + 16 * (start / 16 % 64)
granule bs n start here aligned = omega (arith, here, aligned)

pub bit_room : (bs : List Block) (n start : ℕ) (row : Row) → AreDisjoint bs → start ≡ start_of bs n → start % 16 ≡ 0 → n < length bs → row.bits < 2 ^ 64 → IsRow bs n (row_of bs n) row → row.bits + 2 ^ (start / 16 % 64) < 2 ^ 64
bit_room bs n start row apart here aligned h fits old =
    bit_fits row.bits (start / 16 % 64) (is_free bs n (row_of bs n) (start / 16 % 64) row apart h (granule bs n start here aligned) (omega arith) fits old).0 (omega arith)

pub with_bit : (bs : List Block) (n start bit : ℕ) (row : Row) (stands : Bool) → AreDisjoint bs → start ≡ start_of bs n → start % 16 ≡ 0 → n < length bs → row.bits < 2 ^ 64 → bit ≡ 2 ^ (start / 16 % 64) → (stands ≡ true → (row.apart ≡ true) × IsApart bs n) → IsRow bs n (row_of bs n) row →
    IsRow bs (n + 1) (row_of bs n) (record { bits = row.bits + bit; first = row.first; apart = stands })
with_bit bs n start bit row stands apart here aligned h fits bit_is told old =
    subst (λ (b : ℕ). IsRow bs (n + 1) (row_of bs n) (record { bits = row.bits + b; first = row.first; apart = stands })) (sym bit_is)
    (row_more bs n (row_of bs n) (start / 16 % 64) row stands apart h (granule bs n start here aligned) (omega arith) fits told old)

-- ---- the count for an address

-- if each block starts at a multiple of 16, those below the end of the address's granule begin at the address or before it
pub up_to : (bs : List Block) (address below count : ℕ) → AreAligned bs → below ≡ 16 * (address / 16) + 16 → IsCountBelow bs (length bs) below count → IsCountUpTo bs address count
up_to bs address below count aligned is up = record {
  bound = up.bound;
  within = λ k d h. subst (λ (b : Block). b.start ≤ address) (any_default bs k none d (omega (arith, up.bound, h))) (omega (arith, up.below k h, aligned.each k (omega (arith, up.bound, h)), is));
  beyond = λ k d h l. subst (λ (b : Block). address < b.start) (any_default bs k none d l) (omega (arith, up.above k h l, is));
}
