-- Rows lead to how many blocks begin at an address or before it.
use Rattle.std.proofs.Common.{◌≡◌, ℕ, true, ◌+◌, ◌-◌, ◌*◌, ◌/◌, ◌%◌, ◌^◌, ◌<◌, ◌≤◌, sym, subst, List, length, slice_index_or, count_ones, arith}
use Rattle.leak_blocks.specs.declared.block.Block.{Block}
use Rattle.leak_index.specs.declared.ranks.Row.{Row}
use Rattle.leak_index.specs.Bounds.{IsCountUpTo}
use Rattle.leak_index.specs.AddressPlaces.{IsOnlyStart}
use Rattle.leak_index.specs.Ranks.{AreAligned, IsApart, AreRanked, IsCountBelow, IsRow, end_of, none, number_at, row_of, start_of}
use Rattle.leak_index.proofs.Listing.{any_default}
use Rattle.leak_index.proofs.Ones.{ones_set}
use Rattle.leak_index.proofs.RowCounts.{up_to}

-- the first run begins above the address
pub ranked_none : (bs : List Block) (numbers places : List ℕ) (rows : List Row) (w : ℕ) → AreRanked bs (length bs) numbers places rows → (0 < length numbers → w / 1024 < slice_index_or numbers 0 0) → IsCountUpTo bs w 0
ranked_none bs numbers places rows w ranked above = record {
  bound = omega arith;
  within = λ k d h. absurd (omega (arith, h));
  beyond = λ k d h l. subst (λ (b : Block). w < b.start) (any_default bs k none d l) (omega (arith, above (ranked.some k l), ranked.front k l));
}

-- the row of the address counts the blocks up to it
pub row_count : (bs : List Block) (w ones : ℕ) (row : Row) → AreAligned bs → IsRow bs (length bs) (w / 1024) row → ones ≡ count_ones (row.bits % 2 ^ (w / 16 % 64 + 1)) → IsCountUpTo bs w (row.first + ones)
row_count bs w ones row aligned is e =
    subst (λ (m : ℕ). IsCountUpTo bs w (row.first + m)) (sym e)
    (up_to bs w (1024 * (w / 1024) + 16 * (w / 16 % 64 + 1)) _ aligned (omega arith) (is.counts (w / 16 % 64 + 1) (omega arith)))

-- and if the bit of its granule is set, the last of them begins there
pub row_start : (bs : List Block) (w ones : ℕ) (row : Row) → AreAligned bs → IsRow bs (length bs) (w / 1024) row → row.apart ≡ true → w % 16 ≡ 0 → row.bits / 2 ^ (w / 16 % 64) % 2 ≡ 1 → ones ≡ count_ones (row.bits % 2 ^ (w / 16 % 64 + 1)) →
    (1 ≤ row.first + ones) × IsOnlyStart bs w (row.first + ones - 1)
row_start bs w ones row aligned is t exact set e = (
  omega (arith, next, e),
  subst (IsOnlyStart bs w) at (record {
    inside = inside;
    here = λ d. subst (λ (b : Block). b.start ≡ w) (any_default bs number none d inside) here;
    before = λ k d h. subst (λ (b : Block). b.start + b.size < w) (any_default bs k none d (omega (arith, h, inside))) (omega (arith, apart.each k h, here));
  }),
)
  where
    number : ℕ
    number = row.first + count_ones (row.bits % 2 ^ (w / 16 % 64))

    next : count_ones (row.bits % 2 ^ (w / 16 % 64 + 1)) ≡ count_ones (row.bits % 2 ^ (w / 16 % 64)) + 1
    next = ones_set row.bits (w / 16 % 64) set

    at : number ≡ row.first + ones - 1
    at = omega (arith, next, e)

    below : IsCountBelow bs (length bs) (1024 * (w / 1024) + 16 * (w / 16 % 64)) number
    below = is.counts (w / 16 % 64) (omega arith)

    up : IsCountBelow bs (length bs) (1024 * (w / 1024) + 16 * (w / 16 % 64 + 1)) (row.first + count_ones (row.bits % 2 ^ (w / 16 % 64 + 1)))
    up = is.counts (w / 16 % 64 + 1) (omega arith)

    inside : number < length bs
    inside = omega (arith, up.bound, next)

    here : start_of bs number ≡ w
    here = omega (arith, below.above number (omega arith) inside, up.below number (omega (arith, next)), aligned.each number inside, exact)

    apart : IsApart bs number
    apart = is.apart t number inside (omega (arith, here))

-- the address is after the run, and before the next
pub ranked_behind : (bs : List Block) (numbers places : List ℕ) (rows : List Row) (w e : ℕ) (d : Row) → AreRanked bs (length bs) numbers places rows → e < length numbers →
    number_at numbers places e (end_of places (length rows) e) ≤ w / 1024 → (e + 1 < length numbers → w / 1024 < slice_index_or numbers (e + 1) 0) →
    IsCountUpTo bs w ((slice_index_or rows (end_of places (length rows) e - 1) d).first + count_ones ((slice_index_or rows (end_of places (length rows) e - 1) d).bits % 2 ^ 64))
ranked_behind bs numbers places rows w e d ranked h behind before = record {
  bound = up.bound;
  within = λ k f l. subst (λ (b : Block). b.start ≤ w) (any_default bs k none f (omega (arith, up.bound, l))) (omega (arith, up.below k l, end, behind));
  beyond = λ k f l m.
      let high : number_at numbers places e (end_of places (length rows) e) ≤ row_of bs k = omega (arith, up.above k l m, end) in
      subst (λ (b : Block). w < b.start) (any_default bs k none f m) (omega (arith, before (ranked.more e k h m high), ranked.between e k h m high));
}
  where
    filled : slice_index_or places e 0 < end_of places (length rows) e
    filled = ranked.runs.filled e h

    row : IsRow bs (length bs) (number_at numbers places e (end_of places (length rows) e - 1)) (slice_index_or rows (end_of places (length rows) e - 1) d)
    row = ranked.each e (end_of places (length rows) e - 1) d h (omega (arith, filled)) (omega (arith, filled))

    up : IsCountBelow bs (length bs) (1024 * number_at numbers places e (end_of places (length rows) e - 1) + 16 * 64) ((slice_index_or rows (end_of places (length rows) e - 1) d).first + count_ones ((slice_index_or rows (end_of places (length rows) e - 1) d).bits % 2 ^ 64))
    up = row.counts 64 (omega arith)

    end : number_at numbers places e (end_of places (length rows) e - 1) + 1 ≡ number_at numbers places e (end_of places (length rows) e)
    end = omega (arith, filled)

-- the last row of the run, as it was read, counts all up to its end
pub counted_row : (bs : List Block) (w : ℕ) (row found : Row) (many n : ℕ) → found ≡ row → n ≡ count_ones (found.bits % 2 ^ many) → IsCountUpTo bs w (row.first + count_ones (row.bits % 2 ^ many)) → IsCountUpTo bs w (found.first + n)
counted_row bs w row found many n same is up =
    subst (λ (m : ℕ). IsCountUpTo bs w (found.first + m)) (sym is) (subst (λ (r : Row). IsCountUpTo bs w (r.first + count_ones (r.bits % 2 ^ many))) (sym same) up)

pub ranked_after : (bs : List Block) (numbers places : List ℕ) (rows : List Row) (w e end : ℕ) (d : Row) → AreRanked bs (length bs) numbers places rows → e < length numbers → end ≡ end_of places (length rows) e →
    number_at numbers places e (end_of places (length rows) e) ≤ w / 1024 → (e + 1 < length numbers → w / 1024 < slice_index_or numbers (e + 1) 0) →
    IsCountUpTo bs w ((slice_index_or rows (end - 1) d).first + count_ones ((slice_index_or rows (end - 1) d).bits % 2 ^ 64))
ranked_after bs numbers places rows w e end d ranked h is behind before =
    subst (λ (j : ℕ). IsCountUpTo bs w ((slice_index_or rows (j - 1) d).first + count_ones ((slice_index_or rows (j - 1) d).bits % 2 ^ 64))) (sym is) (ranked_behind bs numbers places rows w e d ranked h behind before)

-- the row that was read is that of the address
pub row_read : (bs : List Block) (numbers places : List ℕ) (rows : List Row) (w e i : ℕ) (found : Row) → AreRanked bs (length bs) numbers places rows → e < length numbers → slice_index_or places e 0 ≤ i → i < end_of places (length rows) e →
    number_at numbers places e i ≡ w / 1024 → found ≡ slice_index_or rows i found → IsRow bs (length bs) (w / 1024) found
row_read bs numbers places rows w e i found ranked h low high is same =
    subst (λ (r : Row). IsRow bs (length bs) (w / 1024) r) (sym same)
    (subst (λ (m : ℕ). IsRow bs (length bs) m (slice_index_or rows i found)) is (ranked.each e i found h low high))
