-- Rows are made block by block.
use Rattle.std.proofs.Common.{◌≡◌, ◌∙◌, ℕ, true, zero, suc, ◌+◌, ◌-◌, ◌<◌, ◌≤◌, refl, ap, sym, subst, List, [], ◌∷◌, ◌++◌, length, length-append, slice_index_or, slice_set, get_or-set_other, arith}
use Rattle.std.proofs.Math.Seq.{get_or-append_seam}
use Rattle.std.proofs.lemmas.List.{get_or_append_left, get_or_past}
use Rattle.std.proofs.Math.ListN.{length-set}
use Rattle.std.proofs.lemmas.Grind.{get_or_default_zero, get_or-set_at}
use Rattle.leak_blocks.specs.declared.block.Block.{Block}
use Rattle.leak_index.specs.declared.ranks.Row.{Row}
use Rattle.leak_index.specs.Ranks.{AreRankedTo, AreRuns, IsRow, end_of, number_at, row_of}
use Rattle.leak_index.proofs.Listing.{at_end, at_front, one_more}
use Rattle.leak_index.proofs.Near.{either}
use Rattle.leak_index.proofs.RowCounts.{fresh, row_before}

abbrev pub empty : ℕ → Row
empty n = record { bits = 0; first = n; apart = true }

-- by whether a run is the last
pub ends : (numbers places : List ℕ) (total e : ℕ) → length places ≡ length numbers → e < length numbers → (P : Type 0) →
    (e + 1 < length numbers → ((other : ℕ) → end_of places other e ≡ end_of places total e) → P) →
    (e + 1 ≡ length numbers → ((other : ℕ) → end_of places other e ≡ other) → P) → P
ends numbers places total e paired h P inner last = either (e + 1) (length numbers) P
    (λ l. inner l (λ other. get_or_default_zero places (e + 1) other (omega (arith, paired, l)) ∙ sym (get_or_default_zero places (e + 1) total (omega (arith, paired, l)))))
    (λ l. last (omega (arith, l, h)) (λ other. get_or_past places (e + 1) other (omega (arith, paired, l))))

-- one more row of the last run, in which no block starts yet
pub padded : (bs : List Block) (n next : ℕ) (numbers places : List ℕ) (rows more : List Row) → length more ≡ length rows + 1 → ((i : ℕ) (d : Row) → i < length rows → slice_index_or more i d ≡ slice_index_or rows i d) → ((d : Row) → slice_index_or more (length rows) d ≡ empty n) →
    0 < length numbers → AreRankedTo bs n next numbers places rows → AreRankedTo bs n (next + 1) numbers places more
padded bs n next numbers places rows more len same new some made = record {
  ranked = record {
    runs = record {
      ascending = runs.ascending;
      paired = runs.paired;
      filled = λ e h. by_end e h (slice_index_or places e 0 < end_of places (length more) e)
          (λ l is. omega (arith, runs.filled e h, is (length more)))
          (λ l is. omega (arith, runs.filled e h, is (length more), is (length rows), len));
      inside = λ e h. by_end e h (end_of places (length more) e ≤ length more)
          (λ l is. omega (arith, runs.inside e h, is (length more), len))
          (λ l is. omega (arith, is (length more)));
    };
    each = λ e i d h low high. either i (length rows) (IsRow bs n (number_at numbers places e i) (slice_index_or more i d))
        (λ f. subst (λ (r : Row). IsRow bs n (number_at numbers places e i) r) (sym (same i d f)) (made.ranked.each e i d h low (before e i h f high)))
        (λ f. by_end e h (IsRow bs n (number_at numbers places e i) (slice_index_or more i d))
        (λ l is. absurd (omega (arith, f, high, is (length more), runs.inside e h)))
        (λ l is. let at : length rows ≡ i = omega (arith, f, high, is (length more), len) in
        subst (λ (j : ℕ). IsRow bs n (number_at numbers places e j) (slice_index_or more j d)) at
        (subst (λ (r : Row). IsRow bs n (number_at numbers places e (length rows)) r) (sym (new d)) (fresh bs n next (number_at numbers places e (length rows)) made.known (omega (arith, made.last e l))))));
    some = made.ranked.some;
    front = made.ranked.front;
    more = λ e k h l high. by_end e h (e + 1 < length numbers)
        (λ f is. f)
        (λ f is. absurd (omega (arith, made.known k l, made.last e f, high, is (length more), len)));
    between = λ e k h l high. by_end e h (slice_index_or numbers (e + 1) 0 ≤ row_of bs k)
        (λ f is. made.ranked.between e k h l (omega (arith, high, is (length more))))
        (λ f is. absurd (omega (arith, made.known k l, made.last e f, high, is (length more), len)));
  };
  known = λ k l. omega (arith, made.known k l);
  first = λ h. some;
  close = λ e h. omega (arith, made.close e h, len);
  last = λ e h. omega (arith, made.last e h, len, runs.filled e (omega (arith, h)), runs.inside e (omega (arith, h)));
}
  where
    runs : AreRuns numbers places (length rows)
    runs = made.ranked.runs

    by_end : (e : ℕ) → e < length numbers → (P : Type 0) → (e + 1 < length numbers → ((other : ℕ) → end_of places other e ≡ end_of places (length rows) e) → P) → (e + 1 ≡ length numbers → ((other : ℕ) → end_of places other e ≡ other) → P) → P
    by_end e h = ends numbers places (length rows) e runs.paired h

    before : (e i : ℕ) → e < length numbers → i < length rows → i < end_of places (length more) e → i < end_of places (length rows) e
    before e i h f high = by_end e h (i < end_of places (length rows) e)
        (λ l is. omega (arith, high, is (length more)))
        (λ l is. omega (arith, f, is (length rows)))

-- a run begins, with a row in which no block starts yet
pub opened : (bs : List Block) (n next number : ℕ) (numbers places : List ℕ) (rows more : List Row) → length more ≡ length rows + 1 → ((i : ℕ) (d : Row) → i < length rows → slice_index_or more i d ≡ slice_index_or rows i d) → ((d : Row) → slice_index_or more (length rows) d ≡ empty n) →
    next ≤ number → AreRankedTo bs n next numbers places rows → AreRankedTo bs n (number + 1) (numbers ++ number ∷ []) (places ++ length rows ∷ []) more
opened bs n next number numbers places rows more len same new far made = record {
  ranked = record {
    runs = record {
      ascending = λ e h. either (e + 1) (length numbers) (slice_index_or (numbers ++ number ∷ []) e 0 < slice_index_or (numbers ++ number ∷ []) (e + 1) 0)
          (λ f. omega (arith, at_front numbers number e (omega (arith, f)), at_front numbers number (e + 1) f, runs.ascending e f))
          (λ f. omega (arith, at_front numbers number e (omega (arith, count, h)), at_end numbers number (e + 1) (omega (arith, f, count, h)), made.close e (omega (arith, count, h)), runs.filled e (omega (arith, count, h)), runs.inside e (omega (arith, count, h)), far));
      paired = omega (arith, count, one_more places (length rows), runs.paired);
      filled = λ e h. by_run e h (slice_index_or (places ++ length rows ∷ []) e 0 < end_of (places ++ length rows ∷ []) (length more) e)
          (λ f num pl en. omega (arith, pl, en, runs.filled e f))
          (λ f num pl en. omega (arith, pl, en, len));
      inside = λ e h. by_run e h (end_of (places ++ length rows ∷ []) (length more) e ≤ length more)
          (λ f num pl en. omega (arith, en, runs.inside e f, len))
          (λ f num pl en. omega (arith, en));
    };
    each = λ e i d h low high. by_run e h (IsRow bs n (number_at (numbers ++ number ∷ []) (places ++ length rows ∷ []) e i) (slice_index_or more i d))
        (λ f num pl en.
        let inside : i < length rows = omega (arith, high, en, runs.inside e f) in
        let is : number_at numbers places e i ≡ number_at (numbers ++ number ∷ []) (places ++ length rows ∷ []) e i = omega (arith, num, pl) in
        subst (λ (m : ℕ). IsRow bs n m (slice_index_or more i d)) is
        (subst (λ (r : Row). IsRow bs n (number_at numbers places e i) r) (sym (same i d inside)) (made.ranked.each e i d f (omega (arith, low, pl)) (omega (arith, high, en)))))
        (λ f num pl en.
        let at : length rows ≡ i = omega (arith, low, high, pl, en, len) in
        let row : slice_index_or more i d ≡ empty n = subst (λ (j : ℕ). slice_index_or more j d ≡ empty n) at (new d) in
        subst (λ (r : Row). IsRow bs n (number_at (numbers ++ number ∷ []) (places ++ length rows ∷ []) e i) r) (sym row)
        (fresh bs n next (number_at (numbers ++ number ∷ []) (places ++ length rows ∷ []) e i) made.known (omega (arith, num, pl, far))));
    some = λ k l. omega (arith, count);
    front = λ k l. omega (arith, at_front numbers number 0 (made.ranked.some k l), made.ranked.front k l);
    more = λ e k h l high. by_run e h (e + 1 < length (numbers ++ number ∷ []))
        (λ f num pl en. omega (arith, count, f))
        (λ f num pl en. absurd (omega (arith, num, pl, en, high, made.known k l, far, len)));
    between = λ e k h l high. by_run e h (slice_index_or (numbers ++ number ∷ []) (e + 1) 0 ≤ row_of bs k)
        (λ f num pl en.
        let low : number_at numbers places e (end_of places (length rows) e) ≤ row_of bs k = omega (arith, num, pl, en, high) in
        omega (arith, at_front numbers number (e + 1) (made.ranked.more e k f l low), made.ranked.between e k f l low))
        (λ f num pl en. absurd (omega (arith, num, pl, en, high, made.known k l, far, len)));
  };
  known = λ k l. omega (arith, made.known k l, far);
  first = λ h. omega (arith, count);
  close = λ e h. by_run e h (number_at (numbers ++ number ∷ []) (places ++ length rows ∷ []) e (length more) ≤ number + 1)
      (λ f num pl en. omega (arith, num, pl, len, made.close e f, far))
      (λ f num pl en. omega (arith, num, pl, len));
  last = λ e h. by_run e (omega (arith, h)) (number_at (numbers ++ number ∷ []) (places ++ length rows ∷ []) e (length more) ≡ number + 1)
      (λ f num pl en. absurd (omega (arith, h, count, f)))
      (λ f num pl en. omega (arith, num, pl, len));
}
  where
    runs : AreRuns numbers places (length rows)
    runs = made.ranked.runs

    count : length (numbers ++ number ∷ []) ≡ length numbers + 1
    count = one_more numbers number

    end_front : (e : ℕ) → e < length numbers → end_of (places ++ length rows ∷ []) (length more) e ≡ end_of places (length rows) e
    end_front e f = ends numbers places (length rows) e runs.paired f (end_of (places ++ length rows ∷ []) (length more) e ≡ end_of places (length rows) e)
        (λ l is. get_or_append_left places (length rows ∷ []) (length more) (e + 1) (omega (arith, runs.paired, l)) ∙ is (length more))
        (λ l is. let at : length places ≡ e + 1 = omega (arith, runs.paired, l) in
        subst (λ (j : ℕ). slice_index_or (places ++ length rows ∷ []) j (length more) ≡ length rows) at (get_or-append_seam places (length rows) [] (length more)) ∙ sym (is (length rows)))

    by_run : (e : ℕ) → e < length (numbers ++ number ∷ []) → (P : Type 0) →
        (e < length numbers → slice_index_or (numbers ++ number ∷ []) e 0 ≡ slice_index_or numbers e 0 → slice_index_or (places ++ length rows ∷ []) e 0 ≡ slice_index_or places e 0 → end_of (places ++ length rows ∷ []) (length more) e ≡ end_of places (length rows) e → P) →
        (e ≡ length numbers → slice_index_or (numbers ++ number ∷ []) e 0 ≡ number → slice_index_or (places ++ length rows ∷ []) e 0 ≡ length rows → end_of (places ++ length rows ∷ []) (length more) e ≡ length more → P) → P
    by_run e h P old new_run = either e (length numbers) P
        (λ f. old f (at_front numbers number e f) (at_front places (length rows) e (omega (arith, runs.paired, f))) (end_front e f))
        (λ f. new_run (omega (arith, count, h, f)) (at_end numbers number e (omega (arith, count, h, f))) (at_end places (length rows) e (omega (arith, count, h, f, runs.paired)))
        (get_or_past (places ++ length rows ∷ []) (e + 1) (length more) (omega (arith, one_more places (length rows), runs.paired, f))))

-- one more block, which starts in the last row
pub added : (bs : List Block) (n next : ℕ) (numbers places : List ℕ) (rows more : List Row) (now : Row) → row_of bs n + 1 ≡ next → IsRow bs (n + 1) (row_of bs n) now →
    length more ≡ length rows → ((i : ℕ) (d : Row) → i + 1 < length rows → slice_index_or more i d ≡ slice_index_or rows i d) → ((d : Row) → slice_index_or more (length rows - 1) d ≡ now) →
    AreRankedTo bs n next numbers places rows → AreRankedTo bs (n + 1) next numbers places more
added bs n next numbers places rows more now at_next row len same new made = record {
  ranked = record {
    runs = subst (λ (t : ℕ). AreRuns numbers places t) (sym len) runs;
    each = λ e i d h low high. each_row e i d h low (subst (λ (t : ℕ). i < end_of places t e) len high);
    some = λ k l. some;
    front = λ k l. by_block k l (slice_index_or numbers 0 0 ≤ row_of bs k) (λ f. made.ranked.front k f) (λ f row_is. omega (arith, row_is, at_next, made.close 0 some, runs.filled 0 some, runs.inside 0 some));
    more = λ e k h l high. by_end e h (e + 1 < length numbers)
        (λ f is. f)
        (λ f is. absurd (omega (arith, f, under k l, made.last e f, high, is (length more), len)));
    between = λ e k h l high. by_end e h (slice_index_or numbers (e + 1) 0 ≤ row_of bs k)
        (λ f is. by_block k l (slice_index_or numbers (e + 1) 0 ≤ row_of bs k)
        (λ old. made.ranked.between e k h old (omega (arith, high, is (length more))))
        (λ old row_is. omega (arith, row_is, at_next, made.close (e + 1) f, runs.filled (e + 1) f, runs.inside (e + 1) f)))
        (λ f is. absurd (omega (arith, f, under k l, made.last e f, high, is (length more), len)));
  };
  known = λ k l. under k l;
  first = made.first;
  close = λ e h. subst (λ (t : ℕ). number_at numbers places e t ≤ next) (sym len) (made.close e h);
  last = λ e h. subst (λ (t : ℕ). number_at numbers places e t ≡ next) (sym len) (made.last e h);
}
  where
    runs : AreRuns numbers places (length rows)
    runs = made.ranked.runs

    some : 0 < length numbers
    some = made.first (omega (arith, at_next))

    by_end : (e : ℕ) → e < length numbers → (P : Type 0) → (e + 1 < length numbers → ((other : ℕ) → end_of places other e ≡ end_of places (length rows) e) → P) → (e + 1 ≡ length numbers → ((other : ℕ) → end_of places other e ≡ other) → P) → P
    by_end e h = ends numbers places (length rows) e runs.paired h

    by_block : (k : ℕ) → k < n + 1 → (P : Type 0) → (k < n → P) → (k ≡ n → row_of bs k ≡ row_of bs n → P) → P
    by_block k l P old last = either k n P old (λ f. let at : k ≡ n = omega (arith, l, f) in last at (ap (row_of bs) at))

    under : (k : ℕ) → k < n + 1 → row_of bs k < next
    under k l = by_block k l (row_of bs k < next) (λ f. made.known k f) (λ f row_is. omega (arith, row_is, at_next))

    next_place : (e : ℕ) → e + 1 < length numbers → end_of places (length rows) e ≡ slice_index_or places (e + 1) 0
    next_place e l = get_or_default_zero places (e + 1) (length rows) (omega (arith, runs.paired, l))

    each_row : (e i : ℕ) (d : Row) → e < length numbers → slice_index_or places e 0 ≤ i → i < end_of places (length rows) e → IsRow bs (n + 1) (number_at numbers places e i) (slice_index_or more i d)
    each_row e i d h low high = either (i + 1) (length rows) (IsRow bs (n + 1) (number_at numbers places e i) (slice_index_or more i d))
        (λ f. subst (λ (r : Row). IsRow bs (n + 1) (number_at numbers places e i) r) (sym (same i d f))
        (row_before bs n (number_at numbers places e i) (slice_index_or rows i d) (omega (arith, f, low, at_next, made.close e h)) (made.ranked.each e i d h low high)))
        (λ f. by_end e h (IsRow bs (n + 1) (number_at numbers places e i) (slice_index_or more i d))
        (λ l is_end. absurd (omega (arith, f, high, next_place e l, runs.filled (e + 1) l, runs.inside (e + 1) l)))
        (λ l is_end. let at : length rows - 1 ≡ i = omega (arith, f, high, is_end (length rows)) in
        let number : row_of bs n ≡ number_at numbers places e i = omega (arith, made.last e l, at, f, low, high, is_end (length rows), at_next) in
        let here : slice_index_or more i d ≡ now = subst (λ (j : ℕ). slice_index_or more j d ≡ now) at (new d) in
        subst (λ (m : ℕ). IsRow bs (n + 1) m (slice_index_or more i d)) number
        (subst (λ (r : Row). IsRow bs (n + 1) (row_of bs n) r) (sym here) row)))

-- ---- the last row

-- the last row is the one before the next
pub last_row : (bs : List Block) (n next : ℕ) (numbers places : List ℕ) (rows : List Row) (d : Row) → 0 < next → AreRankedTo bs n next numbers places rows → (0 < length rows) × IsRow bs n (next - 1) (slice_index_or rows (length rows - 1) d)
last_row bs n next numbers places rows d some made = (omega (arith, filled), subst (λ (m : ℕ). IsRow bs n m (slice_index_or rows (length rows - 1) d)) number (made.ranked.each (length numbers - 1) (length rows - 1) d inside (omega (arith, filled)) (omega (arith, filled, end))))
  where
    inside : length numbers - 1 < length numbers
    inside = omega (arith, made.first some)

    end : end_of places (length rows) (length numbers - 1) ≡ length rows
    end = get_or_past places (length numbers - 1 + 1) (length rows) (omega (arith, made.ranked.runs.paired))

    filled : slice_index_or places (length numbers - 1) 0 < length rows
    filled = omega (arith, made.ranked.runs.filled (length numbers - 1) inside, end)

    number : number_at numbers places (length numbers - 1) (length rows - 1) ≡ next - 1
    number = omega (arith, made.last (length numbers - 1) (omega (arith, inside)), filled)

-- ---- rows that are pushed or set

pub pushed_length : (rows : List Row) (row : Row) → length (rows ++ row ∷ []) ≡ length rows + 1
pushed_length rows row = length-append rows (row ∷ [])

pub pushed_other : (rows : List Row) (row : Row) (i : ℕ) (d : Row) → i < length rows → slice_index_or (rows ++ row ∷ []) i d ≡ slice_index_or rows i d
pushed_other rows row i d h = get_or_append_left rows (row ∷ []) d i h

pub pushed_last : (rows : List Row) (row d : Row) → slice_index_or (rows ++ row ∷ []) (length rows) d ≡ row
pushed_last rows row d = get_or-append_seam rows row [] d

pub row_default : (rows : List Row) (k : ℕ) (d e : Row) → k < length rows → slice_index_or rows k d ≡ slice_index_or rows k e
row_default [] k d e h = absurd (omega (arith, h))
row_default (r ∷ rows) zero d e h = refl
row_default (r ∷ rows) (suc k) d e h = row_default rows k d e (omega (arith, h))

-- the last row, as it was read
read_last : (bs : List Block) (n next : ℕ) (numbers places : List ℕ) (rows : List Row) (len : ℕ) (row : Row) → next ≡ row_of bs n + 1 → len ≡ length rows → row ≡ slice_index_or rows (len - 1) row → AreRankedTo bs n next numbers places rows → IsRow bs n (next - 1) row
read_last bs n next numbers places rows len row at_next count is made =
    let at : len - 1 ≡ length rows - 1 = ap (λ (m : ℕ). m - 1) count in
    let same : row ≡ slice_index_or rows (length rows - 1) row = subst (λ (m : ℕ). row ≡ slice_index_or rows m row) at is in
    subst (λ (r : Row). IsRow bs n (next - 1) r) (sym same) (last_row bs n next numbers places rows row (omega (arith, at_next)) made).1

pub last_read : (bs : List Block) (n next : ℕ) (numbers places : List ℕ) (rows : List Row) (len : ℕ) (row : Row) → next ≡ row_of bs n + 1 → len ≡ length rows → row ≡ slice_index_or rows (len - 1) row → AreRankedTo bs n next numbers places rows → IsRow bs n (row_of bs n) row
last_read bs n next numbers places rows len row at_next count is made =
    let number : next - 1 ≡ row_of bs n = omega (arith, at_next) in
    subst (λ (m : ℕ). IsRow bs n m row) number (read_last bs n next numbers places rows len row at_next count is made)

-- the last row has the block too
pub bit_set : (bs : List Block) (n next : ℕ) (numbers places : List ℕ) (rows : List Row) (len : ℕ) (now : Row) → next ≡ row_of bs n + 1 → len ≡ length rows → IsRow bs (n + 1) (row_of bs n) now →
    AreRankedTo bs n next numbers places rows → AreRankedTo bs (n + 1) next numbers places (slice_set rows (len - 1) now)
bit_set bs n next numbers places rows len now at_next count row made =
    added bs n next numbers places rows (slice_set rows (len - 1) now) now (sym at_next) row
    (length-set rows (len - 1) now)
    (λ i d l. get_or-set_other rows (len - 1) i now d (omega (arith, at, l)))
    (λ d. get_or-set_at rows (len - 1) (length rows - 1) now d (sym at) (omega (arith, at, some))) made
  where
    at : len - 1 ≡ length rows - 1
    at = ap (λ (m : ℕ). m - 1) count

    some : 0 < length rows
    some = (last_row bs n next numbers places rows now (omega (arith, at_next)) made).0
