-- The lines of a report belong together: each live block is marked or leaked, and each leaked block has its line and its caller's.
use Rattle.std.proofs.Common.{◌≡◌, ℕ, ◌+◌, ◌<◌, Bool, true, false, ◌||◌, ◌==◌, cond, List, [], ◌∷◌, length, map, filter, sum_by, bytes_eq, Option, None, Some, refl, sym, ap, ◌∙◌, arith}
use Rattle.std.specs.Prelude.{IfSome}
use Rattle.std.specs.List.{AllByRecursion, list_any}
use Rattle.std.specs.List.Sorted.{IsStrictlySortedBy}
use Rattle.std.specs.Ordering.{nat_cmp}
use Rattle.std.specs.declared.cmp.Ordering.TheVariants.{Less, Equal, Greater}
use Rattle.std.proofs.lemmas.Bool.{lt-ltb}
use Rattle.std.proofs.lemmas.List.{length-map}
use Rattle.std.proofs.lemmas.List.Sums.{sum_by-cons}
use Rattle.leak_lemmas.proofs.Orders.{nat_less as compares}
use Rattle.leak_blocks.specs.declared.block.Block.{Block}
use Rattle.leak_report.specs.declared.head.Head.{Head}
use Rattle.leak_report.specs.declared.totals.CallerRow.{CallerRow}
use Rattle.leak_report.specs.Laws.{AreSums, HasRow}
use Rattle.leak_report.specs.Misfits.{misfits_in}
use Rattle.leak_report.specs.declared.leaked.Leak.{Leak}
use Rattle.leak_report.specs.Totals.{bytes_in, bytes_of, heads_in, leaked_in, leaks_in, marked_in, rows_of, text_at, with_text}
use Rattle.leak_lemmas.proofs.Members.{each_implied, each_mapped}
use Rattle.leak_report.proofs.Sums.{rows_sum_up}
use Rattle.leak_laws.proofs.CallerSums.{in_sum, in_text, same_rank}
use Rattle.leak_laws.specs.Reports.{misfit_rows_told, misfits_told, told_caller, told_leak, told_misfit, told_of}
use Rattle.leak_laws.specs.Together.{BelongTogether, HasCaller, heads_among}
use Rattle.leak_laws.specs.Told.{ToldCaller, ToldLeak}
use Rattle.leak_laws.proofs.Ascending.{Ascend}
use Rattle.leak_laws.proofs.TextSums.{length_sum, sum_map}

-- ---- marked and leaked

pub parted_blocks : (set : List Bool) (blocks : List Block) → length set ≡ length blocks → length blocks ≡ length (marked_in set blocks) + length (leaked_in set blocks)
parted_blocks [] [] n = refl
parted_blocks [] (b ∷ blocks) n = absurd (omega (arith, n))
parted_blocks (s ∷ set) [] n = absurd (omega (arith, n))
parted_blocks (true ∷ set) (b ∷ blocks) n = omega (arith, parted_blocks set blocks (omega (arith, n)))
parted_blocks (false ∷ set) (b ∷ blocks) n = omega (arith, parted_blocks set blocks (omega (arith, n)))

pub parted_bytes : (set : List Bool) (blocks : List Block) → length set ≡ length blocks → bytes_of blocks ≡ bytes_of (marked_in set blocks) + bytes_of (leaked_in set blocks)
parted_bytes [] [] n = refl
parted_bytes [] (b ∷ blocks) n = absurd (omega (arith, n))
parted_bytes (s ∷ set) [] n = absurd (omega (arith, n))
parted_bytes (true ∷ set) (b ∷ blocks) n =
    omega (arith, parted_bytes set blocks (omega (arith, n)), sum_by-cons (λ (c : Block). c.size) b blocks, sum_by-cons (λ (c : Block). c.size) b (marked_in set blocks))
parted_bytes (false ∷ set) (b ∷ blocks) n =
    omega (arith, parted_bytes set blocks (omega (arith, n)), sum_by-cons (λ (c : Block). c.size) b blocks, sum_by-cons (λ (c : Block). c.size) b (leaked_in set blocks))

leaks_blocks : (set heads : List Bool) (blocks : List Block) → length set ≡ length blocks → length heads ≡ length blocks → map (λ l. l.block) (leaks_in set heads blocks) ≡ leaked_in set blocks
leaks_blocks [] heads blocks n m = refl
leaks_blocks (s ∷ set) [] [] n m = refl
leaks_blocks (s ∷ set) [] (b ∷ blocks) n m = absurd (omega (arith, m))
leaks_blocks (s ∷ set) (h ∷ heads) [] n m = absurd (omega (arith, n))
leaks_blocks (true ∷ set) (h ∷ heads) (b ∷ blocks) n m = leaks_blocks set heads blocks (omega (arith, n)) (omega (arith, m))
leaks_blocks (false ∷ set) (h ∷ heads) (b ∷ blocks) n m = ap (λ (bs : List Block). b ∷ bs) (leaks_blocks set heads blocks (omega (arith, n)) (omega (arith, m)))

-- ---- order

leaked_above : (a : ℕ) (set heads : List Bool) (blocks : List Block) → AllByRecursion (λ c. a < c.start) blocks → AllByRecursion (λ l. a < l.block.start) (leaks_in set heads blocks)
leaked_above a [] heads blocks up = tt
leaked_above a (s ∷ set) [] blocks up = tt
leaked_above a (s ∷ set) (h ∷ heads) [] up = tt
leaked_above a (true ∷ set) (h ∷ heads) (b ∷ blocks) up = leaked_above a set heads blocks up.1
leaked_above a (false ∷ set) (h ∷ heads) (b ∷ blocks) up = (up.0, leaked_above a set heads blocks up.1)

leaks_up : (log : List ℕ) (set heads : List Bool) (blocks : List Block) → Ascend blocks → IsStrictlySortedBy (λ k l. nat_cmp k.start l.start) (map (told_leak log) (leaks_in set heads blocks))
unfolding IsStrictlySortedBy
leaks_up log [] heads blocks up = tt
leaks_up log (s ∷ set) [] blocks up = tt
leaks_up log (s ∷ set) (h ∷ heads) [] up = tt
leaks_up log (true ∷ set) (h ∷ heads) (b ∷ blocks) up = leaks_up log set heads blocks up.1
leaks_up log (false ∷ set) (h ∷ heads) (b ∷ blocks) up = (
  each_mapped (told_leak log) (λ l. nat_cmp b.start l.start ≡ Less) (leaks_in set heads blocks)
      (each_implied (λ l. b.start < l.block.start) (λ l. nat_cmp b.start l.block.start ≡ Less) (λ l lt. compares b.start l.block.start lt) (leaks_in set heads blocks) (leaked_above b.start set heads blocks up.0)),
  leaks_up log set heads blocks up.1,
)

misfits_above : (a : ℕ) (fits : List Bool) (blocks : List Block) → AllByRecursion (λ c. a < c.start) blocks → AllByRecursion (λ c. a < c.start) (misfits_in fits blocks)
misfits_above a [] blocks up = tt
misfits_above a (f ∷ fits) [] up = tt
misfits_above a (true ∷ fits) (b ∷ blocks) up = misfits_above a fits blocks up.1
misfits_above a (false ∷ fits) (b ∷ blocks) up = (up.0, misfits_above a fits blocks up.1)

some_up : (log : List ℕ) (fits : List Bool) (blocks : List Block) → Ascend blocks → IsStrictlySortedBy (λ k l. nat_cmp k.start l.start) (map (told_misfit log) (misfits_in fits blocks))
unfolding IsStrictlySortedBy
some_up log [] blocks up = tt
some_up log (f ∷ fits) [] up = tt
some_up log (true ∷ fits) (b ∷ blocks) up = some_up log fits blocks up.1
some_up log (false ∷ fits) (b ∷ blocks) up = (
  each_mapped (told_misfit log) (λ m. nat_cmp b.start m.start ≡ Less) (misfits_in fits blocks)
      (each_implied (λ c. b.start < c.start) (λ c. nat_cmp b.start c.start ≡ Less) (λ c lt. compares b.start c.start lt) (misfits_in fits blocks) (misfits_above b.start fits blocks up.0)),
  some_up log fits blocks up.1,
)

misfits_up : (log : List ℕ) (fits : Option (List Bool)) (blocks : List Block) → Ascend blocks → IsStrictlySortedBy (λ k l. nat_cmp k.start l.start) (misfit_rows_told log fits blocks)
unfolding IsStrictlySortedBy
misfits_up log None blocks up = tt
misfits_up log (Some fits) blocks up = some_up log fits blocks up

misfits_count : (log : List ℕ) (fits : Option (List Bool)) (blocks : List Block) → IfSome (misfits_told fits blocks) (λ n. n ≡ length (misfit_rows_told log fits blocks))
misfits_count log None blocks = tt
misfits_count log (Some fits) blocks = sym (length-map (misfits_in fits blocks) (told_misfit log))

-- ---- all lines

heads_sum : (leaks : List Leak) → heads_in leaks ≡ sum_by (λ l. cond l.head 1 0) leaks
heads_sum [] = refl
heads_sum (l ∷ leaks) = go l.head (heads_sum leaks) (sum_by-cons (λ (k : Leak). cond k.head 1 0) l leaks)
  where
    go : (t : Bool) → heads_in leaks ≡ sum_by (λ k. cond k.head 1 0) leaks → sum_by (λ k. cond k.head 1 0) (l ∷ leaks) ≡ cond l.head 1 0 + sum_by (λ k. cond k.head 1 0) leaks
        → length (cond l.head (l ∷ filter (λ k. k.head) leaks) (filter (λ k. k.head) leaks)) ≡ sum_by (λ k. cond k.head 1 0) (l ∷ leaks)
    go t rest e = by l.head rest ∙ sym e
      where
        by : (u : Bool) → heads_in leaks ≡ sum_by (λ k. cond k.head 1 0) leaks → length (cond u (l ∷ filter (λ k. k.head) leaks) (filter (λ k. k.head) leaks)) ≡ cond u 1 0 + sum_by (λ k. cond k.head 1 0) leaks
        by true rest = omega (arith, rest)
        by false rest = omega (arith, rest)

heads_told : (log : List ℕ) (leaks : List Leak) → length (heads_among (map (told_leak log) leaks)) ≡ heads_in leaks
heads_told log [] = refl
heads_told log (l ∷ leaks) = go l.head (heads_told log leaks)
  where
    go : (t : Bool) → length (heads_among (map (told_leak log) leaks)) ≡ heads_in leaks
        → length (cond t (told_leak log l ∷ heads_among (map (told_leak log) leaks)) (heads_among (map (told_leak log) leaks))) ≡ length (cond t (l ∷ filter (λ k. k.head) leaks) (filter (λ k. k.head) leaks))
    go true rest = omega (arith, rest)
    go false rest = rest

any_told : (log text : List ℕ) (rows : List CallerRow) → list_any (λ c. bytes_eq c.text text) (map (told_caller log) rows) ≡ list_any (λ r. bytes_eq (text_at log r.caller) text) rows
any_told log text [] = refl
any_told log text (r ∷ rows) = ap (λ (b : Bool). bytes_eq (text_at log r.caller) text || b) (any_told log text rows)

pub belong : (head : Head) (blocks : List Block) (set heads : List Bool) (fits : Option (List Bool)) (log : List ℕ) → length set ≡ length blocks → length heads ≡ length blocks → Ascend blocks
    → BelongTogether (told_of head blocks set heads fits log)
belong head blocks set heads fits log n m up =
    let leaks : List Leak = leaks_in set heads blocks in
    let rows : List CallerRow = rows_of log (leaks_in set heads blocks) in
    let are : AreSums log (leaks_in set heads blocks) (rows_of log (leaks_in set heads blocks)) = rows_sum_up log (leaks_in set heads blocks) in
    let same : map (λ l. l.block) (leaks_in set heads blocks) ≡ leaked_in set blocks = leaks_blocks set heads blocks n m in
    let many : length (leaks_in set heads blocks) ≡ length (leaked_in set blocks) = sym (length-map (leaks_in set heads blocks) (λ (l : Leak). l.block)) ∙ ap length same in
    let bytes : bytes_in (leaks_in set heads blocks) ≡ bytes_of (leaked_in set blocks) = sym (sum_map (λ (l : Leak). l.block) (λ (b : Block). b.size) (leaks_in set heads blocks)) ∙ ap bytes_of same in
    record {
      blocks = parted_blocks set blocks n;
      bytes = parted_bytes set blocks n;
      leaks = length-map (leaks_in set heads blocks) (told_leak log) ∙ many;
      sizes = sum_map (told_leak log) (λ (l : ToldLeak). l.size) (leaks_in set heads blocks) ∙ bytes;
      heads = heads_told log (leaks_in set heads blocks);
      caller_blocks = sum_map (told_caller log) (λ (c : ToldCaller). c.blocks) (rows_of log (leaks_in set heads blocks))
          ∙ in_sum log (leaks_in set heads blocks) (λ l. 1) (λ r. r.blocks) (rows_of log (leaks_in set heads blocks)) are (λ r is. is.count ∙ length_sum (with_text log (text_at log r.caller) (leaks_in set heads blocks)))
          ∙ sym (length_sum (leaks_in set heads blocks)) ∙ many;
      caller_bytes = sum_map (told_caller log) (λ (c : ToldCaller). c.bytes) (rows_of log (leaks_in set heads blocks))
          ∙ in_sum log (leaks_in set heads blocks) (λ l. l.block.size) (λ r. r.bytes) (rows_of log (leaks_in set heads blocks)) are (λ r is. is.bytes) ∙ bytes;
      caller_heads = sum_map (told_caller log) (λ (c : ToldCaller). c.heads) (rows_of log (leaks_in set heads blocks))
          ∙ in_sum log (leaks_in set heads blocks) (λ l. cond l.head 1 0) (λ r. r.heads) (rows_of log (leaks_in set heads blocks)) are (λ r is. is.heads ∙ heads_sum (with_text log (text_at log r.caller) (leaks_in set heads blocks)))
          ∙ sym (heads_sum (leaks_in set heads blocks));
      texts = in_text log (leaks_in set heads blocks) (rows_of log (leaks_in set heads blocks)) are.each are.order;
      every = each_mapped (told_leak log) (HasCaller (map (told_caller log) (rows_of log (leaks_in set heads blocks)))) (leaks_in set heads blocks)
          (each_implied (HasRow log (rows_of log (leaks_in set heads blocks))) (λ l. HasCaller (map (told_caller log) (rows_of log (leaks_in set heads blocks))) (told_leak log l))
          (λ l has. any_told log (text_at log l.block.caller) (rows_of log (leaks_in set heads blocks)) ∙ has) (leaks_in set heads blocks) are.every);
      callers_ranked = same_rank log (rows_of log (leaks_in set heads blocks)) are.order;
      leaks_ascend = leaks_up log set heads blocks up;
      misfits_ascend = misfits_up log fits blocks up;
      misfits = misfits_count log fits blocks;
    }
