-- The report of blocks whose callers' texts are kept elsewhere is that of the blocks in the log.
use Rattle.std.proofs.Common.{◌≡◌, ◌∙◌, ℕ, ◌<◌, Bool, true, false, not, cond, List, [], ◌∷◌, ◌++◌, length, map, get_or, drop, filter, flat_map, sum_by, bytes_eq, Option, None, Some, All, codes, refl, ap, ap₂, sym, arith}
use Rattle.std.specs.List.{AllByRecursion, AllZip}
use Rattle.std.specs.Cmp.Lexicographic.{slice_cmp}
use Rattle.std.specs.Ordering.{nat_cmp, ordering_then, is_lt}
use Rattle.std.proofs.lemmas.List.Elements.{All-head, All-tail}
use Rattle.std.proofs.lemmas.List.Sums.{sum_by-cons}
use Rattle.leak_blocks.specs.declared.block.Block.{Block}
use Rattle.leak_report.specs.Sites.{with_callers}
use Rattle.leak_report.specs.declared.head.Head.{Head}
use Rattle.leak_report.specs.declared.totals.CallerRow.{CallerRow}
use Rattle.leak_report.specs.Totals.{Leak, IsIn, marked_in, leaked_in, leaks_in, bytes_in, heads_in, text_at, with_text, has_same_text, first_of_each, row_of, rank, placed, ranked, rows_of}
use Rattle.leak_report.specs.Lines.{newline, blocks_line, sizes_line, undumped_line, log_line, freed_lines, dead_lines, two_lines, heads_line, kind_of, caller_front, leak_front, caller_line, leak_line}
use Rattle.leak_report.specs.Misfits.{misfits_in, number_line, misfit_front, misfit_line, misfit_sums, misfit_lines}
use Rattle.leak_report.specs.Numbered.{texts_of}
use Rattle.leak_report.specs.Report.{sums_of, text_of}
use Rattle.leak_report.specs.Elsewhere.{ReportsGoByTexts, text_there}

-- ---- lists item by item

-- a function of four
four : {A B C D E : Type 0} (f : A → B → C → D → E) (a k : A) (b l : B) (c m : C) (d n : D) → a ≡ k → b ≡ l → c ≡ m → d ≡ n → f a b c d ≡ f k l m n
four f a k b l c m d n p q r s = cc

length-both : {X : Type 0} (R : X → X → Type 0) (xs ys : List X) → AllZip R xs ys → length xs ≡ length ys
length-both R [] [] all = refl
length-both R [] (y ∷ ys) all = absurd all
length-both R (x ∷ xs) [] all = absurd all
length-both R (x ∷ xs) (y ∷ ys) all = let rest = length-both R xs ys all.1 in omega (arith, rest)

sum_by-both : {X : Type 0} (R : X → X → Type 0) (f : X → ℕ) → ((x y : X) → R x y → f x ≡ f y) → (xs ys : List X) → AllZip R xs ys → sum_by f xs ≡ sum_by f ys
sum_by-both R f same [] [] all = refl
sum_by-both R f same [] (y ∷ ys) all = absurd all
sum_by-both R f same (x ∷ xs) [] all = absurd all
sum_by-both R f same (x ∷ xs) (y ∷ ys) all =
    let first : f x ≡ f y = same x y all.0 in
    let rest : sum_by f xs ≡ sum_by f ys = sum_by-both R f same xs ys all.1 in
    omega (arith, sum_by-cons f x xs, sum_by-cons f y ys)

flat_map-both : {X : Type 0} (R : X → X → Type 0) (f g : X → List ℕ) → ((x y : X) → R x y → f x ≡ g y) → (xs ys : List X) → AllZip R xs ys → flat_map f xs ≡ flat_map g ys
flat_map-both R f g same [] [] all = refl
flat_map-both R f g same [] (y ∷ ys) all = absurd all
flat_map-both R f g same (x ∷ xs) [] all = absurd all
flat_map-both R f g same (x ∷ xs) (y ∷ ys) all = ap₂ (λ (s t : List ℕ). s ++ t) (same x y all.0) (flat_map-both R f g same xs ys all.1)

map-both : {X Y : Type 0} (R : X → X → Type 0) (Q : Y → Y → Type 0) (f g : X → Y) → ((x y : X) → R x y → Q (f x) (g y)) → (xs ys : List X) → AllZip R xs ys → AllZip Q (map f xs) (map g ys)
map-both R Q f g same [] [] all = all
map-both R Q f g same [] (y ∷ ys) all = absurd all
map-both R Q f g same (x ∷ xs) [] all = absurd all
map-both R Q f g same (x ∷ xs) (y ∷ ys) all = (same x y all.0, map-both R Q f g same xs ys all.1)

filter-both : {X : Type 0} (R : X → X → Type 0) (p q : X → Bool) → ((x y : X) → R x y → p x ≡ q y) → (xs ys : List X) → AllZip R xs ys → AllZip R (filter p xs) (filter q ys)
filter-both R p q same [] [] all = all
filter-both R p q same [] (y ∷ ys) all = absurd all
filter-both R p q same (x ∷ xs) [] all = absurd all
filter-both R p q same (x ∷ xs) (y ∷ ys) all = go (p x) (q y) (same x y all.0) (filter-both R p q same xs ys all.1)
  where
    go : (s t : Bool) → s ≡ t → AllZip R (filter p xs) (filter q ys) → AllZip R (cond s (x ∷ filter p xs) (filter p xs)) (cond t (y ∷ filter q ys) (filter q ys))
    go true true e rest = (all.0, rest)
    go true false e rest = absurd (cc)
    go false true e rest = absurd (cc)
    go false false e rest = rest

-- ---- blocks, leaks and rows that differ at most in where the texts of their callers are

module _ (log kept : List ℕ) where
  record AreAlike (b c : Block) : Type 0 where
    start : b.start ≡ c.start
    size : b.size ≡ c.size
    line : b.line ≡ c.line
    text : text_at log b.caller ≡ text_at kept c.caller

  record LeaksAreAlike (l m : Leak) : Type 0 where
    block : AreAlike l.block m.block
    head : l.head ≡ m.head

  record RowsAreAlike (r s : CallerRow) : Type 0 where
    blocks : r.blocks ≡ s.blocks
    bytes : r.bytes ≡ s.bytes
    heads : r.heads ≡ s.heads
    text : text_at log r.caller ≡ text_at kept s.caller

  -- ---- the blocks of the set and the others

  marked_both : (set : List Bool) (bs cs : List Block) → AllZip AreAlike bs cs → AllZip AreAlike (marked_in set bs) (marked_in set cs)
  marked_both [] bs cs all = tt
  marked_both (s ∷ set) [] [] all = tt
  marked_both (s ∷ set) [] (c ∷ cs) all = absurd all
  marked_both (s ∷ set) (b ∷ bs) [] all = absurd all
  marked_both (true ∷ set) (b ∷ bs) (c ∷ cs) all = (all.0, marked_both set bs cs all.1)
  marked_both (false ∷ set) (b ∷ bs) (c ∷ cs) all = marked_both set bs cs all.1

  leaked_both : (set : List Bool) (bs cs : List Block) → AllZip AreAlike bs cs → AllZip AreAlike (leaked_in set bs) (leaked_in set cs)
  leaked_both [] bs cs all = tt
  leaked_both (s ∷ set) [] [] all = tt
  leaked_both (s ∷ set) [] (c ∷ cs) all = absurd all
  leaked_both (s ∷ set) (b ∷ bs) [] all = absurd all
  leaked_both (true ∷ set) (b ∷ bs) (c ∷ cs) all = leaked_both set bs cs all.1
  leaked_both (false ∷ set) (b ∷ bs) (c ∷ cs) all = (all.0, leaked_both set bs cs all.1)

  misfits_both : (fits : List Bool) (bs cs : List Block) → AllZip AreAlike bs cs → AllZip AreAlike (misfits_in fits bs) (misfits_in fits cs)
  misfits_both [] bs cs all = tt
  misfits_both (f ∷ fits) [] [] all = tt
  misfits_both (f ∷ fits) [] (c ∷ cs) all = absurd all
  misfits_both (f ∷ fits) (b ∷ bs) [] all = absurd all
  misfits_both (true ∷ fits) (b ∷ bs) (c ∷ cs) all = misfits_both fits bs cs all.1
  misfits_both (false ∷ fits) (b ∷ bs) (c ∷ cs) all = (all.0, misfits_both fits bs cs all.1)

  leaks_both : (set heads : List Bool) (bs cs : List Block) → AllZip AreAlike bs cs → AllZip LeaksAreAlike (leaks_in set heads bs) (leaks_in set heads cs)
  leaks_both [] heads bs cs all = tt
  leaks_both (s ∷ set) [] bs cs all = tt
  leaks_both (s ∷ set) (h ∷ heads) [] [] all = tt
  leaks_both (s ∷ set) (h ∷ heads) [] (c ∷ cs) all = absurd all
  leaks_both (s ∷ set) (h ∷ heads) (b ∷ bs) [] all = absurd all
  leaks_both (true ∷ set) (h ∷ heads) (b ∷ bs) (c ∷ cs) all = leaks_both set heads bs cs all.1
  leaks_both (false ∷ set) (h ∷ heads) (b ∷ bs) (c ∷ cs) all = (record { block = all.0; head = refl }, leaks_both set heads bs cs all.1)

  -- ---- rows

  with_text-both : (text other : List ℕ) → text ≡ other → (ls ms : List Leak) → AllZip LeaksAreAlike ls ms → AllZip LeaksAreAlike (with_text log text ls) (with_text kept other ms)
  with_text-both text other e ls ms all =
      filter-both LeaksAreAlike (λ l. bytes_eq (text_at log l.block.caller) text) (λ m. bytes_eq (text_at kept m.block.caller) other)
      (λ l m h. ap₂ bytes_eq h.block.text e) ls ms all

  bytes_in-both : (ls ms : List Leak) → AllZip LeaksAreAlike ls ms → bytes_in ls ≡ bytes_in ms
  bytes_in-both ls ms all = sum_by-both LeaksAreAlike (λ l. l.block.size) (λ l m h. h.block.size) ls ms all

  heads_in-both : (ls ms : List Leak) → AllZip LeaksAreAlike ls ms → heads_in ls ≡ heads_in ms
  heads_in-both ls ms all =
      length-both LeaksAreAlike (filter (λ l. l.head) ls) (filter (λ l. l.head) ms) (filter-both LeaksAreAlike (λ l. l.head) (λ l. l.head) (λ l m h. h.head) ls ms all)

  first_both : (ls ms : List Leak) → AllZip LeaksAreAlike ls ms → AllZip LeaksAreAlike (first_of_each log ls) (first_of_each kept ms)
  first_both [] [] all = all
  first_both [] (m ∷ ms) all = absurd all
  first_both (l ∷ ls) [] all = absurd all
  first_both (l ∷ ls) (m ∷ ms) all = (
    all.0,
    filter-both LeaksAreAlike (λ c. not (has_same_text log l c)) (λ c. not (has_same_text kept m c))
        (λ c d h. ap₂ (λ (s t : List ℕ). not (bytes_eq s t)) all.0.block.text h.block.text) (first_of_each log ls) (first_of_each kept ms) (first_both ls ms all.1),
  )

  row_both : (ls ms : List Leak) → AllZip LeaksAreAlike ls ms → (l m : Leak) → LeaksAreAlike l m → RowsAreAlike (row_of log ls l) (row_of kept ms m)
  row_both ls ms all l m h =
      let with = with_text-both (text_at log l.block.caller) (text_at kept m.block.caller) h.block.text ls ms all in
      let ours : List Leak = with_text log (text_at log l.block.caller) ls in
      let theirs : List Leak = with_text kept (text_at kept m.block.caller) ms in
      record {
        blocks = length-both LeaksAreAlike ours theirs with;
        bytes = bytes_in-both ours theirs with;
        heads = heads_in-both ours theirs with;
        text = h.block.text;
      }

  rank_both : (r s t u : CallerRow) → RowsAreAlike r t → RowsAreAlike s u → rank log r s ≡ rank kept t u
  rank_both r s t u h k =
      four (λ (x y : ℕ) (v w : List ℕ). ordering_then (nat_cmp y x) (slice_cmp nat_cmp v w)) r.bytes t.bytes s.bytes u.bytes
      (text_at log r.caller) (text_at kept t.caller) (text_at log s.caller) (text_at kept u.caller) h.bytes k.bytes h.text k.text

  placed_both : (r s : CallerRow) → RowsAreAlike r s → (rs ss : List CallerRow) → AllZip RowsAreAlike rs ss → AllZip RowsAreAlike (placed log r rs) (placed kept s ss)
  placed_both r s h [] [] all = (h, tt)
  placed_both r s h [] (u ∷ us) all = absurd all
  placed_both r s h (t ∷ ts) [] all = absurd all
  placed_both r s h (t ∷ ts) (u ∷ us) all = go (is_lt (rank log r t)) (is_lt (rank kept s u)) (ap is_lt (rank_both r t s u h all.0)) (placed_both r s h ts us all.1)
    where
      go : (x y : Bool) → x ≡ y → AllZip RowsAreAlike (placed log r ts) (placed kept s us)
          → AllZip RowsAreAlike (cond x (r ∷ t ∷ ts) (t ∷ placed log r ts)) (cond y (s ∷ u ∷ us) (u ∷ placed kept s us))
      go true true e rest = (h, all)
      go true false e rest = absurd (cc)
      go false true e rest = absurd (cc)
      go false false e rest = (all.0, rest)

  ranked_both : (rs ss : List CallerRow) → AllZip RowsAreAlike rs ss → AllZip RowsAreAlike (ranked log rs) (ranked kept ss)
  ranked_both [] [] all = all
  ranked_both [] (s ∷ ss) all = absurd all
  ranked_both (r ∷ rs) [] all = absurd all
  ranked_both (r ∷ rs) (s ∷ ss) all = placed_both r s all.0 (ranked log rs) (ranked kept ss) (ranked_both rs ss all.1)

  rows_both : (ls ms : List Leak) → AllZip LeaksAreAlike ls ms → AllZip RowsAreAlike (rows_of log ls) (rows_of kept ms)
  unfolding rows_of
  rows_both ls ms all =
      ranked_both (map (row_of log ls) (first_of_each log ls)) (map (row_of kept ms) (first_of_each kept ms))
      (map-both LeaksAreAlike RowsAreAlike (row_of log ls) (row_of kept ms) (row_both ls ms all) (first_of_each log ls) (first_of_each kept ms) (first_both ls ms all))

  -- ---- lines

  caller_line-both : (r s : CallerRow) → RowsAreAlike r s → caller_line log r ≡ caller_line kept s
  caller_line-both r s h =
      four (λ (blocks bytes heads : ℕ) (text : List ℕ). caller_front blocks bytes heads ++ text ++ newline) r.blocks s.blocks r.bytes s.bytes r.heads s.heads
      (text_at log r.caller) (text_at kept s.caller) h.blocks h.bytes h.heads h.text

  misfit_line-both : (b c : Block) → AreAlike b c → misfit_line log b ≡ misfit_line kept c
  misfit_line-both b c h =
      four (λ (start size line : ℕ) (text : List ℕ). misfit_front start size line ++ text ++ newline) b.start c.start b.size c.size b.line c.line
      (text_at log b.caller) (text_at kept c.caller) h.start h.size h.line h.text

  leak_line-both : (l m : Leak) → LeaksAreAlike l m → leak_line log l ≡ leak_line kept m
  leak_line-both l m h =
      four (λ (start size line : ℕ) (text : List ℕ). leak_front start size line (kind_of l.head) ++ text ++ newline)
      l.block.start m.block.start l.block.size m.block.size l.block.line m.block.line (text_at log l.block.caller) (text_at kept m.block.caller)
      h.block.start h.block.size h.block.line h.block.text
      ∙ ap (λ (held : Bool). leak_front m.block.start m.block.size m.block.line (kind_of held) ++ text_at kept m.block.caller ++ newline) h.head

  blocks_line-both : (name : List ℕ) (bs cs : List Block) → AllZip AreAlike bs cs → blocks_line name bs ≡ blocks_line name cs
  blocks_line-both name bs cs all =
      ap₂ (sizes_line name) (length-both AreAlike bs cs all) (sum_by-both AreAlike (λ b. b.size) (λ b c h. h.size) bs cs all)

  sums_both : (head : Head) (set heads : List Bool) (bs cs : List Block) → AllZip AreAlike bs cs → sums_of head bs set heads ≡ sums_of head cs set heads
  sums_both head set heads bs cs all =
      four (λ (live marked leaked : List ℕ) (number : ℕ).
      live ++ undumped_line head ++ log_line head ++ freed_lines head.freed ++ dead_lines head.dead ++ two_lines head.two ++ marked ++ leaked ++ heads_line number)
      (blocks_line (codes "blocks") bs) (blocks_line (codes "blocks") cs)
      (blocks_line (codes "marked") (marked_in set bs)) (blocks_line (codes "marked") (marked_in set cs))
      (blocks_line (codes "leaked") (leaked_in set bs)) (blocks_line (codes "leaked") (leaked_in set cs))
      (heads_in (leaks_in set heads bs)) (heads_in (leaks_in set heads cs))
      (blocks_line-both (codes "blocks") bs cs all)
      (blocks_line-both (codes "marked") (marked_in set bs) (marked_in set cs) (marked_both set bs cs all))
      (blocks_line-both (codes "leaked") (leaked_in set bs) (leaked_in set cs) (leaked_both set bs cs all))
      (heads_in-both (leaks_in set heads bs) (leaks_in set heads cs) (leaks_both set heads bs cs all))

  misfit_sums-both : (fits : Option (List Bool)) (bs cs : List Block) → AllZip AreAlike bs cs → misfit_sums fits bs ≡ misfit_sums fits cs
  misfit_sums-both None bs cs all = refl
  misfit_sums-both (Some fits) bs cs all = ap number_line (length-both AreAlike (misfits_in fits bs) (misfits_in fits cs) (misfits_both fits bs cs all))

  misfit_lines-both : (fits : Option (List Bool)) (bs cs : List Block) → AllZip AreAlike bs cs → misfit_lines log fits bs ≡ misfit_lines kept fits cs
  misfit_lines-both None bs cs all = refl
  misfit_lines-both (Some fits) bs cs all =
      flat_map-both AreAlike (misfit_line log) (misfit_line kept) misfit_line-both (misfits_in fits bs) (misfits_in fits cs) (misfits_both fits bs cs all)

  text_both : (head : Head) (set heads : List Bool) (fits : Option (List Bool)) (bs cs : List Block) → AllZip AreAlike bs cs
      → text_of head cs set heads fits kept ≡ text_of head bs set heads fits log
  unfolding text_of
  text_both head set heads fits bs cs all =
      let ls : List Leak = leaks_in set heads bs in
      let ms : List Leak = leaks_in set heads cs in
      let leaks : AllZip LeaksAreAlike ls ms = leaks_both set heads bs cs all in
      sym (ap (λ (first : List ℕ). first ++ misfit_sums fits bs ++ flat_map (caller_line log) (rows_of log ls) ++ flat_map (leak_line log) ls ++ misfit_lines log fits bs)
      (sums_both head set heads bs cs all)
      ∙ four (λ (number rows lines misfits : List ℕ). sums_of head cs set heads ++ number ++ rows ++ lines ++ misfits)
      (misfit_sums fits bs) (misfit_sums fits cs)
      (flat_map (caller_line log) (rows_of log ls)) (flat_map (caller_line kept) (rows_of kept ms))
      (flat_map (leak_line log) ls) (flat_map (leak_line kept) ms)
      (misfit_lines log fits bs) (misfit_lines kept fits cs)
      (misfit_sums-both fits bs cs all)
      (flat_map-both RowsAreAlike (caller_line log) (caller_line kept) caller_line-both (rows_of log ls) (rows_of kept ms) (rows_both ls ms leaks))
      (flat_map-both LeaksAreAlike (leak_line log) (leak_line kept) leak_line-both ls ms leaks)
      (misfit_lines-both fits bs cs all))

  -- ---- blocks with the places of their numbers

  are_alike : (places : List (ℕ × ℕ)) (numbers : List ℕ) (blocks : List Block) → length numbers ≡ length blocks → map (text_there kept places) numbers ≡ texts_of log blocks
      → AllZip AreAlike blocks (with_callers places numbers blocks)
  are_alike places [] [] same is = tt
  are_alike places [] (b ∷ blocks) same is = absurd (omega (arith, same))
  are_alike places (n ∷ numbers) [] same is = absurd (omega (arith, same))
  are_alike places (n ∷ numbers) (b ∷ blocks) same is = (
    record { start = refl; size = refl; line = refl; text = sym (ap (λ (ts : List (List ℕ)). get_or ts 0 []) is) },
    are_alike places numbers blocks (omega (arith, same)) (ap (λ (ts : List (List ℕ)). drop 1 ts) is),
  )

  have_callers : (places : List (ℕ × ℕ)) (numbers : List ℕ) (blocks : List Block) → All (λ n. n < length places) numbers → All (IsIn kept) places
      → AllByRecursion (λ b. IsIn kept b.caller) (with_callers places numbers blocks)
  have_callers places [] blocks below inside = tt
  have_callers places (n ∷ numbers) [] below inside = tt
  have_callers places (n ∷ numbers) (b ∷ blocks) below inside = (
    inside n (0, 0) (All-head (λ n. n < length places) n numbers below),
    have_callers places numbers blocks (All-tail (λ n. n < length places) n numbers below) inside,
  )

pub reports_go_by_texts : ReportsGoByTexts
reports_go_by_texts log kept places numbers blocks are =
    let alike : AllZip (AreAlike log kept) blocks (with_callers places numbers blocks) = are_alike log kept places numbers blocks are.one_each are.same in
    record {
      count = sym (length-both (AreAlike log kept) blocks (with_callers places numbers blocks) alike);
      in_kept = have_callers log kept places numbers blocks are.within are.inside;
      report = λ head set heads fits. text_both log kept head set heads fits blocks (with_callers places numbers blocks) alike;
    }
