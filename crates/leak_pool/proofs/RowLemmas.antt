-- How many targets rows have, and what is over their room.
use Rattle.std.proofs.Common.{◌≡◌, refl, ℕ, zero, suc, ◌+◌, ◌*◌, ◌/◌, ◌%◌, ◌<◌, ◌≤◌, List, [], ◌∷◌, ◌++◌, length, map, get_or, take, drop, Option, Some, Result, Ok, sym, ap, ◌∙◌, subst, ◌⊎◌, inl, inr, ⊎_elim, arith, length-append, append-nil}
use Rattle.std.proofs.Math.Nat.{eq-or-lt_of_le, mod-lt, mul_comm, suc-mul, div-le_of_le-mul, mul-le-mul_left, mul-le-mul_right, mul-div-le}
use Rattle.std.proofs.lemmas.Bool.{cases_lt}
use Rattle.std.proofs.lemmas.Nat.{div-add-mod', mul-le}
use Rattle.std.proofs.Math.Seq.{get_or-append_seam}
use Rattle.std.proofs.lemmas.Grind.{div_ceil_times}
use Rattle.std.proofs.lemmas.List.{length-map, get_or-map, get_or_append_left, take_all, take-map, drop-map}
use Rattle.std.proofs.lemmas.List.Sums.{sum_by_more, sum_by-take-le, sum-map, sum_by-le}
use Rattle.std.proofs.lemmas.Slice.Chunks.{sum_by_chunks}
use Rattle.std.specs.Prelude.{IfOk}
use Rattle.std.specs.declared.alloc.AllocError.{AllocError}
use Rattle.std.specs.Fork.{slice_chunk}
use Rattle.std.specs.Int.{div_ceil}
use Rattle.std.specs.List.{All}
use Rattle.leak_blocks.specs.declared.block.Block.{Block}
use Rattle.leak_index.specs.Hits.{Index}
use Rattle.leak_elf.specs.Words.{words_between}
use Rattle.leak_scan.specs.Targets.{targets_of, block_targets}
use Rattle.leak_pool.specs.Items.{targets_of_block}
use Rattle.leak_pool.specs.Edges.{AreListed, AreRows, IsRow, kept_count, row_size, share_of, target_count}
use Rattle.leak_pool.specs.Scopes.{all_targets}
use Rattle.leak_pool.specs.declared.rows.Rows.{Rows}

-- ---- one row

-- where one target more does not fit, not all do
pub over_more : (now start led left rest : List ℕ) (target room : ℕ) → now ++ left ≡ start ++ led → left ≡ target ∷ rest → length now ≡ room → room < length start + length led
over_more now start led left rest target room is more full =
    let a = length-append now left in
    let b = length-append start led in
    let e = ap (λ (l : List ℕ). length l) is in
    let f = ap (λ (l : List ℕ). length l) more in
    omega (arith, a, b, e, f, full)

-- where nothing is left, all are listed
pub all_there : (now start led left : List ℕ) → now ++ left ≡ start ++ led → left ≡ [] → now ≡ start ++ led
all_there now start led left is none = sym (append-nil now) ∙ ap (λ (l : List ℕ). now ++ l) (sym none) ∙ is

-- one list more is counted
pub count_more : (lists : List (List ℕ)) (k : ℕ) (now more behind : List ℕ) → k < length lists → length now ≡ target_count (take k lists) → behind ≡ now ++ more → targets_of_block lists k ≡ more
    → length behind ≡ target_count (take (k + 1) lists)
count_more lists k now more behind inside is joined here =
    let a = ap (λ (l : List ℕ). length l) joined ∙ length-append now more in
    let b = sum_by_more (λ (l : List ℕ). length l) lists k [] inside in
    let e = ap (λ (l : List ℕ). length l) here in
    omega (arith, a, b, e, is)

-- where one list more is over the room, all are
pub count_over : (lists : List (List ℕ)) (k room : ℕ) (now more : List ℕ) → k < length lists → length now ≡ target_count (take k lists) → targets_of_block lists k ≡ more
    → room < length now + length more → room < target_count lists
count_over lists k room now more inside is here over =
    let b = sum_by_more (λ (l : List ℕ). length l) lists k [] inside in
    let t = sum_by-take-le (λ (l : List ℕ). length l) lists (k + 1) in
    let e = ap (λ (l : List ℕ). length l) here in
    omega (arith, b, t, e, is, over)

-- the same memory leads to as many
pub same_over : (f g : ℕ → Option ℕ) (index : Index) (from to before room : ℕ) → f ≡ g → room < before + length (targets_of index (words_between f from to)) → room < before + length (targets_of index (words_between g from to))
same_over f g index from to before room same is = subst (λ (h : ℕ → Option ℕ). room < before + length (targets_of index (words_between h from to))) same is

-- all lists are counted
pub row_made : (lists : List (List ℕ)) (k room : ℕ) (row : Rows) → k ≡ length lists → AreListed (targets_of_block lists) k row.starts.items row.targets.items
    → length row.targets.items ≡ target_count (take k lists) → length row.targets.items ≤ room → IsRow lists room row
row_made lists k room row all listed is within = record {
  listed = subst (λ (n : ℕ). AreListed (targets_of_block lists) n row.starts.items row.targets.items) all listed;
  exact = is ∙ ap (λ (l : List (List ℕ)). target_count l) (ap (λ (n : ℕ). take n lists) all ∙ take_all (length lists) lists (omega arith));
  within = within;
}

-- ---- rows of all blocks

-- what the blocks of a row lead to
pub row_lists : (word_at : ℕ → Option ℕ) (index : Index) (blocks : List Block) (size n : ℕ) → index.blocks ≡ blocks
    → map (block_targets word_at index) (slice_chunk blocks size n) ≡ slice_chunk (all_targets word_at index) size n
row_lists word_at index blocks size n same =
    let f = block_targets word_at index in
    ap (λ (bs : List Block). map f (slice_chunk bs size n)) (sym same)
    ∙ sym (take-map f size (drop (n * size) index.blocks)) ∙ ap (λ (ls : List (List ℕ)). take size ls) (sym (drop-map f (n * size) index.blocks))

-- each row that there is has a block
pub begins : (n size k : ℕ) → 0 < size → k < div_ceil n size → k * size < n
begins n size k pos h =
    let t = (div_ceil_times n size pos).1 in
    let m = mul-le-mul_right size (let z : suc k ≤ div_ceil n size = omega (arith, h) in z) in
    let s = suc-mul k size in
    omega (arith, t, m, s)

-- what is known of a result that there is
pub ok_some : {X : Type 0} (P : Option X → Type 0) (r : Result (Option X) AllocError) (o : Option X) (x : X) → r ≡ Ok o → o ≡ Some x → IfOk r P → P (Some x)
ok_some P r o x e f h = subst P f (subst (λ (q : Result (Option _) AllocError). IfOk q P) e h)

pub no_rows : (targets : List (List ℕ)) (size room : ℕ) → AreRows targets size room 0 []
no_rows targets size room = record { many = refl; each = λ n d h. absurd (omega arith) }

-- one row more
pub rows_more : (targets : List (List ℕ)) (size room count : ℕ) (rows more : List Rows) (row : Rows) → AreRows targets size room count rows → IsRow (slice_chunk targets size count) room row → more ≡ rows ++ row ∷ []
    → AreRows targets size room (count + 1) more
rows_more targets size room count rows more row first last is = record {
  many = let l = ap (λ (rs : List Rows). length rs) is ∙ length-append rows (row ∷ []) in let m = first.many in omega (arith, l, m);
  each = λ n d h. subst (λ (rs : List Rows). IsRow (slice_chunk targets size n) room (get_or rs n d)) (sym is) (at n d (eq-or-lt_of_le (let z : n ≤ count = omega (arith, h) in z)));
}
  where
    at : (n : ℕ) (d : Rows) → (n ≡ count) ⊎ (n < count) → IsRow (slice_chunk targets size n) room (get_or (rows ++ row ∷ []) n d)
    at n d (inl e) =
        let newest : get_or (rows ++ row ∷ []) n d ≡ row = ap (λ (j : ℕ). get_or (rows ++ row ∷ []) j d) (e ∙ sym first.many) ∙ get_or-append_seam rows row [] d in
        subst (λ (j : ℕ). IsRow (slice_chunk targets size j) room (get_or (rows ++ row ∷ []) n d)) (sym e) (subst (λ (r : Rows). IsRow (slice_chunk targets size count) room r) (sym newest) last)
    at n d (inr low) =
        let m = first.many in
        subst (λ (r : Rows). IsRow (slice_chunk targets size n) room r) (sym (get_or_append_left rows (row ∷ []) d n (omega (arith, m, low)))) (first.each n d low)

-- the rows have what all blocks lead to, and nothing else
pub rows_exact : (targets : List (List ℕ)) (size room : ℕ) (rows : List Rows) → 0 < size → AreRows targets size room (div_ceil (length targets) size) rows → kept_count rows ≡ target_count targets
rows_exact targets size room rows pos made =
    sym (sum-map (λ (row : Rows). length row.targets.items) rows)
    ∙ sum_by_chunks (λ (l : List ℕ). length l) size targets (map (λ (row : Rows). length row.targets.items) rows)
    (λ n h. let m = length-map rows (λ (row : Rows). length row.targets.items) in at n (let z : n < length rows = omega (arith, m, h) in z)) pos
    (length-map rows (λ (row : Rows). length row.targets.items) ∙ made.many)
  where
    first : (rs : List Rows) → 0 < length rs → Rows
    first [] h = absurd (omega (arith, h))
    first (r ∷ rs) h = r

    at : (n : ℕ) → n < length rows → get_or (map (λ (row : Rows). length row.targets.items) rows) n 0 ≡ target_count (slice_chunk targets size n)
    at n h =
        let some = first rows (omega (arith, h)) in
        let m = made.many in
        get_or-map (λ (row : Rows). length row.targets.items) rows n some 0 h ∙ (made.each n some (omega (arith, m, h))).exact

-- ---- room

-- there are no more rows than workers
rows_few : (n size workers : ℕ) → n ≤ workers * size → div_ceil n size ≤ workers
rows_few n size workers fits = go (n % size) refl
  where
    whole : n / size * size + n % size ≡ n
    whole = div-add-mod' n size

    go : (r : ℕ) → n % size ≡ r → div_ceil n size ≤ workers
    go zero e = let q : n / size ≤ workers = div-le_of_le-mul size (let c = mul_comm workers size in omega (arith, c, fits)) in omega (arith, q, e)
    go (suc r) e = ⊎_elim (λ less. omega (arith, less, e))
        (λ more. let g : workers * size ≤ n / size * size = mul-le-mul_right size more in let w = whole in absurd (omega (arith, g, w, e, fits)))
        (cases_lt (n / size) workers)

-- the rows of all workers have all blocks
blocks_fit : (n workers : ℕ) → 0 < workers → n ≤ workers * row_size n workers
blocks_fit n workers pos = go (n % workers) refl
  where
    whole : n / workers * workers + n % workers ≡ n
    whole = div-add-mod' n workers

    go : (r : ℕ) → n % workers ≡ r → n ≤ workers * row_size n workers
    go zero e =
        let g : workers * (n / workers) ≤ workers * row_size n workers = mul-le-mul_left workers (omega arith) in
        let c = mul_comm workers (n / workers) in
        let w = whole in omega (arith, g, c, w, e)
    go (suc r) e =
        let g : workers * suc (n / workers) ≤ workers * row_size n workers = mul-le-mul_left workers (omega (arith, e)) in
        let c = mul_comm workers (suc (n / workers)) in
        let d = suc-mul (n / workers) workers in
        let l = mod-lt n pos in
        let w = whole in omega (arith, g, c, d, w, l)

-- what all workers keep fits into the room
pub room_kept : (n workers room : ℕ) (rows : List Rows) → 0 < workers → length rows ≡ div_ceil n (row_size n workers)
    → All (λ row. length row.targets.items ≤ share_of room workers) rows → kept_count rows ≤ room
room_kept n workers room rows pos count each =
    let a = sum_by-le (λ (row : Rows). length row.targets.items) (share_of room workers) rows each in
    let f = rows_few n (row_size n workers) workers (blocks_fit n workers pos) in
    let b = mul-le (length rows) (share_of room workers) workers (room / workers) (omega (arith, f, count)) (omega arith) in
    let d = mul-div-le room workers in
    omega (arith, a, b, d)
