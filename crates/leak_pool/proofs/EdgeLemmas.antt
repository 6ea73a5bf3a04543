-- Lists of targets, one after another.
use Rattle.std.proofs.Common.{◌≡◌, ℕ, zero, suc, ◌+◌, ◌-◌, ◌*◌, ◌/◌, ◌%◌, ◌<◌, ◌≤◌, min, List, [], ◌∷◌, ◌++◌, length, map, get_or, take, drop, Option, refl, sym, ap, ◌∙◌, subst, ⊎_elim, arith, length-append}
use Rattle.std.proofs.Math.Nat.{mod-lt, mod-add-div, lt-div-mul-add, eq-or-lt_of_le, div-lt_iff_lt-mul, mul_comm, suc-mul}
use Rattle.std.proofs.Math.Seq.{take-length, drop-append_seam, get_or-append_seam}
use Rattle.std.proofs.lemmas.List.{length-drop, length-take, get_or-drop, get_or-map, get_or-take, get_or_append_left, take-append-le, drop-append-le}
use Rattle.std.specs.Fork.{slice_chunk}
use Rattle.std.specs.Int.{div_ceil}
use Rattle.leak_blocks.specs.declared.block.Block.{Block}
use Rattle.leak_elf.specs.Words.{words_between}
use Rattle.leak_index.specs.Hits.{Index}
use Rattle.leak_scan.specs.Targets.{targets_of, block_words, block_targets}
use Rattle.leak_pool.specs.Items.{targets_of_block}
use Rattle.leak_pool.specs.Edges.{IsListAt, AreListed, AreEdges, AreRows}
use Rattle.leak_pool.specs.declared.rows.Rows.{Rows}

-- ---- one list more

seam : (xs ys : List ℕ) (a b : ℕ) → a ≡ length xs → b ≡ length (xs ++ ys) → take (b - a) (drop a (xs ++ ys)) ≡ ys
seam xs ys a b p q =
    let l = length-append xs ys in
    let e : b - a ≡ length ys = omega arith in
    ap (λ (n : ℕ). take n (drop a (xs ++ ys))) e ∙ ap (λ (n : ℕ). take (length ys) (drop n (xs ++ ys))) p
    ∙ ap (λ (zs : List ℕ). take (length ys) zs) (drop-append_seam xs ys) ∙ take-length ys

front : (xs ys : List ℕ) (a b : ℕ) → a ≤ b → b ≤ length xs → take (b - a) (drop a (xs ++ ys)) ≡ take (b - a) (drop a xs)
front xs ys a b low high =
    let l = length-drop a xs in
    ap (λ (zs : List ℕ). take (b - a) zs) (drop-append-le a xs ys (omega arith)) ∙ take-append-le (b - a) (drop a xs) ys (omega arith)

kept_at : (starts targets more : List ℕ) (x k : ℕ) (list : List ℕ) → IsListAt starts targets k list → IsListAt (starts ++ x ∷ []) (targets ++ more) k list
kept_at starts targets more x k list i =
    let l = length-append starts (x ∷ []) in
    let m = length-append targets more in
    let a : get_or (starts ++ x ∷ []) k 0 ≡ get_or starts k 0 = get_or_append_left starts (x ∷ []) 0 k (let h = i.more in omega arith) in
    let b : get_or (starts ++ x ∷ []) (suc k) 0 ≡ get_or starts (suc k) 0 = get_or_append_left starts (x ∷ []) 0 (suc k) i.more in
    let low = i.ascending in
    let high = i.inside in
    let j = i.more in record {
      more = omega arith;
      ascending = omega arith;
      inside = omega arith;
      same = ap (λ (n : ℕ). take (get_or (starts ++ x ∷ []) (suc k) 0 - n) (drop n (targets ++ more))) a
          ∙ ap (λ (n : ℕ). take (n - get_or starts k 0) (drop (get_or starts k 0) (targets ++ more))) b
          ∙ front targets more (get_or starts k 0) (get_or starts (suc k) 0) low high ∙ i.same;
    }

pub listed_none : (lists : ℕ → List ℕ) → AreListed lists 0 (0 ∷ []) []
listed_none lists = record { len = refl; last = refl; each = λ k h. absurd (omega arith) }

more_at : (lists : ℕ → List ℕ) (n : ℕ) (starts targets more : List ℕ) → AreListed lists n starts targets → lists n ≡ more → AreListed lists (suc n) (starts ++ length (targets ++ more) ∷ []) (targets ++ more)
more_at lists n starts targets more listed is = record {
  len = let l = length-append starts (x ∷ []) in let m = listed.len in omega arith;
  last = last;
  each = λ k h. ⊎_elim (λ e. subst (λ (j : ℕ). IsListAt longer (targets ++ more) j (lists j)) (sym e) newest)
      (λ low. kept_at starts targets more x k (lists k) (listed.each k low)) (eq-or-lt_of_le (let z : k ≤ n = omega arith in z));
}
  where
    x : ℕ
    x = length (targets ++ more)

    longer : List ℕ
    longer = starts ++ x ∷ []

    last : get_or longer (suc n) 0 ≡ x
    last = ap (λ (j : ℕ). get_or longer j 0) (sym listed.len) ∙ get_or-append_seam starts x [] 0

    start : get_or longer n 0 ≡ length targets
    start = get_or_append_left starts (x ∷ []) 0 n (let m = listed.len in omega arith) ∙ listed.last

    newest : IsListAt longer (targets ++ more) n (lists n)
    newest = let l = length-append starts (x ∷ []) in let m = listed.len in let t = length-append targets more in record {
      more = omega arith;
      ascending = omega (arith, start, last);
      inside = omega (arith, last);
      same = seam targets more (get_or longer n 0) (get_or longer (suc n) 0) start last ∙ sym is;
    }

pub listed_more : (lists : ℕ → List ℕ) (n : ℕ) (starts targets more longer behind : List ℕ) → AreListed lists n starts targets → behind ≡ targets ++ more → lists n ≡ more → longer ≡ starts ++ length behind ∷ [] → AreListed lists (n + 1) longer behind
listed_more lists n starts targets more longer behind listed joined is grown =
    let e : longer ≡ starts ++ length (targets ++ more) ∷ [] = grown ∙ ap (λ (l : List ℕ). starts ++ length l ∷ []) joined in
    subst (λ (j : ℕ). AreListed lists j longer behind) {x = suc n} (omega arith)
    (subst (λ (l : List ℕ). AreListed lists (suc n) longer l) (sym joined)
    (subst (λ (l : List ℕ). AreListed lists (suc n) l (targets ++ more)) (sym e) (more_at lists n starts targets more listed is)))

pub target_of : (word_at : ℕ → Option ℕ) (index : Index) (blocks : List Block) (k : ℕ) (d : Block) → k < length blocks → targets_of_block (map (block_targets word_at index) blocks) k ≡ targets_of index (block_words word_at (get_or blocks k d))
unfolding block_targets
target_of word_at index blocks k d h = get_or-map (block_targets word_at index) blocks k d [] h

-- the same memory leads to the same
pub moved : (f g : ℕ → Option ℕ) (index : Index) (from to : ℕ) (now before : List ℕ) → f ≡ g → now ≡ before ++ targets_of index (words_between f from to) → now ≡ before ++ targets_of index (words_between g from to)
moved f g index from to now before same is = subst (λ (h : ℕ → Option ℕ). now ≡ before ++ targets_of index (words_between h from to)) same is

-- ---- rows of all blocks

-- there are rows enough for as many blocks
enough : (n size k : ℕ) → 0 < size → k < n → k / size < n / size + min 1 (n % size)
enough n size k pos h = go (n % size) refl
  where
    go : (r : ℕ) → n % size ≡ r → k / size < n / size + min 1 (n % size)
    go zero e =
        let m = mod-add-div n size in
        let c = mul_comm size (n / size) in
        let f = (div-lt_iff_lt-mul pos).1 (let z : k < n / size * size = omega (arith, m, c, e, h) in z) in omega (arith, f)
    go (suc r) e =
        let l = lt-div-mul-add {a = n} {b = size} pos in
        let c = suc-mul (n / size) size in
        let f = (div-lt_iff_lt-mul pos).1 (let z : k < suc (n / size) * size = omega (arith, l, c, h) in z) in omega (arith, f, e)

-- what a row lists is what its blocks lead to among all
list_in_row : (targets : List (List ℕ)) (size k : ℕ) → 0 < size → k < length targets
    → (k % size < length (slice_chunk targets size (k / size))) × (targets_of_block (slice_chunk targets size (k / size)) (k % size) ≡ targets_of_block targets k)
list_in_row targets size k pos h =
    let start = k / size * size in
    let r = mod-lt k pos in
    let m = mod-add-div k size in
    let c = mul_comm size (k / size) in
    let e : start + k % size ≡ k = omega (arith, m, c) in
    let l = length-take size (drop start targets) in
    let d = length-drop start targets in (
      omega (arith, r, e, l, d, h),
      get_or-take size (drop start targets) (k % size) [] r ∙ get_or-drop start targets (k % size) [] ∙ ap (λ (j : ℕ). get_or targets j []) e,
    )

pub edges_made : (targets : List (List ℕ)) (size room : ℕ) (rows : List Rows) → 0 < size → AreRows targets size room (div_ceil (length targets) size) rows → AreEdges targets size rows
edges_made targets size room rows pos made = record {
  some = pos;
  enough = λ k h. let f = enough (length targets) size k pos h in let m = made.many in omega (arith, f, m);
  each = λ k d h.
      let row = made.each (k / size) d (enough (length targets) size k pos h) in
      let is = list_in_row targets size k pos h in
      subst (λ (l : List ℕ). IsListAt (get_or rows (k / size) d).starts.items (get_or rows (k / size) d).targets.items (k % size) l) is.1 (row.listed.each (k % size) is.0);
}
