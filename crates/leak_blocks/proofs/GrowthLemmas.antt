-- What one more line does to the live blocks and to the counts.
use Rattle.std.proofs.Common.{◌≡◌, ◌≢◌, ℕ, suc, ◌+◌, max, Bool, true, false, not, ◌&&◌, ◌||◌, cond, refl, sym, ap, ◌∙◌, true≢false, List, [], ◌∷◌, ◌++◌, length, Option, Some, None, filter_map, find, count_by, arith, ◌==◌, nat_lt, if◌then◌else◌, append_assoc, append-nil, length-append}
use Rattle.std.specs.List.{list_any, cons_option, AllByRecursion}
use Rattle.std.specs.Option.{option_map_or, option_or, is_some}
use Rattle.std.proofs.lemmas.List.Folds.{list_any-append, find-append}
use Rattle.std.proofs.lemmas.List.Sums.{sum_by-cons}
use Rattle.leak_mtrace.specs.declared.line.Kind.{Kind}
use Rattle.leak_mtrace.specs.declared.line.Kind.TheVariants.{Alloc, Free, MoveOut, MoveIn, Failed, Remark}
use Rattle.leak_mtrace.specs.declared.line.Line.{Line}
use Rattle.leak_blocks.specs.declared.block.Block.{Block}
use Rattle.leak_blocks.specs.Live.{allocates, gives_back, moments, moments_after, block_of, live_block, live_of, replay_of, is_allocation, is_give_back, is_displaced, is_unknown, ends, among, ascending}
use Rattle.leak_blocks.specs.Steps.{meets, ends_block, left_by, after_line, misses}
use Rattle.leak_blocks.specs.Laws.{GrowsBy}
use Rattle.leak_blocks.proofs.OrderLemmas.{is_less, ascending_more, filter_ascending, count_ascending}
use Rattle.leak_blocks.proofs.DisjointLemmas.{pairs_apart}

-- the live blocks of the lines after the first ones
abbrev pub live_from : List Line → List Line → List Block
live_from before lines = filter_map live_block (moments_after before lines)

-- the block of the line, if it is an allocation
abbrev pub new_block : ℕ → Line → List Block
new_block number x = if is_allocation x then block_of number x ∷ [] else []

-- ---- what a line ends

no_both : (k : Kind) (t : Bool) → (allocates k && t) ≡ true → (gives_back k && t) ≡ false
no_both Alloc t h = refl
no_both MoveIn t h = refl
no_both Free t h = absurd (true≢false (sym h))
no_both MoveOut t h = absurd (true≢false (sym h))
no_both Failed t h = refl
no_both Remark t h = refl

pub gives_nothing : (x : Line) → is_allocation x ≡ true → is_give_back x ≡ false
gives_nothing x a = no_both x.kind (not (x.addr == 0)) a

pub allocates_nothing : (x : Line) → is_give_back x ≡ true → is_allocation x ≡ false
allocates_nothing x g = go (is_allocation x) refl
  where
    go : (t : Bool) → is_allocation x ≡ t → t ≡ false
    go true e = absurd (true≢false (sym g ∙ gives_nothing x e))
    go false e = refl

pub ends_met : (x : Line) (b : Block) → is_allocation x ≡ true → ends_block x b ≡ meets x b
ends_met x b a = ap (λ (t : Bool). (t && (x.addr == b.start)) || (is_allocation x && meets x b)) (gives_nothing x a) ∙ ap (λ (t : Bool). t && meets x b) a

pub ends_given : (x : Line) (b : Block) → is_give_back x ≡ true → ends_block x b ≡ (x.addr == b.start)
ends_given x b g = ap (λ (t : Bool). (t && (x.addr == b.start)) || (is_allocation x && meets x b)) g ∙ ap (λ (t : Bool). (x.addr == b.start) || (t && meets x b)) (allocates_nothing x g) ∙ or_false (x.addr == b.start)
  where
    or_false : (t : Bool) → (t || false) ≡ t
    or_false true = refl
    or_false false = refl

pub ends_none : (x : Line) (b : Block) → is_allocation x ≡ false → is_give_back x ≡ false → ends_block x b ≡ false
ends_none x b a g = ap (λ (t : Bool). (t && (x.addr == b.start)) || (is_allocation x && meets x b)) g ∙ ap (λ (t : Bool). t && meets x b) a

pub meets_start : (x : Line) (b : Block) → b.start ≡ x.addr → meets x b ≡ true
meets_start x b e = ap (λ (t : Bool). t && nat_lt b.start (x.addr + max x.size 1)) (is_less x.addr (b.start + max b.size 1) (omega arith)) ∙ is_less b.start (x.addr + max x.size 1) (omega arith)

-- the blocks that an allocation leaves begin elsewhere
pub left_apart : (x : Line) → is_allocation x ≡ true → (bs : List Block) → AllByRecursion (λ c. c.start ≢ x.addr) (left_by x bs)
left_apart x a [] = tt
left_apart x a (b ∷ bs) = go (ends_block x b) refl (left_apart x a bs)
  where
    go : (t : Bool) → ends_block x b ≡ t → AllByRecursion (λ c. c.start ≢ x.addr) (left_by x bs) → AllByRecursion (λ c. c.start ≢ x.addr) (cond (not t) (b ∷ left_by x bs) (left_by x bs))
    go true e rest = rest
    go false e rest = (λ h. true≢false (sym (meets_start x b h) ∙ sym (ends_met x b a) ∙ e), rest)

-- ---- live blocks

live_more : (n : ℕ) (q xs : List Line) (x : Line) → n ≡ length q + length xs + 1 → live_from q (xs ++ x ∷ []) ≡ left_by x (live_from q xs) ++ new_block n x
live_more n q [] x e = go (is_allocation x)
  where
    go : (t : Bool) → cons_option (if t && true then Some (block_of (length q + 1) x) else None) [] ≡ (if t then block_of n x ∷ [] else [])
    go true = ap (λ (m : ℕ). block_of m x ∷ []) (omega (arith, e))
    go false = refl
live_more n q (y ∷ xs) x e =
    ap (cons_option (live_block (record { before = q; line = y; after = xs ++ x ∷ [] }))) (live_more n (q ++ y ∷ []) xs x (omega (arith, e, length-append q (y ∷ []))))
    ∙ ap (λ (t : Bool). cons_option (if is_allocation y && not t then Some (block_of (length q + 1) y) else None) (left_by x (live_from (q ++ y ∷ []) xs) ++ new_block n x)) (list_any-append (ends y) xs (x ∷ []))
    ∙ go (is_allocation y) (list_any (ends y) xs) (ends y x) refl
  where
    go : (s t u : Bool) → ends_block x (block_of (length q + 1) y) ≡ u →
        cons_option (if s && not (t || (u || false)) then Some (block_of (length q + 1) y) else None) (left_by x (live_from (q ++ y ∷ []) xs) ++ new_block n x)
        ≡ left_by x (cons_option (if s && not t then Some (block_of (length q + 1) y) else None) (live_from (q ++ y ∷ []) xs)) ++ new_block n x
    go false t u e = refl
    go true true u e = refl
    go true false true e = sym (ap (λ (v : Bool). cond (not v) (block_of (length q + 1) y ∷ left_by x (live_from (q ++ y ∷ []) xs)) (left_by x (live_from (q ++ y ∷ []) xs)) ++ new_block n x) e)
    go true false false e = sym (ap (λ (v : Bool). cond (not v) (block_of (length q + 1) y ∷ left_by x (live_from (q ++ y ∷ []) xs)) (left_by x (live_from (q ++ y ∷ []) xs)) ++ new_block n x) e)

pub live_grown : (p : List Line) (x : Line) → live_of (p ++ x ∷ []) ≡ after_line (length p + 1) x (live_of p)
unfolding live_of
live_grown p x = ap ascending (live_more (length p + 1) [] p x (omega arith)) ∙ go (is_allocation x) refl
  where
    ordered : ascending (left_by x (live_from [] p)) ≡ left_by x (ascending (live_from [] p))
    ordered = sym (filter_ascending (λ b. not (ends_block x b)) (live_from [] p) (pairs_apart [] p))

    go : (t : Bool) → is_allocation x ≡ t → ascending (left_by x (live_from [] p) ++ (if t then block_of (length p + 1) x ∷ [] else [])) ≡ (if t then among (block_of (length p + 1) x) (left_by x (ascending (live_from [] p))) else left_by x (ascending (live_from [] p)))
    go true e = ascending_more (left_by x (live_from [] p)) (block_of (length p + 1) x) (left_apart x e (live_from [] p)) ∙ ap (among (block_of (length p + 1) x)) ordered
    go false e = ap ascending (append-nil (left_by x (live_from [] p))) ∙ ordered

-- ---- the counts

found : (p : Line → Bool) (xs : List Line) → list_any p xs ≡ is_some (find p xs)
found p [] = refl
found p (x ∷ xs) = go (p x) (found p xs)
  where
    go : (t : Bool) → list_any p xs ≡ is_some (find p xs) → (t || list_any p xs) ≡ is_some (cond t (Some x) (find p xs))
    go true rest = refl
    go false rest = rest

-- the blocks that an allocation ends
abbrev pub displaced_by : Line → List Block → ℕ
displaced_by x bs = if is_allocation x then count_by (ends_block x) bs else 0

displaced_more : (q xs : List Line) (x : Line) → count_by is_displaced (moments_after q (xs ++ x ∷ [])) ≡ count_by is_displaced (moments_after q xs) + displaced_by x (live_from q xs)
displaced_more q [] x = go (is_allocation x)
  where
    go : (t : Bool) → 0 + cond (t && false) 1 0 ≡ 0 + (if t then 0 else 0)
    go true = refl
    go false = refl
displaced_more q (y ∷ xs) x =
    sum_by-cons (λ m. cond (is_displaced m) 1 0) (record { before = q; line = y; after = xs ++ x ∷ [] }) (moments_after (q ++ y ∷ []) (xs ++ x ∷ []))
    ∙ ap {B = ℕ} (λ (k : ℕ). cond (is_displaced (record { before = q; line = y; after = xs ++ x ∷ [] })) 1 0 + k) (displaced_more (q ++ y ∷ []) xs x)
    ∙ ap {B = ℕ} (λ (o : Option Line). cond (is_allocation y && option_map_or is_allocation o false) 1 0 + (count_by is_displaced (moments_after (q ++ y ∷ []) xs) + displaced_by x (live_from (q ++ y ∷ []) xs))) (find-append (ends y) xs (x ∷ []))
    ∙ together (count_by is_displaced (moments_after (q ++ y ∷ []) xs))
    ∙ ap (λ (k : ℕ). k + displaced_by x (live_from q (y ∷ xs))) (sym (sum_by-cons (λ m. cond (is_displaced m) 1 0) (record { before = q; line = y; after = xs }) (moments_after (q ++ y ∷ []) xs)))
  where
    counted : count_by (ends_block x) (block_of (length q + 1) y ∷ live_from (q ++ y ∷ []) xs) ≡ cond (ends_block x (block_of (length q + 1) y)) 1 0 + count_by (ends_block x) (live_from (q ++ y ∷ []) xs)
    counted = sum_by-cons (λ b. cond (ends_block x b) 1 0) (block_of (length q + 1) y) (live_from (q ++ y ∷ []) xs)

    go : (n : ℕ) (s a u : Bool) (f : Option Line) → is_allocation x ≡ a → ends_block x (block_of (length q + 1) y) ≡ u →
        cond (s && option_map_or is_allocation (option_or f (cond u (Some x) None)) false) 1 0 + (n + (if a then count_by (ends_block x) (live_from (q ++ y ∷ []) xs) else 0))
        ≡ (cond (s && option_map_or is_allocation f false) 1 0 + n) + (if a then count_by (ends_block x) (cons_option (if s && not (is_some f) then Some (block_of (length q + 1) y) else None) (live_from (q ++ y ∷ []) xs)) else 0)
    go n false true u f e k = omega arith
    go n false false u f e k = omega arith
    go n true true u (Some j) e k = omega arith
    go n true false u (Some j) e k = omega arith
    go n true true false None e k = omega (arith, counted, ap {B = ℕ} (λ (t : Bool). cond t 1 0) k)
    go n true false false None e k = omega arith
    go n true true true None e k = omega (arith, counted, ap {B = ℕ} (λ (t : Bool). cond t 1 0) k, ap {B = ℕ} (λ (t : Bool). cond t 1 0) e)
    go n true false true None e k = omega (arith, ap {B = ℕ} (λ (t : Bool). cond t 1 0) e)

    together : (n : ℕ) → cond (is_allocation y && option_map_or is_allocation (option_or (find (ends y) xs) (cond (ends y x) (Some x) None)) false) 1 0 + (n + displaced_by x (live_from (q ++ y ∷ []) xs))
        ≡ (cond (is_displaced (record { before = q; line = y; after = xs })) 1 0 + n) + displaced_by x (live_from q (y ∷ xs))
    together n = go n (is_allocation y) (is_allocation x) (ends y x) (find (ends y) xs) refl refl
        ∙ ap (λ (t : Bool). (cond (is_displaced (record { before = q; line = y; after = xs })) 1 0 + n) + (if is_allocation x then count_by (ends_block x) (cons_option (if is_allocation y && not t then Some (block_of (length q + 1) y) else None) (live_from (q ++ y ∷ []) xs)) else 0)) (sym (found (ends y) xs))

unknown_more : (q xs : List Line) (x : Line) → count_by is_unknown (moments_after q (xs ++ x ∷ [])) ≡ count_by is_unknown (moments_after q xs) + cond (is_give_back x && not (list_any (λ b. b.start == x.addr) (live_of (q ++ xs)))) 1 0
unknown_more q [] x = ap (λ (l : List Line). 0 + cond (is_give_back x && not (list_any (λ b. b.start == x.addr) (live_of l))) 1 0) (sym (append-nil q))
unknown_more q (y ∷ xs) x = omega (
  arith,
  sum_by-cons (λ m. cond (is_unknown m) 1 0) (record { before = q; line = y; after = xs ++ x ∷ [] }) (moments_after (q ++ y ∷ []) (xs ++ x ∷ [])),
  sum_by-cons (λ m. cond (is_unknown m) 1 0) (record { before = q; line = y; after = xs }) (moments_after (q ++ y ∷ []) xs),
  unknown_more (q ++ y ∷ []) xs x,
  ap {B = ℕ} (λ (l : List Line). cond (is_give_back x && not (list_any (λ b. b.start == x.addr) (live_of l))) 1 0) (append_assoc q (y ∷ []) xs),
)

pub displaced_grown : (p : List Line) (x : Line) → count_by is_displaced (moments (p ++ x ∷ [])) ≡ count_by is_displaced (moments p) + displaced_by x (live_of p)
unfolding live_of
displaced_grown p x = displaced_more [] p x ∙ ap (λ (k : ℕ). count_by is_displaced (moments p) + (if is_allocation x then k else 0)) (sym (count_ascending (ends_block x) (live_from [] p)))

pub unknown_grown : (p : List Line) (x : Line) → count_by is_unknown (moments (p ++ x ∷ [])) ≡ count_by is_unknown (moments p) + cond (misses x (live_of p)) 1 0
unknown_grown p x = unknown_more [] p x

pub moments_many : (q xs : List Line) → length (moments_after q xs) ≡ length xs
moments_many q [] = refl
moments_many q (x ∷ xs) = ap (λ (k : ℕ). suc k) (moments_many (q ++ x ∷ []) xs)

pub line_by_line : (lines : List Line) (x : Line) → GrowsBy lines x
unfolding replay_of
line_by_line lines x = record { blocks = live_grown lines x; unknown = unknown_grown lines x; displaced = displaced_grown lines x }
