-- Live blocks of a log and of a longer one.
use Rattle.std.proofs.Common.{◌≡◌, ℕ, zero, suc, ◌+◌, ◌<◌, ◌≤◌, Bool, true, false, not, ◌&&◌, ◌||◌, ◌⊎◌, inl, inr, sym, subst, ap, ◌∙◌, List, [], ◌∷◌, ◌++◌, length, Option, Some, None, slice_get, arith, length-append, nat_lt, if◌then◌else◌}
use Rattle.std.specs.List.{list_any, cons_option}
use Rattle.std.proofs.lemmas.List.Folds.{list_any-append}
use Rattle.leak_mtrace.specs.declared.line.Line.{Line}
use Rattle.leak_blocks.specs.declared.block.Block.{Block}
use Rattle.leak_blocks.specs.Live.{Moment, block_of, live_block, live_of, is_allocation, ends, among, ascending}
use Rattle.leak_blocks.specs.Laws.{IsIn}
use Rattle.leak_blocks.proofs.GrowthLemmas.{live_from}

some_same : (x y : Block) → Some x ≡ Some y → x ≡ y
some_same x y e = cc

not_some : (x : Block) → None ≡ Some x → ⊥
not_some x e = cc

pub is_in_at : (b : Block) (bs : List Block) (n : ℕ) → slice_get bs n ≡ Some b → IsIn b bs
is_in_at b [] n e = not_some b e
is_in_at b (c ∷ cs) zero e = inl (some_same c b e)
is_in_at b (c ∷ cs) (suc n) e = inr (is_in_at b cs n e)

pub place_of : (b : Block) (bs : List Block) → IsIn b bs → (n : ℕ) × (slice_get bs n ≡ Some b)
place_of b [] h = elim h [ ]
place_of b (c ∷ cs) (inl e) = (0, ap Some e)
place_of b (c ∷ cs) (inr h) = let r : (n : ℕ) × (slice_get cs n ≡ Some b) = place_of b cs h in (suc r.0, r.1)

-- ---- order

to_among : (b c : Block) (cs : List Block) → IsIn b (c ∷ cs) → IsIn b (among c cs)
to_among b c [] h = h
to_among b c (d ∷ ds) h = go (nat_lt c.start d.start) (elim h [ inl e ↦ inr (to_among b c ds (inl e)) | inr k ↦ elim k [ inl e ↦ inl e | inr l ↦ inr (to_among b c ds (inr l)) ] ])
  where
    go : (t : Bool) → IsIn b (d ∷ among c ds) → IsIn b (if t then c ∷ d ∷ ds else d ∷ among c ds)
    go true rest = h
    go false rest = rest

of_among : (b c : Block) (cs : List Block) → IsIn b (among c cs) → IsIn b (c ∷ cs)
of_among b c [] h = h
of_among b c (d ∷ ds) h = go (nat_lt c.start d.start) h (λ l. of_among b c ds l)
  where
    swapped : IsIn b (c ∷ ds) → IsIn b (c ∷ d ∷ ds)
    swapped k = elim k [ inl e ↦ inl e | inr l ↦ inr (inr l) ]

    go : (t : Bool) → IsIn b (if t then c ∷ d ∷ ds else d ∷ among c ds) → (IsIn b (among c ds) → IsIn b (c ∷ ds)) → IsIn b (c ∷ d ∷ ds)
    go true k rest = k
    go false k rest = elim k [ inl e ↦ inr (inl e) | inr l ↦ swapped (rest l) ]

to_ascending : (b : Block) (bs : List Block) → IsIn b bs → IsIn b (ascending bs)
to_ascending b [] h = h
to_ascending b (c ∷ cs) h = to_among b c (ascending cs) (elim h [ inl e ↦ inl e | inr k ↦ inr (to_ascending b cs k) ])

of_ascending : (b : Block) (bs : List Block) → IsIn b (ascending bs) → IsIn b bs
of_ascending b [] h = h
of_ascending b (c ∷ cs) h = elim (of_among b c (ascending cs) h) [ inl e ↦ inl e | inr k ↦ inr (of_ascending b cs k) ]

-- ---- moments

of_option : (b : Block) (o : Option Block) (bs : List Block) → IsIn b (cons_option o bs) → (o ≡ Some b) ⊎ IsIn b bs
of_option b None bs h = inr h
of_option b (Some c) bs (inl e) = inl (ap Some e)
of_option b (Some c) bs (inr h) = inr h

to_option : (b : Block) (o : Option Block) (bs : List Block) → (o ≡ Some b) ⊎ IsIn b bs → IsIn b (cons_option o bs)
to_option b None bs (inl e) = absurd (not_some b e)
to_option b None bs (inr h) = h
to_option b (Some c) bs (inl e) = inl (some_same c b e)
to_option b (Some c) bs (inr h) = inr h

-- the block of a live moment
line_of_block : (t : Bool) (c b : Block) → (if t then Some c else None) ≡ Some b → c ≡ b
line_of_block true c b e = some_same c b e
line_of_block false c b e = absurd (not_some b e)

number_of : (m : Moment) (b : Block) → live_block m ≡ Some b → length m.before + 1 ≡ b.line
number_of m b e = ap (λ (x : Block). x.line) (line_of_block (is_allocation m.line && not (list_any (ends m.line) m.after)) (block_of (length m.before + 1) m.line) b e)

length_more : (p : List Line) (x : Line) → length (p ++ x ∷ []) ≡ length p + 1
length_more p x = length-append p (x ∷ []) ∙ omega arith

-- a line comes after those before it, and is one of the log's
pub after_front : (p xs : List Line) (b : Block) → IsIn b (live_from p xs) → length p < b.line
after_front p [] b h = elim h [ ]
after_front p (x ∷ xs) b h =
    let more = length_more p x in
    elim (of_option b (live_block (record { before = p; line = x; after = xs })) (live_from (p ++ x ∷ []) xs) h) [
      | inl e ↦ omega (arith, number_of (record { before = p; line = x; after = xs }) b e)
      | inr k ↦ omega (arith, after_front (p ++ x ∷ []) xs b k)
    ]

pub within_log : (p xs : List Line) (b : Block) → IsIn b (live_from p xs) → b.line ≤ length p + length xs
within_log p [] b h = elim h [ ]
within_log p (x ∷ xs) b h =
    let more = length_more p x in
    elim (of_option b (live_block (record { before = p; line = x; after = xs })) (live_from (p ++ x ∷ []) xs) h) [
      | inl e ↦ omega (arith, number_of (record { before = p; line = x; after = xs }) b e)
      | inr k ↦ omega (arith, within_log (p ++ x ∷ []) xs b k)
    ]

-- a block is its line
pub one_of_line : (p xs : List Line) (b c : Block) → IsIn b (live_from p xs) → IsIn c (live_from p xs) → b.line ≡ c.line → b ≡ c
one_of_line p [] b c h k e = elim h [ ]
one_of_line p (x ∷ xs) b c h k e =
    go (of_option b (live_block (record { before = p; line = x; after = xs })) (live_from (p ++ x ∷ []) xs) h) (of_option c (live_block (record { before = p; line = x; after = xs })) (live_from (p ++ x ∷ []) xs) k)
    (λ s t. one_of_line (p ++ x ∷ []) xs b c s t e)
  where
    go : (live_block (record { before = p; line = x; after = xs }) ≡ Some b) ⊎ IsIn b (live_from (p ++ x ∷ []) xs) → (live_block (record { before = p; line = x; after = xs }) ≡ Some c) ⊎ IsIn c (live_from (p ++ x ∷ []) xs) → (IsIn b (live_from (p ++ x ∷ []) xs) → IsIn c (live_from (p ++ x ∷ []) xs) → b ≡ c) → b ≡ c
    go (inl s) (inl t) rest = some_same b c (sym s ∙ t)
    go (inl s) (inr t) rest = absurd (omega (arith, number_of (record { before = p; line = x; after = xs }) b s, after_front (p ++ x ∷ []) xs c t, length_more p x))
    go (inr s) (inl t) rest = absurd (omega (arith, number_of (record { before = p; line = x; after = xs }) c t, after_front (p ++ x ∷ []) xs b s, length_more p x))
    go (inr s) (inr t) rest = rest s t

-- what is live in a longer log was live in the shorter one
shorter_test : (s x y : Bool) (c b : Block) → (if s && not (x || y) then Some c else None) ≡ Some b → (if s && not x then Some c else None) ≡ Some b
shorter_test true true y c b e = e
shorter_test true false true c b e = absurd (not_some b e)
shorter_test true false false c b e = e
shorter_test false x y c b e = e

live_before : (p : List Line) (x : Line) (xs ys : List Line) (b : Block) → live_block (record { before = p; line = x; after = xs ++ ys }) ≡ Some b → live_block (record { before = p; line = x; after = xs }) ≡ Some b
live_before p x xs ys b e =
    shorter_test (is_allocation x) (list_any (ends x) xs) (list_any (ends x) ys) (block_of (length p + 1) x) b
    (subst (λ (t : Bool). (if is_allocation x && not t then Some (block_of (length p + 1) x) else None) ≡ Some b) (list_any-append (ends x) xs ys) e)

pub live_in_shorter : (p xs ys : List Line) (b : Block) → IsIn b (live_from p (xs ++ ys)) → b.line ≤ length p + length xs → IsIn b (live_from p xs)
live_in_shorter p [] ys b h le = absurd (omega (arith, after_front p ys b h))
live_in_shorter p (x ∷ xs) ys b h le =
    to_option b (live_block (record { before = p; line = x; after = xs })) (live_from (p ++ x ∷ []) xs)
    (elim (of_option b (live_block (record { before = p; line = x; after = xs ++ ys })) (live_from (p ++ x ∷ []) (xs ++ ys)) h) [
      | inl e ↦ inl (live_before p x xs ys b e)
      | inr k ↦ inr (live_in_shorter (p ++ x ∷ []) xs ys b k (omega (arith, length_more p x)))
    ])

-- ---- the live blocks

pub of_live : (lines : List Line) (b : Block) → IsIn b (live_of lines) → IsIn b (live_from [] lines)
unfolding live_of
of_live lines b h = of_ascending b (live_from [] lines) h

pub to_live : (lines : List Line) (b : Block) → IsIn b (live_from [] lines) → IsIn b (live_of lines)
unfolding live_of
to_live lines b h = to_ascending b (live_from [] lines) h

pub one_a_line : (lines : List Line) (b c : Block) → IsIn b (live_of lines) → IsIn c (live_of lines) → b.line ≡ c.line → b ≡ c
one_a_line lines b c h k e = one_of_line [] lines b c (of_live lines b h) (of_live lines c k) e

pub were_live : (before after : List Line) (b : Block) → IsIn b (live_of (before ++ after)) → b.line ≤ length before → IsIn b (live_of before)
were_live before after b h le = to_live before b (live_in_shorter [] before after b (of_live (before ++ after) b h) (omega (arith, le)))
