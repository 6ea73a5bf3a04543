-- The live blocks have no address in common.
use Rattle.std.proofs.Common.{◌≡◌, ◌+◌, ◌<◌, ◌≤◌, max, Bool, true, false, not, ◌&&◌, ◌||◌, ◌⊎◌, inl, inr, refl, sym, subst, true≢false, List, [], ◌∷◌, ◌++◌, length, Some, None, filter_map, arith, nat_lt, if◌then◌else◌, ltb→lt, nltb→le}
use Rattle.std.specs.Bool.{passes, fails}
use Rattle.std.specs.List.{list_any, cons_option, AllByRecursion}
use Rattle.leak_mtrace.specs.declared.line.Line.{Line}
use Rattle.leak_blocks.specs.declared.block.Block.{Block}
use Rattle.leak_blocks.specs.Span.{AreDisjoint, span_end}
use Rattle.leak_blocks.specs.Live.{moments_after, block_of, live_block, live_of, is_allocation, ends, overlap, among, ascending}

-- no address in common
abbrev pub AreApart : Block → Block → Type 0
AreApart b c = (span_end b ≤ c.start) ⊎ (span_end c ≤ b.start)

-- each pair of blocks is
abbrev pub ArePairsApart : List Block → Type 0
ArePairsApart [] = Unit {0}
ArePairsApart (b ∷ bs) = AllByRecursion (AreApart b) bs × ArePairsApart bs

-- ---- insertion by start

all_among : (P : Block → Type 0) (c : Block) (cs : List Block) → P c → AllByRecursion P cs → AllByRecursion P (among c cs)
all_among P c [] here rest = (here, tt)
all_among P c (d ∷ ds) here rest = go (nat_lt c.start d.start) (all_among P c ds here rest.1)
  where
    go : (t : Bool) → AllByRecursion P (among c ds) → AllByRecursion P (if t then c ∷ d ∷ ds else d ∷ among c ds)
    go true k = (here, rest)
    go false k = (rest.0, k)

pub all_ascending : (P : Block → Type 0) (bs : List Block) → AllByRecursion P bs → AllByRecursion P (ascending bs)
all_ascending P [] h = tt
all_ascending P (b ∷ bs) h = all_among P b (ascending bs) h.0 (all_ascending P bs h.1)

later_ends : (c d : Block) → span_end c ≤ d.start → (bs : List Block) → AllByRecursion (λ x. span_end d ≤ x.start) bs → AllByRecursion (λ x. span_end c ≤ x.start) bs
later_ends c d h [] rest = tt
later_ends c d h (b ∷ bs) rest = (omega (arith, rest.0), later_ends c d h bs rest.1)

insert_apart : (c : Block) (cs : List Block) → AllByRecursion (AreApart c) cs → AreDisjoint cs → AreDisjoint (among c cs)
insert_apart c [] apart sorted = (tt, tt)
insert_apart c (d ∷ ds) apart sorted = go (nat_lt c.start d.start) refl (insert_apart c ds apart.1 sorted.1)
  where
    before : c.start < d.start → span_end c ≤ d.start
    before h = elim apart.0 [ inl e ↦ e | inr e ↦ absurd (omega (arith, e, h)) ]

    behind : d.start ≤ c.start → span_end d ≤ c.start
    behind h = elim apart.0 [ inl e ↦ absurd (omega (arith, e, h)) | inr e ↦ e ]

    go : (t : Bool) → nat_lt c.start d.start ≡ t → AreDisjoint (among c ds) → AreDisjoint (if t then c ∷ d ∷ ds else d ∷ among c ds)
    go true e k = let h : span_end c ≤ d.start = before (ltb→lt _ _ (passes _ e)) in ((h, later_ends c d h ds sorted.0), sorted)
    go false e k = (all_among (λ x. span_end d ≤ x.start) c ds (behind (nltb→le _ _ (fails _ e))) sorted.0, k)

pub ascending_apart : (bs : List Block) → ArePairsApart bs → AreDisjoint (ascending bs)
ascending_apart [] h = tt
ascending_apart (b ∷ bs) h = insert_apart b (ascending bs) (all_ascending (AreApart b) bs h.0) (ascending_apart bs h.1)

-- ---- lines

not_or_left : (x y : Bool) → not (x || y) ≡ true → not x ≡ true
not_or_left true y h = h
not_or_left false y h = refl

not_or_right : (x y : Bool) → not (x || y) ≡ true → not y ≡ true
not_or_right true y h = absurd (true≢false (sym h))
not_or_right false y h = h

-- what does not overlap is apart
apart_of : (j k : Line) (p q : List Line) → overlap j k ≡ false → AreApart (block_of (length p + 1) k) (block_of (length q + 1) j)
apart_of j k p q h = go (nat_lt j.addr (k.addr + max k.size 1)) (nat_lt k.addr (j.addr + max j.size 1)) refl refl h
  where
    go : (s t : Bool) → nat_lt j.addr (k.addr + max k.size 1) ≡ s → nat_lt k.addr (j.addr + max j.size 1) ≡ t → (s && t) ≡ false → (k.addr + max k.size 1 ≤ j.addr) ⊎ (j.addr + max j.size 1 ≤ k.addr)
    go false t e f g = inl (nltb→le _ _ (fails _ e))
    go true false e f g = inr (nltb→le _ _ (fails _ f))
    go true true e f g = absurd (true≢false g)

not_ended : (k x : Line) → not (ends k x) ≡ true → is_allocation x ≡ true → overlap x k ≡ false
not_ended k x h a = go (overlap x k) (subst (λ (t : Bool). not (t && overlap x k) ≡ true) a (not_or_right _ (is_allocation x && overlap x k) h))
  where
    go : (t : Bool) → not t ≡ true → t ≡ false
    go true e = absurd (true≢false (sym e))
    go false e = refl

-- the live blocks of the lines after k's are apart from k's, if none of those lines ends it
after_apart : (k : Line) (p q xs : List Line) → not (list_any (ends k) xs) ≡ true → AllByRecursion (AreApart (block_of (length p + 1) k)) (filter_map live_block (moments_after q xs))
after_apart k p q [] h = tt
after_apart k p q (x ∷ xs) h = go (is_allocation x) (not (list_any (ends x) xs)) refl (after_apart k p (q ++ x ∷ []) xs (not_or_right (ends k x) (list_any (ends k) xs) h))
  where
    go : (s t : Bool) → is_allocation x ≡ s → AllByRecursion (AreApart (block_of (length p + 1) k)) (filter_map live_block (moments_after (q ++ x ∷ []) xs)) →
        AllByRecursion (AreApart (block_of (length p + 1) k)) (cons_option (if s && t then Some (block_of (length q + 1) x) else None) (filter_map live_block (moments_after (q ++ x ∷ []) xs)))
    go true true e rest = (apart_of x k p q (not_ended k x (not_or_left (ends k x) (list_any (ends k) xs) h) e), rest)
    go true false e rest = rest
    go false t e rest = rest

pub pairs_apart : (q xs : List Line) → ArePairsApart (filter_map live_block (moments_after q xs))
pairs_apart q [] = tt
pairs_apart q (x ∷ xs) = go (is_allocation x) (not (list_any (ends x) xs)) refl (pairs_apart (q ++ x ∷ []) xs)
  where
    go : (s t : Bool) → not (list_any (ends x) xs) ≡ t → ArePairsApart (filter_map live_block (moments_after (q ++ x ∷ []) xs)) →
        ArePairsApart (cons_option (if s && t then Some (block_of (length q + 1) x) else None) (filter_map live_block (moments_after (q ++ x ∷ []) xs)))
    go true true e rest = (after_apart x q (q ++ x ∷ []) xs e, rest)
    go true false e rest = rest
    go false t e rest = rest

pub live_disjoint : (lines : List Line) → AreDisjoint (live_of lines)
unfolding live_of
live_disjoint lines = ascending_apart _ (pairs_apart [] lines)
