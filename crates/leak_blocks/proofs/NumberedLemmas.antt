-- Numbered blocks, and the blocks that they stand for.
use Rattle.std.proofs.Common.{◌≡◌, ℕ, zero, suc, ◌+◌, ◌≤◌, max, Bool, true, false, ◌||◌, cond, refl, sym, subst, ap, ◌∙◌, true≢false, List, [], ◌∷◌, ◌++◌, length, filter, count_by, Some, slice_get, nat_lt, if◌then◌else◌}
use Rattle.std.specs.List.{list_any, AllByRecursion}
use Rattle.std.proofs.lemmas.List.Sums.{length-filter}
use Rattle.leak_blocks.specs.declared.block.Block.{Block}
use Rattle.leak_blocks.specs.Span.{AreDisjoint, span_end}
use Rattle.leak_blocks.specs.Live.{among}
use Rattle.leak_blocks.specs.Numbers.{IsNumberOf, IsNumbered, AreNumbersOf}

-- ---- one more allocation

longer_get : (xs ys : List Block) (n : ℕ) (b : Block) → slice_get xs n ≡ Some b → slice_get (xs ++ ys) n ≡ Some b
longer_get [] ys n b e = absurd cc
longer_get (x ∷ xs) ys zero b e = e
longer_get (x ∷ xs) ys (suc n) b e = longer_get xs ys n b e

pub last_get : (xs : List Block) (b : Block) → slice_get (xs ++ b ∷ []) (length xs) ≡ Some b
last_get [] b = refl
last_get (x ∷ xs) b = last_get xs b

pub stand_longer : (allocated more bs cs : List Block) → AreNumbersOf allocated bs cs → AreNumbersOf (allocated ++ more) bs cs
stand_longer allocated more [] [] h = tt
stand_longer allocated more [] (c ∷ cs) h = elim h [ ]
stand_longer allocated more (b ∷ bs) [] h = elim h [ ]
stand_longer allocated more (b ∷ bs) (c ∷ cs) h = (record { at = longer_get allocated more b.line c h.0.at; start = h.0.start; size = h.0.size }, stand_longer allocated more bs cs h.1)

-- ---- each of them

pub all_numbered : (allocated bs cs : List Block) → AreNumbersOf allocated bs cs → AllByRecursion (IsNumbered allocated) bs
all_numbered allocated [] cs h = tt
all_numbered allocated (b ∷ bs) [] h = elim h [ ]
all_numbered allocated (b ∷ bs) (c ∷ cs) h = ((c, h.0), all_numbered allocated bs cs h.1)

pub same_length : (allocated bs cs : List Block) → AreNumbersOf allocated bs cs → length bs ≡ length cs
same_length allocated [] [] h = refl
same_length allocated [] (c ∷ cs) h = elim h [ ]
same_length allocated (b ∷ bs) [] h = elim h [ ]
same_length allocated (b ∷ bs) (c ∷ cs) h = ap (λ (n : ℕ). suc n) (same_length allocated bs cs h.1)

-- ---- a test of the place alone

abbrev pub IsOfPlace : (Block → Bool) → Type 0
IsOfPlace p = (b c : Block) → b.start ≡ c.start → b.size ≡ c.size → p b ≡ p c

pub stand_filter : (allocated : List Block) (p : Block → Bool) → IsOfPlace p → (bs cs : List Block) → AreNumbersOf allocated bs cs → AreNumbersOf allocated (filter p bs) (filter p cs)
stand_filter allocated p same [] [] h = tt
stand_filter allocated p same [] (c ∷ cs) h = elim h [ ]
stand_filter allocated p same (b ∷ bs) [] h = elim h [ ]
stand_filter allocated p same (b ∷ bs) (c ∷ cs) h = go (p b) (p c) (same b c h.0.start h.0.size) (stand_filter allocated p same bs cs h.1)
  where
    go : (s t : Bool) → s ≡ t → AreNumbersOf allocated (filter p bs) (filter p cs) → AreNumbersOf allocated (cond s (b ∷ filter p bs) (filter p bs)) (cond t (c ∷ filter p cs) (filter p cs))
    go true true e rest = (h.0, rest)
    go false false e rest = rest
    go true false e rest = absurd (true≢false e)
    go false true e rest = absurd (true≢false (sym e))

pub stand_count : (allocated : List Block) (p : Block → Bool) → IsOfPlace p → (bs cs : List Block) → AreNumbersOf allocated bs cs → count_by p bs ≡ count_by p cs
stand_count allocated p same bs cs h = sym (length-filter p bs) ∙ same_length allocated (filter p bs) (filter p cs) (stand_filter allocated p same bs cs h) ∙ length-filter p cs

pub stand_any : (allocated : List Block) (p : Block → Bool) → IsOfPlace p → (bs cs : List Block) → AreNumbersOf allocated bs cs → list_any p bs ≡ list_any p cs
stand_any allocated p same [] [] h = refl
stand_any allocated p same [] (c ∷ cs) h = elim h [ ]
stand_any allocated p same (b ∷ bs) [] h = elim h [ ]
stand_any allocated p same (b ∷ bs) (c ∷ cs) h = ap (λ (t : Bool). t || list_any p bs) (same b c h.0.start h.0.size) ∙ ap (λ (t : Bool). p c || t) (stand_any allocated p same bs cs h.1)

-- ---- order

pub stand_among : (allocated : List Block) (n c : Block) → IsNumberOf allocated n c → (bs cs : List Block) → AreNumbersOf allocated bs cs → AreNumbersOf allocated (among n bs) (among c cs)
stand_among allocated n c i [] [] h = (i, tt)
stand_among allocated n c i [] (d ∷ ds) h = elim h [ ]
stand_among allocated n c i (b ∷ bs) [] h = elim h [ ]
stand_among allocated n c i (b ∷ bs) (d ∷ ds) h = go (nat_lt n.start b.start) (nat_lt c.start d.start) (ap (λ (k : ℕ). nat_lt k b.start) i.start ∙ ap (nat_lt c.start) h.0.start) (stand_among allocated n c i bs ds h.1)
  where
    go : (s t : Bool) → s ≡ t → AreNumbersOf allocated (among n bs) (among c ds) → AreNumbersOf allocated (if s then n ∷ b ∷ bs else b ∷ among n bs) (if t then c ∷ d ∷ ds else d ∷ among c ds)
    go true true e rest = (i, h)
    go false false e rest = (h.0, rest)
    go true false e rest = absurd (true≢false e)
    go false true e rest = absurd (true≢false (sym e))

pub end_of_place : (b c : Block) → b.start ≡ c.start → b.size ≡ c.size → span_end b ≡ span_end c
end_of_place b c e f = ap (λ (n : ℕ). n + max b.size 1) e ∙ ap (λ (n : ℕ). c.start + max n 1) f

stand_above : (allocated : List Block) (end : ℕ) (bs cs : List Block) → AreNumbersOf allocated bs cs → AllByRecursion (λ c. end ≤ c.start) cs → AllByRecursion (λ b. end ≤ b.start) bs
stand_above allocated end [] cs h k = tt
stand_above allocated end (b ∷ bs) [] h k = elim h [ ]
stand_above allocated end (b ∷ bs) (c ∷ cs) h k = (subst (λ (n : ℕ). end ≤ n) (sym h.0.start) k.0, stand_above allocated end bs cs h.1 k.1)

pub stand_disjoint : (allocated bs cs : List Block) → AreNumbersOf allocated bs cs → AreDisjoint cs → AreDisjoint bs
stand_disjoint allocated [] cs h d = tt
stand_disjoint allocated (b ∷ bs) [] h d = elim h [ ]
stand_disjoint allocated (b ∷ bs) (c ∷ cs) h d = (
  subst (λ (n : ℕ). AllByRecursion (λ x. n ≤ x.start) bs) (sym (end_of_place b c h.0.start h.0.size)) (stand_above allocated (span_end c) bs cs h.1 d.0),
  stand_disjoint allocated bs cs h.1 d.1,
)
