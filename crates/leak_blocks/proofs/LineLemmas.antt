-- Live blocks are those of their lines, and have their addresses in 64 bits.
use Rattle.std.proofs.Common.{◌≡◌, ℕ, ◌+◌, ◌-◌, ◌^◌, ◌<◌, ◌≤◌, ◌⊎◌, inl, inr, Bool, true, false, not, ◌&&◌, refl, sym, subst, ap, ◌∙◌, true≢false, List, [], ◌∷◌, ◌++◌, length, Some, None, slice_get, arith, ◌==◌, nat_lt, if◌then◌else◌, append_assoc, length-append}
use Rattle.std.specs.List.{list_any, cons_option, AllByRecursion}
use Rattle.std.proofs.lemmas.Bool.Decides.{nat_tests}
use Rattle.leak_mtrace.specs.declared.line.Kind.{Kind}
use Rattle.leak_mtrace.specs.declared.line.Kind.TheVariants.{Alloc, Free, MoveOut, MoveIn, Failed, Remark}
use Rattle.leak_mtrace.specs.declared.line.Line.{Line}
use Rattle.leak_mtrace.specs.Log.{IsPastEnd, LinesFit}
use Rattle.leak_blocks.specs.Span.{IsAddressed, AreAddressed}
use Rattle.leak_blocks.specs.Live.{allocates, block_of, live_of, is_allocation, ends}
use Rattle.leak_blocks.specs.Laws.{IsOfLine}
use Rattle.leak_blocks.proofs.DisjointLemmas.{all_ascending}
use Rattle.leak_blocks.proofs.OrderLemmas.{less_of, not_less_of}
use Rattle.leak_blocks.proofs.GrowthLemmas.{live_from}

-- the line after the first ones
line_behind : (q : List Line) (x : Line) (xs : List Line) → slice_get (q ++ x ∷ xs) (length q) ≡ Some x
line_behind [] x xs = refl
line_behind (y ∷ q) x xs = line_behind q x xs

of_lines_from : (lines q xs : List Line) → q ++ xs ≡ lines → AllByRecursion (IsOfLine lines) (live_from q xs)
of_lines_from lines q [] e = tt
of_lines_from lines q (x ∷ xs) e = go (is_allocation x) (not (list_any (ends x) xs)) refl (of_lines_from lines (q ++ x ∷ []) xs (append_assoc q (x ∷ []) xs ∙ e))
  where
    long : length q + length (x ∷ xs) ≡ length lines
    long = sym (length-append q (x ∷ xs)) ∙ ap length e

    place : length q + 1 - 1 ≡ length q
    place = omega arith

    at : slice_get lines (length q + 1 - 1) ≡ Some x
    at = ap (slice_get lines) place ∙ subst (λ (l : List Line). slice_get l (length q) ≡ Some x) e (line_behind q x xs)

    go : (s t : Bool) → is_allocation x ≡ s → AllByRecursion (IsOfLine lines) (live_from (q ++ x ∷ []) xs) →
        AllByRecursion (IsOfLine lines) (cons_option (if s && t then Some (block_of (length q + 1) x) else None) (live_from (q ++ x ∷ []) xs))
    go true true a rest = (record { line = x; numbered = omega arith; within = omega (arith, long); at = at; allocates = a; same = refl }, rest)
    go true false a rest = rest
    go false t a rest = rest

pub live_of_lines : (lines : List Line) → AllByRecursion (IsOfLine lines) (live_of lines)
unfolding live_of
live_of_lines lines = all_ascending (IsOfLine lines) (live_from [] lines) (of_lines_from lines [] lines refl)

-- ---- addresses

kind_of : (k : Kind) (t : Bool) → (allocates k && t) ≡ true → ((k ≡ Alloc) ⊎ (k ≡ MoveIn)) × (t ≡ true)
kind_of Alloc t h = (inl refl, h)
kind_of MoveIn t h = (inr refl, h)
kind_of Free t h = absurd (true≢false (sym h))
kind_of MoveOut t h = absurd (true≢false (sym h))
kind_of Failed t h = absurd (true≢false (sym h))
kind_of Remark t h = absurd (true≢false (sym h))

above_zero : (n : ℕ) → not (n == 0) ≡ true → 0 < n
above_zero n h = grind (arith, nat_tests)

below_end : (n m : ℕ) → (m ≤ n → ⊥) → n < m
below_end n m h = go (nat_lt n m) refl
  where
    go : (t : Bool) → nat_lt n m ≡ t → n < m
    go true e = less_of n m e
    go false e = absurd (h (not_less_of n m e))

pub addressed_line : (x : Line) (number : ℕ) → is_allocation x ≡ true → (IsPastEnd x → ⊥) → IsAddressed (block_of number x)
addressed_line x number a fits =
    let k : ((x.kind ≡ Alloc) ⊎ (x.kind ≡ MoveIn)) × (not (x.addr == 0) ≡ true) = kind_of x.kind (not (x.addr == 0)) a in
    record { above = above_zero x.addr k.1; fits = below_end (x.addr + x.size) (2 ^ 64) (λ h. fits (k.0, h)) }

addressed_from : (q xs : List Line) → LinesFit xs → AreAddressed (live_from q xs)
addressed_from q [] h = tt
addressed_from q (x ∷ xs) h = go (is_allocation x) (not (list_any (ends x) xs)) refl (addressed_from (q ++ x ∷ []) xs h.1)
  where
    go : (s t : Bool) → is_allocation x ≡ s → AreAddressed (live_from (q ++ x ∷ []) xs) → AreAddressed (cons_option (if s && t then Some (block_of (length q + 1) x) else None) (live_from (q ++ x ∷ []) xs))
    go true true a rest = (addressed_line x (length q + 1) a h.0, rest)
    go true false a rest = rest
    go false t a rest = rest

pub live_addressed : (lines : List Line) → LinesFit lines → AreAddressed (live_of lines)
unfolding live_of
live_addressed lines h = all_ascending IsAddressed (live_from [] lines) (addressed_from [] lines h)
