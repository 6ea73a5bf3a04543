-- Counting words.
use Rattle.std.proofs.Common.{◌≡◌, ℕ, zero, suc, ◌+◌, ◌-◌, ◌*◌, ◌%◌, ◌<◌, ◌≤◌, Bool, true, false, refl, sym, subst, ap, ◌∙◌, List, ◌++◌, length, Option, Some, None, IsSome, arith, true≢false, min, filter_map, if◌then◌else◌, length-append}
use Rattle.std.specs.List.{cons_option, range_with_len}
use Rattle.leak_elf.specs.Words.{IsRun, places}
use Rattle.leak_scan.specs.Positions.{words_from}
use Rattle.leak_scan.proofs.Ranges.{IsAligned, nothing_in, same_range, skip, one_word, agreeing, split}
use Rattle.leak_scan.proofs.Advance.{filtered}
use Rattle.leak_scan.specs.Targets.{is_on, block_words_on}
use Rattle.leak_scan.specs.Windows.{IsWindowAt}
use Rattle.leak_blocks.specs.declared.block.Block.{Block}

some_of : (o : Option ℕ) → IsSome o → (w : ℕ) × (o ≡ Some w)
some_of (Some w) h = (w, refl)
some_of None h = absurd (true≢false (sym h))

pub few_words : (f : ℕ → Option ℕ) (from count : ℕ) → length (words_from f from count) ≤ count
unfolding words_from
few_words f from zero = omega arith
few_words f from (suc count) = go (f from) (few_words f (from + 1) count)
  where
    go : (o : Option ℕ) → length (words_from f (from + 1) count) ≤ count → length (cons_option o (words_from f (from + 1) count)) ≤ suc count
    go None h = omega arith
    go (Some w) h = omega arith

-- consecutive words, and the others
pub count_more : (f : ℕ → Option ℕ) → IsAligned f → (n from count : ℕ) → ((k : ℕ) → k < n → IsSome (f (from + 8 * k))) → 8 * n ≤ count + 7 →
    length (words_from f from count) ≡ n + length (words_from f (from + 8 * n) (count - 8 * n))
count_more f aligned zero from count some few = ap length (same_range f from (from + 8 * 0) count (count - 8 * 0) (omega arith) (omega arith)) ∙ omega arith
count_more f aligned (suc n) from count some few =
    let first : IsSome (f from) = subst (λ (a : ℕ). IsSome (f a)) (let e : from + 8 * 0 ≡ from = omega arith in e) (some 0 (omega arith)) in
    let w : (w : ℕ) × (f from ≡ Some w) = some_of (f from) first in
    let rest = count_more f aligned n (from + 8) (count - 8) (λ k h. subst (λ (a : ℕ). IsSome (f a)) (let e : from + 8 * suc k ≡ from + 8 + 8 * k = omega arith in e) (some (suc k) (omega arith))) (omega arith) in
    let last = ap length (same_range f (from + 8 + 8 * n) (from + 8 * suc n) (count - 8 - 8 * n) (count - 8 * suc n) (omega arith) (omega arith)) in
    let one : length (words_from f from count) ≡ suc (length (words_from f (from + 8) (count - 8))) = ap length (one_word f from count w.0 aligned w.1 (omega arith)) in
    omega arith

-- the count goes on past the words that were found
pub count_on_from : (f : ℕ → Option ℕ) (at addr end found count total : ℕ) → IsAligned f → at ≤ addr → addr < end → ((a : ℕ) → at ≤ a → a < addr → f a ≡ None) →
    ((k : ℕ) → k < found → IsSome (f (addr + 8 * k))) → 8 * found ≤ end - addr + 7 → count + length (words_from f at (end - at)) ≡ total →
    (count + found) + length (words_from f (addr + 8 * found) (end - (addr + 8 * found))) ≡ total
count_on_from f at addr end found count total aligned low high none some few so_far =
    let passed = ap length (skip f (addr - at) at (end - at) addr (end - addr) (omega arith) (omega arith) (λ a l u. none a l (omega (arith, u)))) in
    let more = count_more f aligned found addr (end - addr) some few in
    let last = ap length (same_range f (addr + 8 * found) (addr + 8 * found) (end - addr - 8 * found) (end - (addr + 8 * found)) refl (omega arith)) in
    omega arith

-- no more words come before the end
pub count_ends : (f : ℕ → Option ℕ) (at end count total : ℕ) → ((a : ℕ) → at ≤ a → a < end → f a ≡ None) → count + length (words_from f at (end - at)) ≡ total → count ≡ total
count_ends f at end count total none so_far =
    let empty = ap length (nothing_in f at (end - at) (λ a l u. none a l (omega (arith, l, u)))) in
    let zero_len : length (words_from f at (end - at)) ≡ 0 = empty in
    omega arith

-- the words that were found are in the run, or there is one
pub found_words : (f : ℕ → Option ℕ) (addr found : ℕ) (run : List ℕ) → IsRun f addr run → IsSome (f addr) → ((k : ℕ) → 0 < k → k < found → 8 * k + 8 ≤ length run) → (k : ℕ) → k < found → IsSome (f (addr + 8 * k))
found_words f addr found run is_run first fits zero h = subst (λ (a : ℕ). IsSome (f a)) (let e : addr ≡ addr + 8 * 0 = omega arith in e) first
found_words f addr found run is_run first fits (suc k) h = subst (λ (o : Option ℕ). IsSome o) (sym (is_run (suc k) (fits (suc k) (omega arith) h))) refl

-- ---- on listed pages

-- the words on listed pages
abbrev pub on_pages : (ℕ → Option ℕ) → List ℕ → ℕ → Option ℕ
on_pages f pages a = if is_on pages a then f a else None

pub none_on : (f : ℕ → Option ℕ) (pages : List ℕ) (a : ℕ) → is_on pages a ≡ false → on_pages f pages a ≡ None
none_on f pages a e = ap (λ (t : Bool). if t then f a else None) e

abbrev empty : Option ℕ
empty = None

same_on : (f : ℕ → Option ℕ) (pages : List ℕ) (a : ℕ) → IsAligned f → (a % 8 ≡ 0 → is_on pages a ≡ true) → f a ≡ on_pages f pages a
same_on f pages a aligned on = go (f a) refl
  where
    none : (t : Bool) → empty ≡ (if t then empty else empty)
    none true = refl
    none false = refl

    go : (o : Option ℕ) → f a ≡ o → f a ≡ on_pages f pages a
    go None e = e ∙ none (is_on pages a) ∙ sym (ap (λ (o : Option ℕ). if is_on pages a then o else None) e)
    go (Some w) e = sym (ap (λ (t : Bool). if t then f a else None) (on (aligned a (subst (λ (o : Option ℕ). IsSome o) (sym e) refl))))

-- the count goes on past the window
pub count_window : (f : ℕ → Option ℕ) (pages : List ℕ) (at start len next end count found total : ℕ) → IsAligned f → IsWindowAt pages at start len → start < end → end ≤ 18446744073709551615 →
    next ≡ min end (min (start + len) 18446744073709551615) → found ≡ length (words_from f start (next - start)) → count + length (words_from (on_pages f pages) at (end - at)) ≡ total →
    (count + found) + length (words_from (on_pages f pages) next (end - next)) ≡ total
count_window f pages at start len next end count found total aligned window inside high is counted so_far =
    let g : ℕ → Option ℕ = on_pages f pages in
    let behind = window.behind in
    let some = window.some in
    let passed = ap length (skip g (start - at) at (end - at) start (end - start) (omega arith) (omega arith) (λ a l u. none_on f pages a (window.none a l (omega (arith, u))))) in
    let cut : words_from g start (end - start) ≡ words_from g start (next - start) ++ words_from g next (end - start - (next - start)) = split g (next - start) start (end - start) next (omega arith) (λ a l u. absurd (omega (arith, l, u))) in
    let parts = ap length cut ∙ length-append (words_from g start (next - start)) (words_from g next (end - start - (next - start))) in
    let same = ap length (agreeing f g start (next - start) (λ a l u. same_on f pages a aligned (λ z. window.all a l (omega (arith, u)) z))) in
    let last = ap length (same_range g next next (end - start - (next - start)) (end - next) refl (omega arith)) in
    omega arith

-- the words of a block on the pages
pub words_of_block : (f : ℕ → Option ℕ) (pages : List ℕ) (b : Block) (end : ℕ) → end ≡ b.start + (b.size - 7) → words_from (on_pages f pages) b.start (end - b.start) ≡ block_words_on f pages b
unfolding words_from block_words_on
words_of_block f pages b end e =
    ap (λ (n : ℕ). filter_map (on_pages f pages) (range_with_len b.start n)) (let z : end - b.start ≡ b.start + b.size - 7 - b.start = omega arith in z)
    ∙ filtered f (is_on pages) (places b.start (b.start + b.size))
