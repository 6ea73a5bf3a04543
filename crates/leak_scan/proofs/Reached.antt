-- What is read from an address on.
use Rattle.std.proofs.Common.{◌≡◌, ℕ, ◌+◌, ◌-◌, ◌*◌, ◌%◌, ◌^◌, ◌<◌, ◌≤◌, min, refl, ap, sym, ◌∙◌, subst, List, [], ◌∷◌, length, take, Option, Some, None, IfSome, IsSome, Bor, arith}
use Rattle.leak_elf.specs.Words.{IsNextReadable, IsPastZeros, IsRun}
use Rattle.leak_index.specs.Hits.{Index, hits_of}
use Rattle.leak_scan.specs.declared.reading.ReadWords.TheVariants.{Nothing, Word, Bytes}
use Rattle.leak_scan.specs.Targets.{targets_of}
use Rattle.leak_scan.specs.Positions.{words_in, IsPastIdle, IsRead, LeadsNowhere}
use Rattle.leak_scan.proofs.Leading.{lead, leads_none, left_out, nowhere}
use Rattle.leak_scan.proofs.Ranges.{IsAligned, nothing_in, no_addresses, same_range, skip, one_word}
use Rattle.leak_scan.proofs.Runs.{run_taken}

some_is : (x : Option ℕ) (v : ℕ) → x ≡ Some v → IsSome x
some_is x v e = subst (λ (y : Option ℕ). IsSome y) (sym e) refl

no_word : (index : Index) (x : Option ℕ) → x ≡ None → LeadsNowhere index x
no_word index x e = subst (LeadsNowhere index) (sym e) tt

-- an address where there can be no word
pub apart : (index : Index) (word_at : ℕ → Option ℕ) (a : ℕ) → IsAligned word_at → (a % 8 ≡ 0 → ⊥) → LeadsNowhere index (word_at a)
apart index word_at a aligned h = nowhere index (word_at a) (λ s. h (aligned a s))

-- the complete words of a run that are in the window
pub read_run : (index : Index) (word_at : ℕ → Option ℕ) (from window whole later : ℕ) (run : List ℕ) (front : Bor (List ℕ)) → IsAligned word_at → IsRun word_at from run → front.now ≡ take (8 * whole) run →
    from < 2 ^ 64 → 0 < whole → 8 * whole ≤ length run → 8 * whole < min window (18446744073709551615 - from) + 8 → later ≡ min (from + 8 * whole) 18446744073709551615 → IsRead word_at index from window (Bytes front) later
read_run index word_at from window whole later run front aligned is_run e high some fits room l =
    let first = aligned (from + 8 * 0) (some_is _ _ (is_run 0 (omega arith))) in
    let at : from % 8 ≡ 0 = omega arith in record {
      on = omega arith;
      words = ap (targets_of index) (run_taken word_at whole from (later - from) run aligned is_run fits (omega arith) (omega arith) ∙ ap words_in (sym e));
      outside = λ a low up. apart index word_at a aligned (λ z. omega (arith, z, low, up));
    }

-- the next word is after the window
pub read_none : (index : Index) (word_at : ℕ → Option ℕ) (from window next : ℕ) → 0 < window → window ≤ next - from → ((a : ℕ) → from ≤ a → a < next → LeadsNowhere index (word_at a)) → IsRead word_at index from window Nothing next
read_none index word_at from window next some far none = record {
  on = omega arith;
  words = left_out index word_at (lead index word_at) from (next - from) (λ a. refl) ∙ ap (targets_of index) (nothing_in (lead index word_at) from (next - from) (λ a l u. leads_none index (word_at a) (none a l (omega (arith, u)))));
  outside = λ a low up. none a (omega (arith, low)) up;
}

-- the next word is in the window
pub read_word : (index : Index) (word_at : ℕ → Option ℕ) (from window next later w : ℕ) → IsAligned word_at → next - from < window → from ≤ next → next % 8 ≡ 0 → next + 8 ≤ 2 ^ 64 → ((a : ℕ) → from ≤ a → a < next → LeadsNowhere index (word_at a)) → Some w ≡ word_at next → later ≡ min (next + 8) 18446744073709551615 →
    IsRead word_at index from window (Word w) later
read_word index word_at from window next later w aligned near behind at high none e l = record {
  on = omega arith;
  words =
      left_out index word_at (lead index word_at) from (later - from) (λ a. refl)
      ∙ ap (targets_of index) (skip (lead index word_at) (next - from) from (later - from) next (later - next) (omega arith) (omega arith) (λ a z u. leads_none index (word_at a) (none a z (omega (arith, u)))))
      ∙ sym (left_out index word_at (lead index word_at) next (later - next) (λ a. refl))
      ∙ ap (targets_of index) (
      one_word word_at next (later - next) w aligned (sym e) (omega arith)
      ∙ ap (λ ws. w ∷ ws) (same_range word_at (next + 8) (next + 8) (later - next - 8) 0 refl (omega arith) ∙ no_addresses word_at (next + 8)));
  outside = λ a low up. apart index word_at a aligned (λ z. omega (arith, z, low, up));
}

-- zeros lead nowhere
pub idle_zero : (index : Index) (x : Option ℕ) → [] ≡ hits_of index 0 → IfSome x (λ word. word ≡ 0) → LeadsNowhere index x
idle_zero index None none zero = tt
idle_zero index (Some word) none zero = ap (hits_of index) zero ∙ sym none

pub past_zeros_idle : (index : Index) (word_at : ℕ → Option ℕ) (from : ℕ) (next : Option ℕ) → [] ≡ hits_of index 0 → IsPastZeros word_at from next → IsPastIdle index word_at from next
past_zeros_idle index word_at from None none zeros = λ a l. idle_zero index (word_at a) none (zeros a l)
past_zeros_idle index word_at from (Some next) none zeros = (zeros.0, zeros.1, λ a l u. idle_zero index (word_at a) none (zeros.2 a l u))

-- addresses without words
pub next_idle : (index : Index) (word_at : ℕ → Option ℕ) (from : ℕ) (next : Option ℕ) → IsNextReadable word_at from next → IsPastIdle index word_at from next
next_idle index word_at from None least = λ a l. no_word index (word_at a) (least a l)
next_idle index word_at from (Some next) least = (least.0, least.1, λ a l u. no_word index (word_at a) (least.2 a l u))
