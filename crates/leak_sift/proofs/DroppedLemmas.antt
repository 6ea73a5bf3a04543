-- Words of a run that are dropped.
use Rattle.std.proofs.Common.{◌≡◌, ◌*◌, ◌+◌, ◌-◌, ◌/◌, ◌<◌, ◌≤◌, ℕ, List, length, take, drop, get_or, sym, ap, ◌∙◌, arith}
use Rattle.std.specs.Int.{w64}
use Rattle.leak_elf.specs.Fields.{number_at}
use Rattle.leak_index.proofs.Near.{either}
use Rattle.leak_sift.specs.Kept.{Rule, kept_of}
use Rattle.leak_sift.specs.Sifted.{AreZero, run_of}
use Rattle.leak_sift.proofs.PartLemmas.{number_part}
use Rattle.leak_sift.proofs.WordLemmas.{get-by_words}

-- a word of the run
pub word : (rule : Rule) (place : ℕ) (bytes : List ℕ) (k : ℕ) → k < length bytes / 8 → get_or (run_of rule place bytes) k 0 ≡ kept_of rule.blocks rule.links (place + 8 * k) (number_at w64 bytes (8 * k))
word rule place bytes k h = get-by_words (λ distance word. kept_of rule.blocks rule.links (place + distance) word) bytes k 0 h

module _ (rule : Rule) (place : ℕ) (bytes : List ℕ) (from number : ℕ) (so_far : AreZero (run_of rule place bytes) from number) where
  pub more_zero : (to : ℕ) → ((k : ℕ) → number ≤ k → k < to → get_or (run_of rule place bytes) k 0 ≡ 0) → AreZero (run_of rule place bytes) from to
  more_zero to next = record { each = λ k h l. either k number (get_or (run_of rule place bytes) k 0 ≡ 0) (λ before. so_far.each k h before) (λ after. next k after l) }

  -- the bytes from the number on, and what is dropped of them
  abbrev rest : List ℕ
  rest = take (length bytes - 8 * number) (drop (8 * number) bytes)

  pub past : (same : Rule) (dropped : ℕ) → same ≡ rule → number + dropped ≤ length bytes / 8
      → ((k : ℕ) → k < dropped → kept_of same.blocks same.links (place + 8 * number + 8 * k) (number_at w64 rest (8 * k)) ≡ 0)
      → AreZero (run_of rule place bytes) from (number + dropped)
  past same dropped e within none = more_zero (number + dropped) (λ k h l.
      let at : place + 8 * number + 8 * (k - number) ≡ place + 8 * k = omega arith in
      let there : 8 * number + 8 * (k - number) ≡ 8 * k = omega arith in
      word rule place bytes k (omega arith)
      ∙ ap (kept_of rule.blocks rule.links (place + 8 * k)) (sym (number_part bytes (8 * number) (length bytes) (8 * (k - number)) (omega arith) ∙ ap (number_at w64 bytes) there))
      ∙ ap (λ (r : Rule). kept_of r.blocks r.links (place + 8 * k) (number_at w64 rest (8 * (k - number)))) (sym e)
      ∙ ap (λ (p : ℕ). kept_of same.blocks same.links p (number_at w64 rest (8 * (k - number)))) (sym at)
      ∙ none (k - number) (omega arith))

-- so many of them from the number on
pub dropped_from : (rule same : Rule) (place : ℕ) (bytes : List ℕ) (number dropped count : ℕ) → same ≡ rule → number + dropped ≤ length bytes / 8 → count ≤ dropped
    → ((k : ℕ) → k < dropped → kept_of same.blocks same.links (place + 8 * number + 8 * k) (number_at w64 (take (length bytes - 8 * number) (drop (8 * number) bytes)) (8 * k)) ≡ 0)
    → AreZero (run_of rule place bytes) number (number + count)
dropped_from rule same place bytes number dropped count e within fewer none =
    let all = past rule place bytes number number (record { each = λ k h l. absurd (omega (arith, h, l)) }) same dropped e within none in
    record { each = λ k h l. all.each k h (omega (arith, l, fewer)) }
