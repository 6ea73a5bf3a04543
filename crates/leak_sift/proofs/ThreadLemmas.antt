-- Words of parts, side by side.
use Rattle.std.proofs.Common.{◌≡◌, ℕ, ◌+◌, ◌*◌, ◌/◌, ◌%◌, ◌^◌, ◌<◌, ◌≤◌, List, [], ◌++◌, length, take, drop, Ok, Err, sym, ap, ◌∙◌, arith}
use Rattle.std.specs.Prelude.{Result, OnErr, OnOk}
use Rattle.std.proofs.lemmas.List.{length-append, length-take-le, take-append-drop}
use Rattle.leak_elf.specs.declared.segment.Segment.{Segment}
use Rattle.leak_sift.specs.Kept.{Rule}
use Rattle.leak_sift.specs.Sifted.{IsWithin, Sifted, by_words, end_of, kept_at, sifted}
use Rattle.leak_sift.proofs.WordLemmas.{by_words-append, by_words-same, later, length-by_words}

pub sifted_count : (rule : Rule) (segments : List Segment) (offset : ℕ) (bytes : List ℕ) → length (sifted rule segments offset bytes) ≡ length bytes / 8
sifted_count rule segments offset bytes = length-by_words (λ distance word. kept_at rule segments (offset + distance) word) bytes

-- both parts of bytes that are cut
pub both_bytes : (bytes front back : List ℕ) (n : ℕ) → front ≡ take n bytes → back ≡ drop n bytes → front ++ back ≡ bytes
both_bytes bytes front back n e f = ap (λ (l : List ℕ). l ++ back) e ∙ ap (λ (l : List ℕ). take n bytes ++ l) f ∙ take-append-drop n bytes

-- bytes that are cut behind complete words
module _ (rule : Rule) (segments : List Segment) (offset middle : ℕ) (bytes front back : List ℕ) (e : front ≡ take middle bytes) (f : back ≡ drop middle bytes) (inside : middle ≤ length bytes) (whole : middle % 8 ≡ 0) where
  abbrev kept : ℕ → ℕ → ℕ
  kept distance word = kept_at rule segments (offset + distance) word

  size : length front ≡ 8 * (middle / 8)
  size = omega (arith, ap (length {A = ℕ}) e, length-take-le middle bytes inside, whole)

  second : sifted rule segments (offset + middle) back ≡ by_words (later kept (middle / 8)) back
  second = by_words-same (λ distance word. kept_at rule segments (offset + middle + distance) word) (later kept (middle / 8)) back
      (λ k word h. let there : offset + middle + 8 * k ≡ offset + (8 * (middle / 8) + 8 * k) = omega (arith, whole) in ap (λ (a : ℕ). kept_at rule segments a word) there)

  pub sifted_parts : sifted rule segments offset front ++ sifted rule segments (offset + middle) back ≡ sifted rule segments offset bytes
  sifted_parts =
      ap (λ (l : List ℕ). sifted rule segments offset front ++ l) second
      ∙ sym (by_words-append kept front back (middle / 8) size) ∙ ap (by_words kept) (both_bytes bytes front back middle e f)

-- all of the words are appended, or none
module _ {E : Type 0} (r : Result (Unit {0}) E) (s : Sifted) (after bytes : List ℕ) (offset : ℕ) where
  abbrev more : List ℕ
  more = sifted s.rule s.segments offset bytes

  at_most_all : (r : Result (Unit {0}) E) → OnOk r (after ≡ s.words ++ more) → OnErr r (after ≡ s.words) → length after ≤ length s.words + length bytes / 8
  at_most_all (Ok x) ok err = omega (arith, ap (length {A = ℕ}) ok, length-append s.words more, sifted_count s.rule s.segments offset bytes)
  at_most_all (Err e) ok err = omega (arith, ap (length {A = ℕ}) err)

  pub all_within : s.waiting ≡ [] → end_of s + length bytes < 2 ^ 64 → OnOk r (after ≡ s.words ++ more) → OnErr r (after ≡ s.words) → IsWithin s.head after s.waiting
  all_within none fits ok err =
      let most = at_most_all r ok err in
      record { few = omega (arith, ap (length {A = ℕ}) none); fits = omega (arith, most, ap (length {A = ℕ}) none, fits) }
