-- The words of a run are a part of all words.
use Rattle.std.proofs.Common.{◌≡◌, ℕ, ◌+◌, ◌-◌, ◌*◌, ◌/◌, ◌<◌, ◌≤◌, List, ◌++◌, length, take, drop, replicate, get_or, Option, Some, None, option_map, sym, ap, ◌∙◌, arith}
use Rattle.std.specs.Prelude.{slice_range}
use Rattle.std.specs.Int.{w64, from_le_bytes}
use Rattle.std.specs.Option.{option_map_or}
use Rattle.std.proofs.lemmas.List.{append_assoc, drop-drop, drop-take, get_or-drop, get_or-take, length-drop, length-take, length-take-le, same_lists, take-append-drop, take-take}
use Rattle.leak_elf.specs.declared.segment.Segment.{Segment}
use Rattle.leak_elf.specs.Fields.{number_at}
use Rattle.leak_sift.specs.declared.places.Run.{Run}
use Rattle.leak_sift.specs.Kept.{Rule, kept_of}
use Rattle.leak_sift.specs.Runs.{IsRunAt}
use Rattle.leak_sift.specs.Sifted.{AreSomeAppended, by_words, kept_at, run_of, sifted}
use Rattle.leak_sift.proofs.WordLemmas.{by_words-same, by_words-zeros, get-by_words, later, length-by_words}

-- ---- parts of lists

take_add : (xs : List ℕ) (m n : ℕ) → take (m + n) xs ≡ take m xs ++ take n (drop m xs)
take_add xs m n = sym (take-append-drop m (take (m + n) xs)) ∙ ap (λ (l : List ℕ). l ++ drop m (take (m + n) xs)) (take-take m (m + n) xs (omega arith)) ∙ ap (λ (l : List ℕ). take m xs ++ l) (drop-take m n xs)

module _ (before more words : List ℕ) (done : ℕ) (so_far : words ≡ before ++ take done more) where
  pub part_appended : (n : ℕ) (part after : List ℕ) → part ≡ take n (drop done more) → after ≡ words ++ part → after ≡ before ++ take (done + n) more
  part_appended n part after is e =
      e ∙ ap (λ (l : List ℕ). l ++ part) so_far ∙ append_assoc before (take done more) part
      ∙ ap (λ (l : List ℕ). before ++ (take done more ++ l)) is ∙ ap (λ (l : List ℕ). before ++ l) (sym (take_add more done n))

  pub part_cut_short : (n : ℕ) (part after : List ℕ) → done + n ≤ length more → part ≡ take n (drop done more) → AreSomeAppended words part after → AreSomeAppended before more after
  part_cut_short n part after inside is some =
      let fewer : some.count < n = omega (arith, some.fewer, ap (length {A = ℕ}) is, length-take-le n (drop done more) (omega (arith, length-drop done more))) in
      let front : take some.count part ≡ take some.count (drop done more) = ap (take {A = ℕ} some.count) is ∙ take-take some.count n (drop done more) (omega arith) in
      record { count = done + some.count; fewer = omega arith; words = part_appended some.count (take some.count part) after front some.words }

  pub none_appended : (after : List ℕ) → done < length more → after ≡ words → AreSomeAppended before more after
  none_appended after inside e = record { count = done; fewer = inside; words = e ∙ so_far }

-- ---- words in a part of the bytes

pub number_part : (bytes : List ℕ) (from to at : ℕ) → from + at + 8 ≤ to → number_at w64 (slice_range bytes from to) at ≡ number_at w64 bytes (from + at)
unfolding number_at
number_part bytes from to at h =
    let width : from + at + 8 - (from + at) ≡ at + 8 - at = omega arith in
    let size : to - from ≡ at + (to - from - at) = omega arith in
    ap (λ (n : ℕ). from_le_bytes w64 (take (at + 8 - at) (drop at (take n (drop from bytes))))) size
    ∙ ap (λ (l : List ℕ). from_le_bytes w64 (take (at + 8 - at) l)) (drop-take at (to - from - at) (drop from bytes))
    ∙ ap (from_le_bytes w64) (take-take (at + 8 - at) (to - from - at) (drop at (drop from bytes)) (omega arith))
    ∙ ap (λ (l : List ℕ). from_le_bytes w64 (take (at + 8 - at) l)) (drop-drop at from bytes)
    ∙ ap (λ (n : ℕ). from_le_bytes w64 (take n (drop (from + at) bytes))) (sym width)

module _ (f : ℕ → ℕ → ℕ) (bytes : List ℕ) (done n : ℕ) (inside : done + n ≤ length bytes / 8) where
  abbrev part : List ℕ
  part = slice_range bytes (8 * done) (8 * (done + n))

  length-part : length part ≡ 8 * n
  length-part = omega (arith, length-take (8 * (done + n) - 8 * done) (drop (8 * done) bytes), length-drop (8 * done) bytes)

  lengths : length (by_words (later f done) part) ≡ length (take n (drop done (by_words f bytes)))
  lengths = omega (arith, length-by_words (later f done) part, length-part, length-take n (drop done (by_words f bytes)), length-drop done (by_words f bytes), length-by_words f bytes)

  each : (k d : ℕ) → k < n → get_or (by_words (later f done) part) k d ≡ get_or (take n (drop done (by_words f bytes))) k d
  each k d h =
      let at : 8 * (done + k) ≡ 8 * done + 8 * k = omega arith in
      let word = number_part bytes (8 * done) (8 * (done + n)) (8 * k) (omega arith) in
      get-by_words (later f done) part k d (omega (arith, length-part)) ∙ ap (f (8 * done + 8 * k)) word
      ∙ ap (λ (m : ℕ). f m (number_at w64 bytes m)) (sym at)
      ∙ sym (get_or-take n (drop done (by_words f bytes)) k d h ∙ get_or-drop done (by_words f bytes) k d ∙ get-by_words f bytes (done + k) d (omega arith))

  pub words_part : by_words (later f done) part ≡ take n (drop done (by_words f bytes))
  words_part = same_lists (by_words (later f done) part) (take n (drop done (by_words f bytes))) lengths (λ k d l. each k d (omega (arith, length-by_words (later f done) part, length-part)))

-- ---- words of a run

module _ (rule : Rule) (segments : List Segment) (offset : ℕ) (bytes : List ℕ) (done most : ℕ) (run : Run) (is : IsRunAt segments (offset + 8 * done) most run) (inside : done + run.words ≤ length bytes / 8) where
  -- what is kept of a word of the run
  at_run : (k word : ℕ) → k < run.words → kept_at rule segments (offset + (8 * done + 8 * k)) word
      ≡ option_map_or (λ place. kept_of rule.blocks rule.links place word) (option_map (λ place. place + 8 * k) run.place) 0
  at_run k word h =
      let there : offset + (8 * done + 8 * k) ≡ offset + 8 * done + 8 * k = omega arith in
      ap (λ (a : ℕ). kept_at rule segments a word) there ∙ ap (λ (o : Option ℕ). option_map_or (λ place. kept_of rule.blocks rule.links place word) o 0) (is.places k h)

  abbrev kept : ℕ → ℕ → ℕ
  kept distance word = kept_at rule segments (offset + distance) word

  pub run_part : (place : ℕ) → run.place ≡ Some place → run_of rule place (slice_range bytes (8 * done) (8 * (done + run.words))) ≡ take run.words (drop done (sifted rule segments offset bytes))
  run_part place e =
      by_words-same (λ distance word. kept_of rule.blocks rule.links (place + distance) word) (later kept done) (slice_range bytes (8 * done) (8 * (done + run.words)))
      (λ k word h. sym (at_run k word (omega (arith, length-part kept bytes done run.words inside)) ∙ ap (λ (o : Option ℕ). option_map_or (λ p. kept_of rule.blocks rule.links p word) (option_map (λ p. p + 8 * k) o) 0) e))
      ∙ words_part kept bytes done run.words inside

  pub gap_part : run.place ≡ None → replicate run.words 0 ≡ take run.words (drop done (sifted rule segments offset bytes))
  gap_part e =
      let count : length (slice_range bytes (8 * done) (8 * (done + run.words))) / 8 ≡ run.words = omega (arith, length-part kept bytes done run.words inside) in
      ap (λ (n : ℕ). replicate n 0) (sym count)
      ∙ sym (by_words-zeros (later kept done) (slice_range bytes (8 * done) (8 * (done + run.words)))
      (λ k word h. at_run k word (omega (arith, length-part kept bytes done run.words inside)) ∙ ap (λ (o : Option ℕ). option_map_or (λ p. kept_of rule.blocks rule.links p word) (option_map (λ p. p + 8 * k) o) 0) e))
      ∙ words_part kept bytes done run.words inside
