-- The words of a part of a run, and of a group.
use Rattle.std.proofs.Common.{◌≡◌, ◌∙◌, ℕ, ◌+◌, ◌*◌, ◌/◌, ◌<◌, ◌≤◌, ◌⊎◌, inl, inr, Bool, true, false, not, ◌&&◌, ◌||◌, List, [], length, take, drop, get_or, refl, sym, ap, arith}
use Rattle.std.specs.Prelude.{◌==◌, if◌then◌else◌, nat_lt, slice_range}
use Rattle.std.specs.Int.{bit_at, w64, from_le_bytes}
use Rattle.std.specs.Simd.{first_chunks}
use Rattle.std.proofs.lemmas.Bool.{cases_lt, le-leb, le-ltb, lt-leb, lt-ltb}
use Rattle.std.proofs.lemmas.List.{get_or-drop, get_or-take, length-drop, length-take-le, same_lists}
use Rattle.std.proofs.lemmas.List.FromFn.{get_or-map-range_with_len, length-map-range_with_len}
use Rattle.leak_lemmas.proofs.Lists.{any_default}
use Rattle.leak_blocks.specs.declared.block.Block.{Block}
use Rattle.leak_elf.specs.Fields.{number_at}
use Rattle.leak_sparse.specs.Pushed.{group_of, word_of}
use Rattle.leak_sparse.specs.Words.{is_between}
use Rattle.leak_sift.specs.Grouped.{AreBits, is_kept}
use Rattle.leak_sift.specs.Kept.{Rule, is_near, is_outside, kept_of}
use Rattle.leak_sift.specs.Passed.{IsRange}
use Rattle.leak_sift.specs.Sifted.{run_of}
use Rattle.leak_sift.proofs.BitsLemmas.{bit}
use Rattle.leak_sift.proofs.DroppedLemmas.{word}
use Rattle.leak_sift.proofs.PartLemmas.{words_part}
use Rattle.leak_sift.proofs.WordLemmas.{by_words-same, later, length-by_words, number_of_chunk}

-- ---- in range

not_outside : (low high word : ℕ) → is_between low high word ≡ not (nat_lt word low || nat_lt high word)
not_outside low high word = go (cases_lt word low) (cases_lt high word)
  where
    go : (word < low) ⊎ (low ≤ word) → (high < word) ⊎ (word ≤ high) → is_between low high word ≡ not (nat_lt word low || nat_lt high word)
    go (inl below) _ = rw (lt-leb low word below, lt-ltb word low below) refl
    go (inr from) (inl above) = rw (le-leb low word from, le-ltb word low from, lt-leb word high above, lt-ltb high word above) refl
    go (inr from) (inr to) = rw (le-leb low word from, le-ltb word low from, le-leb word high to, le-ltb high word to) refl

pub in_range : (blocks : List Block) (low high word : ℕ) → IsRange blocks low high → is_between low high word ≡ not (is_outside blocks word)
in_range blocks low high word range = not_outside low high word ∙ ap not (sym (range.tells word))

-- ---- a part of a run

-- how many words the run has
pub run_count : (rule : Rule) (place : ℕ) (bytes : List ℕ) → length (run_of rule place bytes) ≡ length bytes / 8
run_count rule place bytes = length-by_words (λ distance word. kept_of rule.blocks rule.links (place + distance) word) bytes

pub part_of_run : (rule : Rule) (place : ℕ) (bytes : List ℕ) (done n : ℕ) → done + n ≤ length bytes / 8
    → run_of rule (place + 8 * done) (slice_range bytes (8 * done) (8 * (done + n))) ≡ take n (drop done (run_of rule place bytes))
part_of_run rule place bytes done n inside =
    by_words-same (λ distance word. kept_of rule.blocks rule.links (place + 8 * done + distance) word) (later (λ distance word. kept_of rule.blocks rule.links (place + distance) word) done) (slice_range bytes (8 * done) (8 * (done + n)))
    (λ k word h. let at : place + 8 * done + 8 * k ≡ place + (8 * done + 8 * k) = omega arith in ap (λ (p : ℕ). kept_of rule.blocks rule.links p word) at)
    ∙ words_part (λ distance word. kept_of rule.blocks rule.links (place + distance) word) bytes done n inside

-- ---- a group of it

-- a word by its bit, and by what is kept of it
by_flag : (outside near : Bool) (word n : ℕ) → n ≡ bit (near || not outside) → (if n == 1 then word else 0) ≡ (if outside && not near then 0 else word)
by_flag true true word n is = ap (λ (m : ℕ). if m == 1 then word else 0) is
by_flag true false word n is = ap (λ (m : ℕ). if m == 1 then word else 0) is
by_flag false true word n is = ap (λ (m : ℕ). if m == 1 then word else 0) is
by_flag false false word n is = ap (λ (m : ℕ). if m == 1 then word else 0) is

-- the words of the group's chunks
pub group_word : (bytes : List ℕ) (all : List (List ℕ)) (done k : ℕ) → all ≡ first_chunks 8 (length bytes / 8) bytes → done + 64 ≤ length bytes / 8 → k < 64
    → word_of (take 64 (drop done all)) k ≡ number_at w64 bytes (8 * (done + k))
group_word bytes all done k e within h =
    ap (from_le_bytes w64) (get_or-take 64 (drop done all) k [] h ∙ get_or-drop done all k []) ∙ number_of_chunk bytes all (done + k) [] e (omega (arith, within, h))

module _ (rule : Rule) (place : ℕ) (bytes : List ℕ) (done bits : ℕ) (group : List (List ℕ)) (within : done + 64 ≤ length bytes / 8)
    (words : (k : ℕ) → k < 64 → word_of group k ≡ number_at w64 bytes (8 * (done + k)))
    (are : AreBits (λ k. is_kept rule.blocks rule.links (place + 8 * done + 8 * k) (word_of group k)) 64 bits) where
  abbrev run : List ℕ
  run = run_of rule place bytes

  long : length run ≡ length bytes / 8
  long = run_count rule place bytes

  abbrev chosen : ℕ → ℕ
  chosen k = if bit_at bits k == 1 then word_of group k else 0

  size : length (group_of bits group) ≡ 64
  size = length-map-range_with_len chosen 0 64

  other_size : length (take 64 (drop done run)) ≡ 64
  other_size = length-take-le 64 (drop done run) (omega (arith, length-drop done run, long, within))

  at_word : (k : ℕ) → k < 64 → chosen k ≡ kept_of rule.blocks rule.links (place + 8 * (done + k)) (number_at w64 bytes (8 * (done + k)))
  at_word k h =
      let at : place + 8 * done + 8 * k ≡ place + 8 * (done + k) = omega arith in
      by_flag (is_outside rule.blocks (word_of group k)) (is_near rule.blocks rule.links (place + 8 * done + 8 * k)) (word_of group k) (bit_at bits k) (are.each k h)
      ∙ ap (λ (p : ℕ). kept_of rule.blocks rule.links p (word_of group k)) at
      ∙ ap (kept_of rule.blocks rule.links (place + 8 * (done + k))) (words k h)

  each : (k d : ℕ) → k < 64 → get_or (group_of bits group) k d ≡ get_or (take 64 (drop done run)) k d
  each k d h =
      get_or-map-range_with_len chosen 0 64 k k d h (omega arith) ∙ at_word k h ∙ sym (word rule place bytes (done + k) (omega (arith, within, h)))
      ∙ sym (get_or-take 64 (drop done run) k d h ∙ get_or-drop done run k d ∙ any_default run (done + k) d 0 (omega (arith, long, within, h)))

  pub group_part : group_of bits group ≡ take 64 (drop done run)
  group_part = same_lists (group_of bits group) (take 64 (drop done run)) (size ∙ sym other_size) (λ k d l. each k d (omega (arith, size, l)))
