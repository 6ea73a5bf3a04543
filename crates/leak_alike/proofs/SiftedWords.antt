-- A word lies in one segment, whose place in the file tells the sieve the word's address.
use Rattle.std.proofs.Common.{◌≡◌, ℕ, zero, suc, ◌+◌, ◌-◌, ◌*◌, ◌/◌, ◌%◌, ◌^◌, ◌<◌, ◌≤◌, Bool, true, false, not, ◌&&◌, ◌==◌, cond, List, [], ◌∷◌, ◌++◌, length, replicate, get_or, slice_index_or, find, Option, Some, None, option_map, inr, refl, sym, ap, subst, ◌∙◌, eqb-true, length-append, nat_le, nat_lt, arith}
use Rattle.std.specs.Prelude.{if◌then◌else◌}
use Rattle.std.specs.Int.{w64}
use Rattle.std.specs.Option.{option_map_or}
use Rattle.std.proofs.lemmas.Bool.{and_from, and_parts, false_from_ne_true, le-leb, leb-true, lt-ltb, ltb-true}
use Rattle.std.proofs.lemmas.List.Folds.{list_any_at}
use Rattle.std.proofs.lemmas.Option.{none-some, same_Some}
use Rattle.leak_lemmas.proofs.Lists.{any_default}
use Rattle.leak_elf.specs.Fields.{number_at}
use Rattle.leak_elf.specs.Refusals.{fault_of}
use Rattle.leak_elf.specs.Segments.{segments_of}
use Rattle.leak_elf.specs.Words.{holds_word, word_in, word_of}
use Rattle.leak_elf.specs.declared.segment.Segment.{Segment}
use Rattle.leak_elf.proofs.Heads.{number_behind, same_segments}
use Rattle.leak_index.proofs.Near.{either}
use Rattle.leak_sift.specs.Behind.{bytes_behind}
use Rattle.leak_sift.specs.Kept.{Rule, is_near, is_outside, kept_of}
use Rattle.leak_sift.specs.Places.{AreOrderly, filesz_at, has_offset, none, offset_at, place_of}
use Rattle.leak_sift.specs.Sifted.{kept_at, sifted}
use Rattle.leak_sift.proofs.WordLemmas.{get-by_words, length-by_words}
use Rattle.leak_roots.proofs.BySegment.{are_segments}
use Rattle.leak_alike.specs.SiftedCores.{CanBeSifted, sifted_core}
use Rattle.leak_alike.proofs.WordBytes.{behind_long, small_word, word_at}

-- ---- the segment that is found

-- the list has it at the number, and it passes the test
pub record IsFound (p : Segment → Bool) (xs : List Segment) (s : Segment) : Type 0 where
  pub number : ℕ
  pub inside : number < length xs
  pub is : slice_index_or xs number s ≡ s
  pub passes : p s ≡ true

pub is_found : (p : Segment → Bool) (xs : List Segment) (s : Segment) → find p xs ≡ Some s → IsFound p xs s
is_found p [] s e = absurd (none-some s e)
is_found p (x ∷ xs) s e = go (p x) refl e (is_found p xs s)
  where
    go : (t : Bool) → p x ≡ t → cond t (Some x) (find p xs) ≡ Some s → (find p xs ≡ Some s → IsFound p xs s) → IsFound p (x ∷ xs) s
    go true passes here later =
        let same : x ≡ s = same_Some x s here in record { number = 0; inside = omega arith; is = same; passes = ap p (sym same) ∙ passes }
    go false passes here later =
        let one = later here in record { number = suc one.number; inside = omega (arith, one.inside); is = one.is; passes = one.passes }

find_one : (p : Segment → Bool) (xs : List Segment) (i : ℕ) → i < length xs → p (slice_index_or xs i none) ≡ true
    → ((k : ℕ) → k < i → p (slice_index_or xs k none) ≡ false) → find p xs ≡ Some (slice_index_or xs i none)
find_one p [] i inside here before = absurd (omega arith)
find_one p (x ∷ xs) zero inside here before = rw here refl
find_one p (x ∷ xs) (suc i) inside here before = rw (before 0 (omega arith)) (find_one p xs i (omega arith) here (λ k h. before (suc k) (omega arith)))

-- ---- the address of a byte

not_in : (offset : ℕ) (s : Segment) → (s.offset ≤ offset → offset < s.offset + s.filesz → ⊥) → has_offset offset s ≡ false
not_in offset s h = false_from_ne_true (has_offset offset s) (λ e.
    let parts = and_parts (nat_le s.offset offset) (nat_lt offset (s.offset + s.filesz)) e in
    h (leb-true s.offset offset parts.0) (ltb-true offset (s.offset + s.filesz) parts.1))

place_at : (segments : List Segment) (offset k : ℕ) → AreOrderly segments → k < length segments
    → (slice_index_or segments k none).offset ≤ offset → offset < (slice_index_or segments k none).offset + (slice_index_or segments k none).filesz
    → place_of segments offset ≡ Some ((slice_index_or segments k none).vaddr + (offset - (slice_index_or segments k none).offset))
unfolding place_of
place_at segments offset k orderly inside low high =
    ap (option_map (λ (s : Segment). s.vaddr + (offset - s.offset)))
    (find_one (has_offset offset) segments k inside
    (and_from (nat_le (offset_at segments k) offset) (nat_lt offset (offset_at segments k + filesz_at segments k)) (le-leb (offset_at segments k) offset low) (lt-ltb offset (offset_at segments k + filesz_at segments k) high))
    (λ j h. not_in offset (slice_index_or segments j none) (λ above below. let apart = orderly.apart j k h inside (omega arith) (omega arith) in omega arith)))

place_found : (segments : List Segment) (offset k : ℕ) (s : Segment) → AreOrderly segments → k < length segments → slice_index_or segments k none ≡ s
    → s.offset ≤ offset → offset < s.offset + s.filesz → place_of segments offset ≡ Some (s.vaddr + (offset - s.offset))
place_found segments offset k s orderly inside is =
    subst (λ (t : Segment). t.offset ≤ offset → offset < t.offset + t.filesz → place_of segments offset ≡ Some (t.vaddr + (offset - t.offset))) is (place_at segments offset k orderly inside)

-- ---- words of the core, and of the sifted one

pub kept_small : (rule : Rule) (place word : ℕ) → word < 2 ^ 64 → kept_of rule.blocks rule.links place word < 2 ^ 64
kept_small rule place word small = go (is_outside rule.blocks word && not (is_near rule.blocks rule.links place))
  where
    go : (t : Bool) → (if t then 0 else word) < 2 ^ 64
    go true = omega arith
    go false = small

module _ (rule : Rule) (held rest : List ℕ) where
  abbrev pub words : List ℕ
  words = sifted rule (segments_of held) (length held) rest

  abbrev pub behind : List ℕ
  behind = bytes_behind words (length rest)

  abbrev pub kept : ℕ → ℕ → ℕ
  kept distance word = kept_at rule (segments_of held) (length held + distance) word

  pub count : length words ≡ length rest / 8
  count = length-by_words kept rest

  pub sifted_long : length rest ≡ length behind
  sifted_long = sym (behind_long words (length rest) (omega (arith, count)))

  module _ (can : CanBeSifted held rest) (accepted : fault_of (held ++ rest) ≡ None) where
    -- the word at the offset in the file that lies at the address
    behind_head : (k a : ℕ) → 8 * k + 8 ≤ length rest → place_of (segments_of held) (length held + 8 * k) ≡ Some a
        → number_at w64 behind (8 * k) ≡ kept_of rule.blocks rule.links a (number_at w64 rest (8 * k))
    behind_head k a fits place =
        let word = number_at w64 rest (8 * k) in
        let one : get_or words k 0 ≡ kept_of rule.blocks rule.links a word =
        get-by_words kept rest k 0 (omega arith) ∙ ap (λ (o : Option ℕ). option_map_or (λ (p : ℕ). kept_of rule.blocks rule.links p word) o 0) place in
        let small : get_or words k 0 < 2 ^ 64 = subst (λ (n : ℕ). n < 2 ^ 64) (sym one) (kept_small rule a word (small_word rest (8 * k) can.bytes)) in
        word_at words (replicate (length rest - 8 * length words) 0) k (omega (arith, count)) small ∙ one

    module _ (a : ℕ) (s : Segment) (one : IsFound (holds_word a) (segments_of held) s) where
      pub bounds : (s.vaddr ≤ a) × (a + 8 ≤ s.vaddr + s.filesz)
      bounds =
          let parts = and_parts (nat_le s.vaddr a) (nat_le (a + 8) (s.vaddr + s.filesz)) one.passes in
          (leb-true s.vaddr a parts.0, leb-true (a + 8) (s.vaddr + s.filesz) parts.1)

      some : 0 < s.filesz
      some = let b = bounds in omega (arith, b.0, b.1)

      -- its dumped bytes are in the file, behind the head, and at multiples of 8 if their addresses are
      pub in_file : s.offset + s.filesz ≤ length held + length rest
      in_file =
          let here = are_segments (held ++ rest) accepted in
          let lies : (k : ℕ) (d : Segment) → k < length (segments_of held) → 0 < (slice_index_or (segments_of held) k d).filesz → (slice_index_or (segments_of held) k d).offset + (slice_index_or (segments_of held) k d).filesz ≤ length (held ++ rest) =
          subst (λ (segments : List Segment). (k : ℕ) (d : Segment) → k < length segments → 0 < (slice_index_or segments k d).filesz → (slice_index_or segments k d).offset + (slice_index_or segments k d).filesz ≤ length (held ++ rest))
          (same_segments held rest (inr can.head)) here.dumped in
          let fits = subst (λ (t : Segment). 0 < t.filesz → t.offset + t.filesz ≤ length (held ++ rest)) one.is (lies one.number s one.inside) some in
          omega (arith, fits, length-append held rest)

      pub aligned : s.offset % 8 ≡ s.vaddr % 8
      aligned = subst (λ (t : Segment). 0 < t.filesz → t.offset % 8 ≡ t.vaddr % 8) one.is (can.head.words one.number s one.inside) some

      pub past : length held ≤ s.offset
      past = either s.offset (length held) (length held ≤ s.offset)
          (λ before.
          let test : Segment → Bool = λ t. nat_lt 0 t.filesz && nat_lt t.offset (length held) in
          let dumped : test s ≡ true = and_from (nat_lt 0 s.filesz) (nat_lt s.offset (length held)) (lt-ltb 0 s.filesz some) (lt-ltb s.offset (length held) before) in
          let any = list_any_at test (segments_of held) one.number s one.inside (ap test one.is ∙ dumped) in
          absurd (let no : false ≡ true = sym can.undumped ∙ any in cc))
          (λ h. h)

      in_segment : a % 8 ≡ 0 → number_at w64 (held ++ behind) (s.offset + (a - s.vaddr)) ≡ kept_of rule.blocks rule.links a (number_at w64 (held ++ rest) (s.offset + (a - s.vaddr)))
      in_segment multiple =
          let b = bounds in
          let low : s.vaddr ≤ a = b.0 in
          let high : a + 8 ≤ s.vaddr + s.filesz = b.1 in
          let offset = s.offset + (a - s.vaddr) in
          let after : length held ≤ offset = omega (arith, past, low) in
          let k = (offset - length held) / 8 in
          let groups : offset - length held ≡ 8 * k = omega (arith, can.head.multiple, aligned, multiple, low, after) in
          let there : length held + 8 * k ≡ offset = omega (arith, groups, after) in
          let is : slice_index_or (segments_of held) one.number none ≡ s = any_default (segments_of held) one.number none s one.inside ∙ one.is in
          let found = place_found (segments_of held) offset one.number s can.orderly one.inside is (omega arith) (omega (arith, low, high)) in
          let address : s.vaddr + (offset - s.offset) ≡ a = omega (arith, low) in
          let place : place_of (segments_of held) (length held + 8 * k) ≡ Some a = ap (place_of (segments_of held)) there ∙ found ∙ ap (λ (n : ℕ). Some n) address in
          let fits : 8 * k + 8 ≤ length rest = omega (arith, groups, in_file, low, high, after) in
          let core : number_at w64 (held ++ rest) offset ≡ number_at w64 rest (8 * k) = number_behind held rest offset after ∙ ap (number_at w64 rest) groups in
          let other : number_at w64 (held ++ behind) offset ≡ number_at w64 behind (8 * k) = number_behind held behind offset after ∙ ap (number_at w64 behind) groups in
          other ∙ behind_head k a fits place ∙ ap (kept_of rule.blocks rule.links a) (sym core)

    in_segments : (a : ℕ) → word_in (held ++ behind) (segments_of held) a ≡ option_map (λ word. kept_of rule.blocks rule.links a word) (word_in (held ++ rest) (segments_of held) a)
    unfolding word_in
    in_segments a = go (a % 8 == 0) (eqb-true (a % 8) 0) (find (holds_word a) (segments_of held)) (is_found (holds_word a) (segments_of held))
      where
        at : List ℕ → Segment → ℕ
        at file s = number_at w64 file (s.offset + (a - s.vaddr))

        go : (t : Bool) → (t ≡ true → a % 8 ≡ 0) → (o : Option Segment) → ((s : Segment) → o ≡ Some s → IsFound (holds_word a) (segments_of held) s)
            → (if t then option_map (at (held ++ behind)) o else None)
            ≡ option_map (λ word. kept_of rule.blocks rule.links a word) (if t then option_map (at (held ++ rest)) o else None)
        go false multiple o found = refl
        go true multiple None found = refl
        go true multiple (Some s) found = ap (λ (n : ℕ). Some n) (in_segment a s (found s refl) (multiple refl))

pub sifted_words_kept : (rule : Rule) (held rest : List ℕ) (a : ℕ) → CanBeSifted held rest → fault_of (held ++ rest) ≡ None
    → word_of (sifted_core rule held rest) a ≡ option_map (λ word. kept_of rule.blocks rule.links a word) (word_of (held ++ rest) a)
unfolding word_of
sifted_words_kept rule held rest a can accepted =
    ap (λ (segments : List Segment). word_in (sifted_core rule held rest) segments a) (same_segments held (behind rule held rest) (inr can.head))
    ∙ in_segments rule held rest can accepted a
    ∙ ap (λ (segments : List Segment). option_map (λ word. kept_of rule.blocks rule.links a word) (word_in (held ++ rest) segments a)) (sym (same_segments held rest (inr can.head)))
