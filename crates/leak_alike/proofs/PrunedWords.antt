-- The words of a sifted core of which some are let go lie where they lay.
use Rattle.std.proofs.Common.{◌≡◌, ℕ, ◌+◌, ◌-◌, ◌*◌, ◌/◌, ◌%◌, ◌^◌, ◌<◌, ◌≤◌, Bool, true, false, ◌==◌, List, ◌++◌, length, map, replicate, get_or, find, Option, Some, None, option_map, inr, refl, sym, ap, subst, ◌∙◌, eqb-true, arith}
use Rattle.std.specs.Prelude.{if◌then◌else◌}
use Rattle.std.specs.Int.{w64}
use Rattle.std.specs.Option.{option_map_or}
use Rattle.std.proofs.lemmas.List.{get_or-map, length-map}
use Rattle.leak_elf.specs.Fields.{number_at}
use Rattle.leak_elf.specs.Refusals.{fault_of}
use Rattle.leak_elf.specs.Segments.{segments_of}
use Rattle.leak_elf.specs.Words.{holds_word, word_in, word_of}
use Rattle.leak_elf.specs.declared.segment.Segment.{Segment}
use Rattle.leak_elf.proofs.Heads.{number_behind, same_segments}
use Rattle.leak_sift.specs.Behind.{bytes_behind}
use Rattle.leak_sift.specs.Kept.{Rule, kept_of}
use Rattle.leak_sift.specs.Places.{place_of}
use Rattle.leak_sift.proofs.WordLemmas.{get-by_words}
use Rattle.leak_alike.specs.AlikeToMark.{pruned_core}
use Rattle.leak_alike.specs.SiftedCores.{CanBeSifted, sifted_core}
use Rattle.leak_alike.proofs.SiftedWords.{IsFound, aligned, behind, bounds, count, in_file, is_found, kept, kept_small, past, words}
use Rattle.leak_alike.proofs.WordBytes.{behind_long, small_word, word_at}

-- what is kept of a word that may lie in no segment
small_or_none : (rule : Rule) (word : ℕ) → word < 2 ^ 64 → (o : Option ℕ) → option_map_or (λ (p : ℕ). kept_of rule.blocks rule.links p word) o 0 < 2 ^ 64
small_or_none rule word small None = omega arith
small_or_none rule word small (Some p) = kept_small rule p word small

module _ (keep : ℕ → ℕ) (low : (word : ℕ) → keep word ≤ word) (rule : Rule) (held rest : List ℕ) where
  abbrev pub pruned : List ℕ
  pruned = bytes_behind (map keep (words rule held rest)) (length rest)

  long : length (map keep (words rule held rest)) ≡ length rest / 8
  long = length-map (words rule held rest) keep ∙ count rule held rest

  pub pruned_long : length (behind rule held rest) ≡ length pruned
  pruned_long =
      behind_long (words rule held rest) (length rest) (omega (arith, count rule held rest))
      ∙ sym (behind_long (map keep (words rule held rest)) (length rest) (omega (arith, long)))

  module _ (can : CanBeSifted held rest) (accepted : fault_of (held ++ rest) ≡ None) where
    small : (k : ℕ) → 8 * k + 8 ≤ length rest → get_or (words rule held rest) k 0 < 2 ^ 64
    small k fits =
        let one = get-by_words (kept rule held rest) rest k 0 (omega arith) in
        subst (λ (n : ℕ). n < 2 ^ 64) (sym one)
        (small_or_none rule (number_at w64 rest (8 * k)) (small_word rest (8 * k) can.bytes) (place_of (segments_of held) (length held + 8 * k)))

    word_kept : (k : ℕ) → 8 * k + 8 ≤ length rest → number_at w64 pruned (8 * k) ≡ keep (number_at w64 (behind rule held rest) (8 * k))
    word_kept k fits =
        let ws = words rule held rest in
        let inside : k < length ws = omega (arith, count rule held rest, fits) in
        let left : get_or (map keep ws) k 0 ≡ keep (get_or ws k 0) = get_or-map keep ws k 0 0 inside in
        let was : get_or ws k 0 < 2 ^ 64 = small k fits in
        let less = low (get_or ws k 0) in
        let is : get_or (map keep ws) k 0 < 2 ^ 64 = subst (λ (n : ℕ). n < 2 ^ 64) (sym left) (omega (arith, less, was)) in
        let within : k < length (map keep ws) = omega (arith, long, fits) in
        word_at (map keep ws) (replicate (length rest - 8 * length (map keep ws)) 0) k within is
        ∙ left ∙ ap keep (sym (word_at ws (replicate (length rest - 8 * length ws) 0) k inside was))

    module _ (a : ℕ) (s : Segment) (one : IsFound (holds_word a) (segments_of held) s) where
      in_segment : a % 8 ≡ 0 → number_at w64 (held ++ pruned) (s.offset + (a - s.vaddr)) ≡ keep (number_at w64 (held ++ behind rule held rest) (s.offset + (a - s.vaddr)))
      in_segment multiple =
          let b = bounds rule held rest can accepted a s one in
          let above : s.vaddr ≤ a = b.0 in
          let below : a + 8 ≤ s.vaddr + s.filesz = b.1 in
          let begins = past rule held rest can accepted a s one in
          let offset = s.offset + (a - s.vaddr) in
          let after : length held ≤ offset = omega (arith, begins, above) in
          let k = (offset - length held) / 8 in
          let groups : offset - length held ≡ 8 * k = omega (arith, can.head.multiple, aligned rule held rest can accepted a s one, multiple, above, after) in
          let fits : 8 * k + 8 ≤ length rest = omega (arith, groups, in_file rule held rest can accepted a s one, above, below, after) in
          number_behind held pruned offset after ∙ ap (number_at w64 pruned) groups ∙ word_kept k fits
          ∙ ap keep (sym (number_behind held (behind rule held rest) offset after ∙ ap (number_at w64 (behind rule held rest)) groups))

    in_segments : (a : ℕ) → word_in (held ++ pruned) (segments_of held) a ≡ option_map keep (word_in (held ++ behind rule held rest) (segments_of held) a)
    unfolding word_in
    in_segments a = go (a % 8 == 0) (eqb-true (a % 8) 0) (find (holds_word a) (segments_of held)) (is_found (holds_word a) (segments_of held))
      where
        at : List ℕ → Segment → ℕ
        at file s = number_at w64 file (s.offset + (a - s.vaddr))

        go : (t : Bool) → (t ≡ true → a % 8 ≡ 0) → (o : Option Segment) → ((s : Segment) → o ≡ Some s → IsFound (holds_word a) (segments_of held) s)
            → (if t then option_map (at (held ++ pruned)) o else None)
            ≡ option_map keep (if t then option_map (at (held ++ behind rule held rest)) o else None)
        go false multiple o found = refl
        go true multiple None found = refl
        go true multiple (Some s) found = ap (λ (n : ℕ). Some n) (in_segment a s (found s refl) (multiple refl))

pub pruned_words : (keep : ℕ → ℕ) → ((word : ℕ) → keep word ≤ word) → (rule : Rule) (held rest : List ℕ) (a : ℕ) → CanBeSifted held rest → fault_of (held ++ rest) ≡ None
    → word_of (pruned_core keep held (words rule held rest) (length rest)) a ≡ option_map keep (word_of (sifted_core rule held rest) a)
unfolding word_of
pruned_words keep low rule held rest a can accepted =
    ap (λ (segments : List Segment). word_in (pruned_core keep held (words rule held rest) (length rest)) segments a) (same_segments held (pruned keep low rule held rest) (inr can.head))
    ∙ in_segments keep low rule held rest can accepted a
    ∙ ap (λ (segments : List Segment). option_map keep (word_in (sifted_core rule held rest) segments a)) (sym (same_segments held (behind rule held rest) (inr can.head)))
