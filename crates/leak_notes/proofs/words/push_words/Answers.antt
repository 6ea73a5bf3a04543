-- From lemmas of std.
use Rattle.std.proofs.Common.{◌≡◌, ℕ, ◌+◌, ◌*◌, ◌∙◌, ◌++◌, List, [], ◌∷◌, sym, ap, append_assoc, arith}
use Rattle.std.specs.Int.{w64}
use Rattle.std.proofs.lemmas.List.FromFn.{map-range_with_len_more}
use Rattle.leak_elf.specs.Fields.{number_at}
use Rattle.leak_notes.specs.Entry.{words_from}
use Rattle.leak_notes.proofs.words.push_words.Goals as goal

one_more : (words bytes : List ℕ) (at i : ℕ) → (words ++ words_from bytes at i) ++ number_at w64 bytes (at + 8 * i) ∷ [] ≡ words ++ words_from bytes at (i + 1)
one_more words bytes at i =
    append_assoc words (words_from bytes at i) (number_at w64 bytes (at + 8 * i) ∷ [])
    ∙ ap (λ (more : List ℕ). words ++ more) (sym (map-range_with_len_more (λ (i : ℕ). number_at w64 bytes (at + 8 * i)) 0 i i (omega arith)))

pub loop-i-preserved : goal.loop-i-preserved
loop-i-preserved c = c.in_ok-push.ensures.items ∙ (rw (c.loop-i.invariant, c.u64_at.ensures) (one_more _ _ _ _))
