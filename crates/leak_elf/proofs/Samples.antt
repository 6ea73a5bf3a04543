-- The sample core and its words.
use Rattle.std.proofs.Common.{◌≡◌, ℕ, ◌+◌, ◌-◌, ◌<◌, List, [], ◌∷◌, ◌++◌, length, get_or, take, refl, ap, ◌∙◌}
use Rattle.std.specs.Int.{w64, to_le_bytes}
use Rattle.std.proofs.lemmas.List.{take_more}
use Rattle.leak_elf.specs.Sample.{zeros, patched, file_header, program_header, note_entry, front, sample, with_words}

pub sample_size : length sample ≡ 8192
unfolding zeros file_header program_header note_entry front sample
sample_size = refl

with_words-append : (file : List ℕ) (xs ys : List (ℕ × ℕ)) → with_words file (xs ++ ys) ≡ with_words (with_words file xs) ys
with_words-append file [] ys = refl
with_words-append file (x ∷ xs) ys = with_words-append (patched file (x.0 - 0xf000) (to_le_bytes w64 x.1)) xs ys

-- one more word
pub with_words_more : (file : List ℕ) (ws : List (ℕ × ℕ)) (i : ℕ) (d : ℕ × ℕ) → i < length ws → with_words file (take (i + 1) ws) ≡ patched (with_words file (take i ws)) ((get_or ws i d).0 - 0xf000) (to_le_bytes w64 (get_or ws i d).1)
with_words_more file ws i d l = ap (with_words file) (take_more ws i d l) ∙ with_words-append file (take i ws) (get_or ws i d ∷ [])
