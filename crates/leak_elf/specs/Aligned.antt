-- The words of a file are at multiples of 8.
use Rattle.std.proofs.Common.{◌≡◌, ℕ, ◌%◌, Bool, true, false, refl, List, None, IsSome, option_map, find, ◌==◌, if◌then◌else◌, ◌+◌, ◌-◌, eqb→eq, sym, true≢false}
use Rattle.std.specs.Bool.{passes}
use Rattle.std.specs.Int.{w64}
use Rattle.leak_elf.specs.Fields.{number_at}
use Rattle.leak_elf.specs.Segments.{segments_of}
use Rattle.leak_elf.specs.Words.{word_in, word_of, holds_word}

pub aligned_words : (file : List ℕ) (a : ℕ) → IsSome (word_of file a) → a % 8 ≡ 0
unfolding word_of word_in
aligned_words file a some = go (a % 8 == 0) refl some
  where
    go : (t : Bool) → (a % 8 == 0) ≡ t → IsSome (if t then option_map (λ s. number_at w64 file (s.offset + (a - s.vaddr))) (find (holds_word a) (segments_of file)) else None) → a % 8 ≡ 0
    go true e h = eqb→eq _ _ (passes _ e)
    go false e h = absurd (true≢false (sym h))
