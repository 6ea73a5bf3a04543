-- Worked chunks: a memory of 4096 bytes of zeros at 0x10000, with some words set, and whether a block fits it.
use Rattle.std.specs.Prelude.{◌≡◌, ℕ, ◌%◌, Bool, true, false, ◌&&◌, List, [], ◌∷◌, find, ◌==◌, nat_le, nat_lt, if◌then◌else◌, Option, Some, None}
use Rattle.std.specs.Option.{option_map_or}
use Rattle.leak_chunks.specs.Fit.{fits_core}

abbrev pub word_there : List (ℕ × ℕ) → ℕ → Option ℕ
word_there set a =
    if (a % 8 == 0) && nat_le 0x10000 a && nat_lt a 0x11000 then Some (option_map_or (λ s. s.1) (find (λ s. s.0 == a) set) 0)
    else None

abbrev pub fits : List (ℕ × ℕ) → ℕ → ℕ → Bool
fits set start size = fits_core (word_there set) (record { start = start; size = size; line = 1; caller = (0, 0) })

-- the block that most rows are of: its least chunk has 0x30 bytes
abbrev pub fits_32 : List (ℕ × ℕ) → Bool
fits_32 set = fits set 0x10100 0x20

pub record AreWorkedChunks : Type 0 where
  pub least : fits_32 ((0x100f8, 0x31) ∷ (0x10128, 0x21) ∷ []) ≡ true
  pub sixteen_more : fits_32 ((0x100f8, 0x41) ∷ (0x10138, 0x1) ∷ []) ≡ true
  pub thirty_two_more : fits_32 ((0x100f8, 0x51) ∷ (0x10148, 0x1) ∷ []) ≡ true
  pub forty_eight_more : fits_32 ((0x100f8, 0x61) ∷ (0x10158, 0x1) ∷ []) ≡ false
  pub smaller : fits_32 ((0x100f8, 0x21) ∷ (0x10118, 0x1) ∷ []) ≡ false
  pub given_back : fits_32 ((0x100f8, 0x31) ∷ (0x10128, 0x20) ∷ []) ≡ false
  pub other_arena : fits_32 ((0x100f8, 0x35) ∷ (0x10128, 0x1) ∷ []) ≡ true
  pub mapped : fits_32 ((0x100f8, 0x1002) ∷ []) ≡ true
  pub least_mapping : fits_32 ((0x100f8, 0x32) ∷ []) ≡ true
  pub small_mapping : fits_32 ((0x100f8, 0x22) ∷ []) ≡ false
  pub largest_mapping : fits_32 ((0x100f8, 0x1032) ∷ []) ≡ true
  pub large_mapping : fits_32 ((0x100f8, 0x1042) ∷ []) ≡ false
  pub zeros : fits_32 [] ≡ false
  pub no_size_word : fits ((0x10018, 0x1) ∷ []) 0x10000 8 ≡ false
  pub not_of_16 : fits ((0x10100, 0x21) ∷ (0x10120, 0x1) ∷ []) 0x10108 8 ≡ false
  pub no_next_word : fits ((0x10fe8, 0x21) ∷ []) 0x10ff0 8 ≡ false
  pub empty : fits ((0x100f8, 0x21) ∷ (0x10118, 0x1) ∷ []) 0x10100 0 ≡ true
  pub empty_of_16 : fits ((0x100f8, 0x11) ∷ (0x10108, 0x1) ∷ []) 0x10100 0 ≡ false
  pub whole_chunk : fits ((0x100f8, 0x21) ∷ (0x10118, 0x1) ∷ []) 0x10100 24 ≡ true
  pub one_byte_more : fits ((0x100f8, 0x21) ∷ (0x10118, 0x1) ∷ []) 0x10100 25 ≡ false
