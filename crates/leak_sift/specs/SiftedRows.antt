-- Worked words of a file with two segments: three words at offset 0x1000, which are at 0x10000 in memory, and two at
-- 0x1028, which are at 0x20000. The one live block has 24 bytes at 0x10010, and links are not left out.
use Rattle.std.specs.Prelude.{◌≡◌, ℕ, true, false, List, [], ◌∷◌, ◌++◌, flat_map, Some, None}
use Rattle.std.specs.Int.{w64, to_le_bytes}
use Rattle.leak_elf.specs.declared.segment.Segment.{Segment}
use Rattle.leak_sift.specs.Kept.{Rule}
use Rattle.leak_sift.specs.KeptRows.{block}
use Rattle.leak_sift.specs.Places.{AreOrderly, place_of}
use Rattle.leak_sift.specs.Sifted.{HasTaken, Sifted, sifted}

abbrev pub segment : ℕ → ℕ → ℕ → Segment
segment vaddr offset filesz = record { vaddr = vaddr; memsz = 0x1000; offset = offset; filesz = filesz; writable = true }

abbrev pub two_segments : List Segment
two_segments = segment 0x10000 0x1000 0x18 ∷ segment 0x20000 0x1028 0x10 ∷ []

abbrev pub one_block : Rule
one_block = record { blocks = block 0x10010 24 ∷ []; links = false }

-- the bytes of words, 8 each
abbrev pub bytes_of : List ℕ → List ℕ
bytes_of words = flat_map (to_le_bytes w64) words

-- what is kept of words from the offset on
abbrev pub kept_from : ℕ → List ℕ → List ℕ
kept_from head words = sifted one_block two_segments head (bytes_of words)

pub record AreWorkedOffsets : Type 0 where
  pub before : place_of two_segments 0xfff ≡ None
  pub first : place_of two_segments 0x1000 ≡ Some 0x10000
  pub last : place_of two_segments 0x1017 ≡ Some 0x10017
  pub between : place_of two_segments 0x1018 ≡ None
  pub second : place_of two_segments 0x1028 ≡ Some 0x20000
  pub past : place_of two_segments 0x1038 ≡ None

pub record AreWorkedSiftings : Type 0 where
  pub none : kept_from 0x1000 [] ≡ []
  pub pointer : kept_from 0x1000 (0x10018 ∷ []) ≡ 0x10018 ∷ []
  pub elsewhere : kept_from 0x1000 (0x10029 ∷ []) ≡ 0 ∷ []
  pub size : kept_from 0x1008 (0x21 ∷ []) ≡ 0x21 ∷ []
  pub across : kept_from 0xff8 (0x10010 ∷ 0x10018 ∷ 0x21 ∷ 0x21 ∷ 0x10018 ∷ 0x10018 ∷ 0x10020 ∷ 0x10 ∷ 0x10010 ∷ [])
      ≡ 0 ∷ 0x10018 ∷ 0x21 ∷ 0 ∷ 0 ∷ 0 ∷ 0x10020 ∷ 0 ∷ 0 ∷ []
  pub seven_bytes : sifted one_block two_segments 0x1000 (0x18 ∷ 0 ∷ 1 ∷ 0 ∷ 0 ∷ 0 ∷ 0 ∷ []) ≡ []
  pub seven_more : sifted one_block two_segments 0x1000 (bytes_of (0x10018 ∷ []) ++ 0x18 ∷ 0 ∷ 1 ∷ 0 ∷ 0 ∷ 0 ∷ 0 ∷ []) ≡ 0x10018 ∷ []

-- after the bytes of a word and one more
abbrev pub after_nine : List ℕ → List ℕ → Sifted
after_nine words waiting = record { rule = one_block; segments = two_segments; head = 0x1000; words = words; waiting = waiting }

pub record AreWorkedStates : Type 0 where
  pub nine : HasTaken (after_nine (0x10018 ∷ []) (0x18 ∷ [])) (bytes_of (0x10018 ∷ []) ++ 0x18 ∷ [])
  pub none_waits : HasTaken (after_nine (0x10018 ∷ []) []) (bytes_of (0x10018 ∷ []) ++ 0x18 ∷ []) → ⊥
  pub word_is_missing : HasTaken (after_nine [] (0x18 ∷ [])) (bytes_of (0x10018 ∷ []) ++ 0x18 ∷ []) → ⊥

-- two orderly segments, two that lie in the file in another order, two of which the one has a byte of the other's, and one of
-- which nothing is dumped
pub record AreWorkedOrders : Type 0 where
  pub two : AreOrderly two_segments
  pub exchanged : AreOrderly (segment 0x10000 0x1028 0x18 ∷ segment 0x20000 0x1000 0x10 ∷ []) → ⊥
  pub shared : AreOrderly (segment 0x10000 0x1000 0x18 ∷ segment 0x20000 0x1017 0x10 ∷ []) → ⊥
  pub touching : AreOrderly (segment 0x10000 0x1000 0x18 ∷ segment 0x20000 0x1018 0x10 ∷ [])
  pub empty : AreOrderly (segment 0x10000 0x1000 0x18 ∷ segment 0x20000 0 0 ∷ segment 0x30000 0x1018 0x10 ∷ [])
