-- A worked core, by its head and two words behind it, with one live block of 24 bytes at 0x10010: it can be sifted, and
-- what is kept of its words.
use Rattle.std.specs.Prelude.{◌≡◌, ℕ, false, List, [], ◌∷◌, ◌++◌, length, None}
use Rattle.std.specs.Int.{w64, to_le_bytes}
use Rattle.leak_elf.specs.Refusals.{fault_of}
use Rattle.leak_elf.specs.Sample.{front, patched}
use Rattle.leak_elf.specs.Segments.{segments_of}
use Rattle.leak_sift.specs.Kept.{Rule}
use Rattle.leak_sift.specs.Sifted.{sifted}
use Rattle.leak_alike.specs.AlikeRows.{block}
use Rattle.leak_alike.specs.SiftedCores.{CanBeSifted}

-- the 4096 bytes of the sample core before its segment, of which 16 bytes are dumped
unfoldable pub head : List ℕ
head = patched front 152 (to_le_bytes w64 16)

-- the word at 0x10000, for which no rule asks, and the block's size word
abbrev pub two_words : ℕ → ℕ → List ℕ
two_words word size = to_le_bytes w64 word ++ to_le_bytes w64 size

abbrev pub rule : Rule
rule = record { blocks = block ∷ []; links = false }

-- what is kept of them
abbrev pub kept : ℕ → ℕ → List ℕ
kept word size = sifted rule (segments_of head) (length head) (two_words word size)

pub record AreWorkedSifted : Type 0 where
  pub can : CanBeSifted head (two_words 7 0x21)
  pub accepted : fault_of (head ++ two_words 7 0x21) ≡ None
  pub word_in_head : CanBeSifted (head ++ two_words 7 0x21) [] → ⊥
  pub below : kept 0x1000f 0x21 ≡ 0 ∷ 0x21 ∷ []
  pub start : kept 0x10010 0x21 ≡ 0x10010 ∷ 0x21 ∷ []
  pub end : kept 0x10028 0x21 ≡ 0x10028 ∷ 0x21 ∷ []
  pub above : kept 0x10029 0x21 ≡ 0 ∷ 0x21 ∷ []
