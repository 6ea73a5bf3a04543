-- Worked slack: a memory of 4096 bytes of zeros at 0x10000, with some words set, and the slack of a block there.
use Rattle.std.specs.Prelude.{◌≡◌, ℕ, Bool, true, false, List, [], ◌∷◌, Option, Some, None}
use Rattle.std.specs.List.{list_all, range_with_len}
use Rattle.leak_blocks.specs.declared.small.Span.{Span}
use Rattle.leak_blocks.specs.Small.{is_covered}
use Rattle.leak_chunks.specs.LinkRows.{block}
use Rattle.leak_chunks.specs.Rows.{word_there}
use Rattle.leak_chunks.specs.Slack.{slack_by, slack_of, slack_spans_of}

abbrev pub span : ℕ → ℕ → Span
span first last = record { first = first; last = last }

-- the slack of a block at 0x10100 and of that size
abbrev pub slack : List (ℕ × ℕ) → ℕ → Option Span
slack set size = slack_of (word_there set) (block 0x10100 size)

-- a chunk of 32 bytes there; the next chunk says that it is in use
abbrev pub chunk_of_32 : List (ℕ × ℕ)
chunk_of_32 = (0x100f8, 0x21) ∷ (0x10118, 0x1) ∷ []

pub record AreWorkedSlack : Type 0 where
  pub four_bytes : slack chunk_of_32 0x14 ≡ Some (span 0x10114 0x10117)
  pub two_words : slack chunk_of_32 8 ≡ Some (span 0x10108 0x10117)
  pub all_asked_for : slack chunk_of_32 24 ≡ None
  pub empty : slack chunk_of_32 0 ≡ Some (span 0x10100 0x10117)
  pub thirty_two_more : slack ((0x100f8, 0x41) ∷ (0x10138, 0x1) ∷ []) 8 ≡ Some (span 0x10108 0x10137)
  pub mapping : slack ((0x100f8, 0x1002) ∷ []) 0x20 ≡ Some (span 0x10120 0x110ef)
  pub least_mapping : slack ((0x100f8, 0x32) ∷ []) 0x20 ≡ None
  pub other_arena : slack ((0x100f8, 0x25) ∷ (0x10118, 0x1) ∷ []) 8 ≡ Some (span 0x10108 0x10117)
  pub given_back : slack ((0x100f8, 0x21) ∷ (0x10118, 0x20) ∷ []) 8 ≡ None
  pub larger_chunk : slack ((0x100f8, 0x61) ∷ (0x10158, 0x1) ∷ []) 8 ≡ None
  pub zeros : slack [] 8 ≡ None
  pub no_size_word : slack_of (word_there ((0x10018, 0x1) ∷ [])) (block 0x10000 8) ≡ None
  pub not_of_16 : slack_of (word_there ((0x10100, 0x21) ∷ (0x10120, 0x1) ∷ [])) (block 0x10108 8) ≡ None
  pub last_chunk : slack_by (block 0xffffffffffffffd0 0x10) 0x21 ≡ Some (span 0xffffffffffffffe0 0xffffffffffffffe7)
  pub beyond_the_last_address : slack_by (block 0xffffffffffffffe0 0x10) 0x21 ≡ None

-- whether each of the 8 bytes from the address on is in the slack of a block at 0x10100 and of that size
abbrev pub is_left_out : ℕ → ℕ → Bool
is_left_out size a = list_all (is_covered (slack_spans_of (word_there chunk_of_32) (block 0x10100 size ∷ []))) (range_with_len a 8)

pub record AreWorkedSlackWords : Type 0 where
  pub block_word : is_left_out 8 0x10100 ≡ false
  pub first_word : is_left_out 8 0x10108 ≡ true
  pub last_word : is_left_out 8 0x10110 ≡ true
  pub size_word_of_the_next : is_left_out 8 0x10118 ≡ false
  pub size_word_before : is_left_out 8 0x100f8 ≡ false
  pub half_asked_for : is_left_out 0x14 0x10110 ≡ false
  pub one_byte_asked_for : is_left_out 9 0x10108 ≡ false
  pub behind_it : is_left_out 9 0x10110 ≡ true
