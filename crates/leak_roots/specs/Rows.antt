-- Worked answers: how many root words the sample core has, with no block, with one of 32 bytes, with a vector entry, and
-- with a segment that can't be written, and which places are freed or dead.
use Rattle.std.specs.Prelude.{◌≡◌, ◌==◌, ℕ, Bool, true, false, List, [], ◌∷◌, ◌++◌, length, filter}
use Rattle.std.specs.Int.{w64, to_le_bytes}
use Rattle.leak_elf.specs.Sample.{sample, file_header, program_header, note_entry}
use Rattle.leak_notes.specs.Rows.{with_vectors}
use Rattle.leak_blocks.specs.declared.block.Block.{Block}
use Rattle.leak_blocks.specs.declared.small.Span.{Span}
use Rattle.leak_roots.specs.LeftOut.{LeftOut, nothing_left_out, usual_left_out}
use Rattle.leak_roots.specs.Roots.{root_words, dead_places, is_inside}

abbrev pub block : ℕ → ℕ → Block
block start size = record { start = start; size = size; line = 1; caller = (0, 0) }

abbrev pub span : ℕ → ℕ → Span
span first last = record { first = first; last = last }

-- a core as the sample, but with two words alone in its segment, of which the second is the address of a block, and with
-- these flags of the segment: 6 to read and write it, 4 to read it, 0 for neither (gABI, Program Header)
unfoldable pub with_flags : ℕ → List ℕ
with_flags flags =
    file_header 2 ++ program_header 4 0 176 0 356 0 4 ++ program_header 1 flags 532 0x10000 16 16 8
    ++ note_entry ++ to_le_bytes w64 0 ++ to_le_bytes w64 0x10100

-- how many root words it has, and how many of them are the address of the block
unfoldable pub counts : Bool → ℕ → ℕ × ℕ
counts unwritable flags =
    let left = record nothing_left_out { unwritable = unwritable } in
    let words = root_words left (with_flags flags) (block 0x10100 0x20 ∷ []) in
    (length words, length (filter (λ w. w == 0x10100) words))

-- the slack behind the block is left out too, and with it part of it as freed memory, or dead stack
abbrev pub with_slack : LeftOut
with_slack = record usual_left_out { slack = span 0x10120 0x1012f ∷ [] }

abbrev pub with_slack_and_freed : LeftOut
with_slack_and_freed = record with_slack { freed = span 0x10120 0x10127 ∷ [] }

abbrev pub with_slack_and_stack : LeftOut
with_slack_and_stack = record with_slack { dead = span 0x10000 0x107ff ∷ [] }

pub record AreAnswers : Type 0 where
  pub without_blocks : length (root_words usual_left_out sample []) ≡ 539
  pub with_a_block : length (root_words usual_left_out sample (block 0x10100 0x20 ∷ [])) ≡ 535
  pub with_a_block_and_slack : length (root_words with_slack sample (block 0x10100 0x20 ∷ [])) ≡ 533
  pub freed_and_in_slack : length (root_words with_slack_and_freed sample (block 0x10100 0x20 ∷ [])) ≡ 533
  pub with_dead_stack : length (root_words with_slack_and_stack sample (block 0x10100 0x20 ∷ [])) ≡ 283
  pub dead_outside_blocks_and_slack : length (dead_places with_slack_and_stack sample (block 0x10100 0x20 ∷ [])) ≡ 250
  pub with_vector_registers : length (root_words usual_left_out with_vectors []) ≡ 587
  pub writable : counts true 6 ≡ (29, 1)
  pub writable_with_all : counts false 6 ≡ (29, 1)
  pub read_only : counts true 4 ≡ (27, 0)
  pub read_only_with_all : counts false 4 ≡ (29, 1)
  pub no_rights : counts true 0 ≡ (27, 0)
  pub no_rights_with_all : counts false 0 ≡ (29, 1)
  pub within_a_span : is_inside (span 0x10100 0x1010b ∷ []) 0x10100 ≡ true
  pub half_within_a_span : is_inside (span 0x10100 0x1010b ∷ []) 0x10108 ≡ false
  pub within_two_spans : is_inside (span 0x10104 0x10107 ∷ span 0x10100 0x10103 ∷ []) 0x10100 ≡ true
  pub one_byte_between_spans :
      is_inside (span 0x10105 0x10107 ∷ span 0x10100 0x10103 ∷ []) 0x10100 ≡ false
