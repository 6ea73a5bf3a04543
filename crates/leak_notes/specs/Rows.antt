-- Worked answers: each changes the sample core in one way.
use Rattle.std.specs.Prelude.{◌≡◌, ℕ, ◌+◌, List, [], ◌∷◌, ◌++◌, replicate, Some, None, slice_index}
use Rattle.std.specs.Int.{w32, w64, to_le_bytes}
use Rattle.leak_elf.specs.Sample.{sample, patched}
use Rattle.leak_notes.specs.declared.error.NoteError.TheVariants.{Cut, StatusSize, VectorSize, NoThread}
use Rattle.leak_notes.specs.Threads.{note_fault_of, registers_of, threads_of}
use Rattle.leak_notes.specs.Stacks.{threads_in, random_of}

-- the sample with a vector entry after its thread status: the descriptor of 512 zero bytes begins at 552
abbrev pub with_vectors : List ℕ
with_vectors =
    patched (patched sample 96 (to_le_bytes w64 888)) 532
    (5 ∷ 0 ∷ 0 ∷ 0 ∷ 0 ∷ 2 ∷ 0 ∷ 0 ∷ 2 ∷ 0 ∷ 0 ∷ 0 ∷ 0x43 ∷ 0x4f ∷ 0x52 ∷ 0x45 ∷ [])

-- the sample with a state entry of that size after its thread status: its descriptor begins at 552
abbrev pub with_state : ℕ → List ℕ
with_state size =
    patched (patched (patched sample 96 (to_le_bytes w64 (376 + size))) 532 (6 ∷ 0 ∷ 0 ∷ 0 ∷ [])) 536
    (to_le_bytes w32 size ++ (2 ∷ 2 ∷ 0 ∷ 0 ∷ 0x4c ∷ 0x49 ∷ 0x4e ∷ 0x55 ∷ 0x58 ∷ 0 ∷ []))

-- the same with the address of a block at the place in the descriptor
abbrev pub with_state_word : ℕ → ℕ → List ℕ
with_state_word size at = patched (with_state size) (552 + at) (to_le_bytes w64 0x10100)

-- an auxiliary vector's entry without its descriptor, which has that size
abbrev pub auxiliary_entry : ℕ → List ℕ
auxiliary_entry size = to_le_bytes w32 5 ++ to_le_bytes w32 size ++ (6 ∷ 0 ∷ 0 ∷ 0 ∷ 0x43 ∷ 0x4f ∷ 0x52 ∷ 0x45 ∷ 0 ∷ 0 ∷ 0 ∷ 0 ∷ [])

-- the sample with an auxiliary vector of that size after its thread status: its descriptor begins at 552
abbrev pub with_auxiliary : ℕ → List ℕ
with_auxiliary size = patched (patched sample 96 (to_le_bytes w64 (376 + size))) 532 (auxiliary_entry size)

-- a core with a pair of that type and value at the offset
abbrev pub with_pair : List ℕ → ℕ → ℕ → ℕ → List ℕ
with_pair core at kind value = patched core at (to_le_bytes w64 kind ++ to_le_bytes w64 value)

-- the sample with two auxiliary vectors: the first is one pair of zeros, and AT_RANDOM is in the second
abbrev pub with_two_vectors : List ℕ
with_two_vectors = with_pair (patched (patched (with_auxiliary 16) 96 (to_le_bytes w64 428)) 568 (auxiliary_entry 16)) 588 25 0x10ff0

pub record AreAnswers : Type 0 where
  pub accepted : note_fault_of sample ≡ None
  pub cut : note_fault_of (patched sample 96 (to_le_bytes w64 300)) ≡ Some (Cut 176)
  pub cut_second : note_fault_of (patched sample 96 (to_le_bytes w64 360)) ≡ Some (Cut 532)
  pub skipped_second : note_fault_of (patched sample 96 (to_le_bytes w64 368)) ≡ None
  pub size : note_fault_of (patched (patched sample 96 (to_le_bytes w64 352)) 180 (to_le_bytes w32 332)) ≡ Some (StatusSize 176)
  pub other_kind : note_fault_of (patched sample 184 (6 ∷ [])) ≡ Some NoThread
  pub other_name : note_fault_of (patched (patched sample 176 (6 ∷ [])) 188 (0x4c ∷ 0x49 ∷ 0x4e ∷ 0x55 ∷ 0x58 ∷ 0 ∷ [])) ≡ Some NoThread
  pub empty : note_fault_of (patched sample 96 (to_le_bytes w64 0)) ≡ Some NoThread
  pub no_part : note_fault_of (patched sample 64 (to_le_bytes w32 0)) ≡ Some NoThread
  pub zero : registers_of sample ≡ replicate 27 0
  pub rbx : slice_index (registers_of (patched sample 348 (to_le_bytes w64 0x10100))) 5 ≡ 0x10100
  pub vectors_accepted : note_fault_of with_vectors ≡ None
  pub vectors : threads_of with_vectors ≡ record { registers = replicate 75 0; threads = 1 }
  pub first_low : slice_index (registers_of (patched with_vectors 584 (to_le_bytes w64 0x10100))) 27 ≡ 0x10100
  pub first_high : slice_index (registers_of (patched with_vectors 720 (to_le_bytes w64 0x10100))) 44 ≡ 0x10100
  pub last_high : slice_index (registers_of (patched with_vectors 960 (to_le_bytes w64 0x10100))) 74 ≡ 0x10100
  pub before_the_first : registers_of (patched with_vectors 576 (to_le_bytes w64 0x10100)) ≡ replicate 75 0
  pub behind_the_last : registers_of (patched with_vectors 968 (to_le_bytes w64 0x10100)) ≡ replicate 75 0
  pub vector_size : note_fault_of (patched (patched with_vectors 96 (to_le_bytes w64 884)) 536 (to_le_bytes w32 508)) ≡ Some (VectorSize 532)
  pub vectors_alone : note_fault_of (patched with_vectors 184 (6 ∷ [])) ≡ Some NoThread
  pub status_as_vectors : note_fault_of (patched sample 184 (2 ∷ [])) ≡ Some (VectorSize 176)
  pub state : threads_of (with_state 590) ≡ record { registers = replicate 28 0; threads = 1 }
  pub state_without_words : threads_of (with_state 580) ≡ record { registers = replicate 27 0; threads = 1 }
  pub short_state_accepted : note_fault_of (with_state 0) ≡ None
  pub state_header : registers_of (with_state_word 590 568) ≡ replicate 28 0
  pub state_first : slice_index (registers_of (with_state_word 584 576)) 27 ≡ 0x10100
  pub state_last : slice_index (registers_of (with_state_word 608 600)) 30 ≡ 0x10100
  pub state_last_of_many : slice_index (registers_of (with_state_word 2696 2688)) 291 ≡ 0x10100
  pub state_partial : registers_of (with_state_word 590 582) ≡ replicate 27 0 ++ (0x0100000000000000 ∷ [])
  pub state_of_another_name :
      registers_of (patched (patched (with_state_word 590 576) 532 (5 ∷ [])) 544 (0x43 ∷ 0x4f ∷ 0x52 ∷ 0x45 ∷ 0 ∷ 0 ∷ [])) ≡ replicate 27 0
  pub stacks :
      threads_in (patched (patched (patched sample 428 (to_le_bytes w64 7)) 460 (to_le_bytes w64 0x10800)) 476 (to_le_bytes w64 0x10f00))
      ≡ record { sp = 0x10800; fs_base = 0x10f00; call = 7 } ∷ []
  pub random : random_of (with_pair (with_auxiliary 32) 568 25 0x10ff0) ≡ Some 0x10ff0
  pub first_random : random_of (with_pair (with_pair (with_auxiliary 32) 552 25 0x10ff8) 568 25 0x10ff0) ≡ Some 0x10ff8
  pub random_of_another_type : random_of (with_pair (with_auxiliary 32) 568 26 0x10ff0) ≡ None
  pub short_pair : random_of (with_pair (with_auxiliary 24) 568 25 0x10ff0) ≡ None
  pub no_vector : random_of sample ≡ None
  pub second_vector : random_of with_two_vectors ≡ None
