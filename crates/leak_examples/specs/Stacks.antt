-- Worked stacks: a memory of 4096 bytes of zeros at 0x10000, with some words set, and the registers of one thread or two. Which
-- addresses are dead stack.
use Rattle.std.specs.Prelude.{◌≡◌, ℕ, true, ◌+◌, List, [], ◌∷◌, ◌++◌, ◌^◌, None}
use Rattle.leak_elf.specs.declared.segment.Segment.{Segment}
use Rattle.leak_blocks.specs.declared.small.Span.{Span}
use Rattle.leak_chunks.specs.Rows.{word_there}
use Rattle.leak_notes.specs.declared.stacks.StackRegisters.{StackRegisters}
use Rattle.leak_stacks.specs.Stacks.{first_at}
use Rattle.leak_stacks.specs.Dead.{dead_from}

-- a thread in a system call
abbrev pub calling : ℕ → ℕ → StackRegisters
calling sp fs_base = record { sp = sp; fs_base = fs_base; call = 0 }

-- one in none
abbrev pub running : ℕ → ℕ → StackRegisters
running sp fs_base = record { sp = sp; fs_base = fs_base; call = 0xffffffffffffffff }

-- words at this address that tell of a stack with this begin and size
abbrev pub tells : ℕ → ℕ → ℕ → List (ℕ × ℕ)
tells at begin size = (at, begin) ∷ (at + 8, size) ∷ []

-- those of a thread with fs_base 0x10f00 and a stack from 0x10000 to 0x11000
abbrev pub telling : List (ℕ × ℕ)
telling = tells 0x10f10 0x10000 0x1000

-- the words of the kernel's frame at 0x10400 for a handler on an alternate stack from 0x10280 to 0x10580, with these flags, and
-- with this rsp before
abbrev pub frame : ℕ → ℕ → List (ℕ × ℕ)
frame flags old = (0x10400, 0x10280) ∷ (0x10408, flags) ∷ (0x10410, 0x300) ∷ (0x10490, old) ∷ []

-- the dead stack of threads
abbrev pub dead : List (ℕ × ℕ) → List StackRegisters → List Span
dead words threads = dead_from (word_there words) None (2 ^ 28) threads

abbrev pub span : ℕ → ℕ → Span
span first last = record { first = first; last = last }

-- the segment of that memory
abbrev pub segment : Segment
segment = record { vaddr = 0x10000; memsz = 0x1000; offset = 4096; filesz = 0x1000; writable = true }

-- the same where the core has this AT_RANDOM
abbrev pub dead_with : ℕ → List (ℕ × ℕ) → List StackRegisters → List Span
dead_with random words threads = dead_from (word_there words) (first_at (segment ∷ []) random) (2 ^ 28) threads

pub record AreWorkedStacks : Type 0 where
  pub below_rsp : dead telling (calling 0x10800 0x10f00 ∷ []) ≡ span 0x10000 0x107ff ∷ []
  pub below_red_zone : dead telling (running 0x10800 0x10f00 ∷ []) ≡ span 0x10000 0x1077f ∷ []
  pub half_above_rsp : dead telling (calling 0x10004 0x10f00 ∷ []) ≡ []
  pub half_below_rsp : dead telling (calling 0x1000c 0x10f00 ∷ []) ≡ span 0x10000 0x10007 ∷ []
  pub odd_begin : dead (tells 0x10f10 0x10004 0xffc) (calling 0x10800 0x10f00 ∷ []) ≡ span 0x10008 0x107ff ∷ []
  pub no_record : dead [] (calling 0x10800 0x10f00 ∷ []) ≡ []
  pub two_records : dead (telling ++ tells 0x10f20 0x10000 0x1000) (calling 0x10800 0x10f00 ∷ []) ≡ []
  pub fs_base_below_rsp : dead (tells 0x10710 0x10000 0x1000) (calling 0x10800 0x10700 ∷ []) ≡ []
  pub ends_at_fs_base : dead (tells 0x10f10 0x10000 0xf00) (calling 0x10800 0x10f00 ∷ []) ≡ []
  pub ends_above_fs_base : dead (tells 0x10f10 0x10000 0xf01) (calling 0x10800 0x10f00 ∷ []) ≡ span 0x10000 0x107ff ∷ []
  pub ends_far_above_fs_base : dead (tells 0x10f10 0x10000 0x2f01) (calling 0x10800 0x10f00 ∷ []) ≡ []
  pub begins_above_rsp : dead (tells 0x10f10 0x10808 0x7f8) (calling 0x10800 0x10f00 ∷ []) ≡ []
  pub past_the_last_address : dead (tells 0x10f10 0x10000 0xfffffffffffff000) (calling 0x10800 0x10f00 ∷ []) ≡ []
  pub first_stack : dead_with 0x10ff0 [] (calling 0x10800 0x10f00 ∷ []) ≡ span 0x10000 0x107ff ∷ []
  pub random_elsewhere : dead_with 0x20000 [] (calling 0x10800 0x10f00 ∷ []) ≡ []
  pub random_below_rsp : dead_with 0x10400 [] (calling 0x10800 0x10f00 ∷ []) ≡ []
  pub record_before_first : dead_with 0x10ff0 (tells 0x10f10 0x10400 0xc00) (calling 0x10800 0x10f00 ∷ []) ≡ span 0x10400 0x107ff ∷ []
  pub two_threads :
      dead (tells 0x10f10 0x10700 0x900 ++ tells 0x10610 0x10200 0x500) (calling 0x10800 0x10f00 ∷ calling 0x10400 0x10600 ∷ [])
      ≡ span 0x10700 0x107ff ∷ span 0x10200 0x103ff ∷ []
  pub no_room : dead_from (word_there telling) None 0x800 (calling 0x10800 0x10f00 ∷ calling 0x10900 0x10f00 ∷ []) ≡ span 0x10000 0x107ff ∷ []
  pub signal_frame : dead (telling ++ frame 1 0x10200) (calling 0x10300 0x10f00 ∷ []) ≡ span 0x10000 0x1017f ∷ []
  pub disarming_frame : dead (telling ++ frame 0x80000001 0x10200) (calling 0x10300 0x10f00 ∷ []) ≡ span 0x10000 0x1017f ∷ []
  pub padded_flags : dead (telling ++ frame 0xdeadbeef00000001 0x10200) (calling 0x10300 0x10f00 ∷ []) ≡ span 0x10000 0x1017f ∷ []
  pub other_flags : dead (telling ++ frame 3 0x10200) (calling 0x10300 0x10f00 ∷ []) ≡ span 0x10000 0x102ff ∷ []
  pub frame_above_rsp : dead (telling ++ frame 1 0x10300) (calling 0x10300 0x10f00 ∷ []) ≡ span 0x10000 0x102ff ∷ []
