-- Words that are equal where rules on dead stack read give the same dead words.
use Rattle.std.proofs.Common.{◌≡◌, ℕ, ◌+◌, ◌-◌, ◌<◌, ◌≤◌, List, [], ◌∷◌, ◌++◌, Option, Some, None, refl, ap, ap₂, ◌∙◌, arith}
use Rattle.std.specs.Prelude.{if◌then◌else◌, nat_le, option_and_then}
use Rattle.std.specs.List.{AllByRecursion, cons_option}
use Rattle.leak_blocks.specs.declared.small.Span.{Span}
use Rattle.leak_notes.specs.declared.stacks.StackRegisters.{StackRegisters}
use Rattle.leak_stacks.specs.Dead.{dead_from, in_use, take, take_by, words_within}
use Rattle.leak_stacks.specs.Lows.{frame_at, low_of, lowest, red_low}
use Rattle.leak_stacks.specs.Stacks.{first_in, only, or_first, own_stack, stack_at, stack_by, stack_of}
use Rattle.leak_stacks.specs.declared.stack.Stack.{Stack}
use Rattle.leak_alike.proofs.AlikeLists.{made_agree}

module _ (before after : ℕ → Option ℕ) where
  own_same : (t : StackRegisters) → ((a : ℕ) → t.fs_base ≤ a → a < t.fs_base + 4104 → before a ≡ after a) → own_stack before t ≡ own_stack after t
  unfolding own_stack
  own_same t same =
      ap only (made_agree (stack_at before t) (stack_at after t) t.fs_base (t.fs_base + 4096) (λ a low high.
      ap₂ (λ (begin size : Option ℕ). option_and_then (λ (s : ℕ). option_and_then (stack_by t s) size) begin) (same a low (omega arith)) (same (a + 8) (omega arith) (omega arith))))

  low_same : (k : Stack) (t : StackRegisters) → ((a : ℕ) → t.sp ≤ a → a < k.begin + k.size + 144 → before a ≡ after a) → low_of before k t ≡ low_of after k t
  unfolding low_of
  low_same k t same = ap (lowest (red_low t)) (made_agree (frame_at before k t.sp) (frame_at after k t.sp) t.sp (k.begin + k.size) each)
    where
      each : (p : ℕ) → t.sp ≤ p → p < k.begin + k.size → frame_at before k t.sp p ≡ frame_at after k t.sp p
      each p low high =
          let begin = same p low (omega arith) in
          let flags = same (p + 8) (omega arith) (omega arith) in
          let size = same (p + 16) (omega arith) (omega arith) in
          let pointer = same (p + 144) (omega arith) (omega arith) in
          rw (begin, flags, size, pointer) refl

  -- the words of a thread's own record, and of frames in its stack
  pub record HasSameStack (file : List ℕ) (t : StackRegisters) : Type 0 where
    pub own : (a : ℕ) → t.fs_base ≤ a → a < t.fs_base + 4104 → before a ≡ after a
    pub frames : (k : Stack) (a : ℕ) → stack_of before (first_in file) t ≡ Some k → t.sp ≤ a → a < k.begin + k.size + 144 → before a ≡ after a

  pub stack_same : (file : List ℕ) (t : StackRegisters) → HasSameStack file t → stack_of before (first_in file) t ≡ stack_of after (first_in file) t
  unfolding stack_of
  stack_same file t same = ap (or_first t (first_in file)) (own_same t same.own)

  take_same : (file : List ℕ) (room : ℕ) (t : StackRegisters) → HasSameStack file t → take before (first_in file) room t ≡ take after (first_in file) room t
  take_same file room t same = by_stack (stack_of before (first_in file) t) same.frames ∙ ap (take_by after room t) (stack_same file t same)
    where
      by_stack : (o : Option Stack) → ((k : Stack) (a : ℕ) → o ≡ Some k → t.sp ≤ a → a < k.begin + k.size + 144 → before a ≡ after a)
          → take_by before room t o ≡ take_by after room t o
      by_stack None frames = refl
      by_stack (Some k) frames =
          ap (λ (low : ℕ). if nat_le (in_use k t) room then (room - in_use k t, cons_option (words_within k.begin low) []) else (room, []))
          (low_same k t (λ a. frames k a refl))

  pub dead_same : (file : List ℕ) (room : ℕ) (ts : List StackRegisters) → AllByRecursion (HasSameStack file) ts
      → dead_from before (first_in file) room ts ≡ dead_from after (first_in file) room ts
  dead_same file room [] all = refl
  dead_same file room (t ∷ ts) all =
      ap (λ (taken : ℕ × List Span). taken.1 ++ dead_from before (first_in file) taken.0 ts) (take_same file room t all.0)
      ∙ ap (λ (spans : List Span). (take after (first_in file) room t).1 ++ spans) (dead_same file (take after (first_in file) room t).0 ts all.1)
