-- The lowest address of a stack that its functions use (System V ABI for x86-64, 3.2.2: what is below rsp is nobody's, but
-- for the red zone of 128 bytes, which a function that calls no other may use).
use Rattle.std.specs.Prelude.{ℕ, ◌+◌, ◌-◌, ◌%◌, ◌^◌, min, Bool, ◌&&◌, ◌||◌, nat_lt, nat_le, List, [], ◌∷◌, if◌then◌else◌, Option, Some, None, option_and_then}
use Rattle.leak_notes.specs.declared.stacks.StackRegisters.{StackRegisters}
use Rattle.leak_stacks.specs.declared.stack.Stack.{Stack}
use Rattle.leak_stacks.specs.Stacks.{made_from}

-- the stack pointer less the red zone; a thread in a system call has none, since what a call needs is in registers
abbrev pub red_low : StackRegisters → ℕ
red_low t = if nat_lt t.call (2 ^ 63) then t.sp else t.sp - 128

-- the flags of an alternate signal stack (Linux, sigaltstack(2)): none, SS_ONSTACK or SS_DISABLE, also with SS_AUTODISARM
abbrev pub are_flags : ℕ → Bool
are_flags f = nat_lt f 3 || (nat_le 0x80000000 f && nat_lt f 0x80000003)

-- The flags in the word of a frame that begins with them. They are an int: the kernel doesn't write the 4 bytes of padding after
-- it, where any value may stand.
abbrev pub flags_in : ℕ → ℕ
flags_in f = f % 2 ^ 32

-- A frame that the kernel made for a signal handler on an alternate stack within this stack (Linux, struct ucontext): at the
-- address p are the begin of the alternate stack, its flags and its size, and 144 bytes above p is rsp of where the handler
-- came from, which lies in this stack and below its stack pointer.
abbrev pub is_frame : Stack → ℕ → ℕ → ℕ → ℕ → ℕ → ℕ → Bool
is_frame k sp p s f z old =
    nat_le s p && nat_lt p (s + z) && nat_le k.begin s && nat_le (s + z) (k.begin + k.size)
    && are_flags (flags_in f) && nat_le k.begin old && nat_lt old sp

-- what four words say of how low functions go
abbrev pub frame_by : Stack → ℕ → ℕ → ℕ → ℕ → ℕ → ℕ → Option ℕ
frame_by k sp p s f z old = if is_frame k sp p s f z old then Some (old - 128) else None

-- what the words at p, p + 8, p + 16 and p + 144 say
abbrev pub frame_at : (ℕ → Option ℕ) → Stack → ℕ → ℕ → Option ℕ
frame_at word_at k sp p =
    option_and_then (λ s. option_and_then (λ f. option_and_then (λ z. option_and_then (frame_by k sp p s f z)
    (word_at (p + 144))) (word_at (p + 16))) (word_at (p + 8))) (word_at p)

-- the lower of a number and another, if there is another
abbrev pub lower : ℕ → Option ℕ → ℕ
lower n None = n
lower n (Some m) = min n m

abbrev pub lowest : ℕ → List ℕ → ℕ
lowest n [] = n
lowest n (m ∷ ms) = lowest (min n m) ms

-- the lowest address that functions use: by the stack pointer, and by each signal frame from it on
unfoldable pub low_of : (ℕ → Option ℕ) → Stack → StackRegisters → ℕ
low_of word_at k t = lowest (red_low t) (made_from (frame_at word_at k t.sp) t.sp (k.begin + k.size))
