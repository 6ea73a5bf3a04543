-- Where the stack of a thread lies. Own rule, after what C libraries keep: glibc's `struct pthread`, at fs_base, has the
-- stack's begin and its size (stackblock, stackblock_size), musl's the like; where they are differs by version, so each pair of
-- words is tried. The first stack is known by AT_RANDOM (getauxval(3)), whose bytes the kernel puts above it.
use Rattle.std.specs.Prelude.{◌≡◌, ℕ, ◌+◌, ◌-◌, ◌<◌, ◌≤◌, Bool, ◌&&◌, ◌||◌, is_some, nat_lt, nat_le, List, [], ◌∷◌, filter_map, find, if◌then◌else◌, Option, Some, None, option_and_then}
use Rattle.std.specs.List.{range_with_len}
use Rattle.leak_elf.specs.declared.segment.Segment.{Segment}
use Rattle.leak_elf.specs.Segments.{segments_of}
use Rattle.leak_notes.specs.declared.stacks.StackRegisters.{StackRegisters}
use Rattle.leak_notes.specs.Stacks.{random_of}
use Rattle.leak_stacks.specs.declared.stack.Stack.{Stack}
use Rattle.leak_stacks.specs.declared.stack.Told.{Told}
use Rattle.leak_stacks.specs.declared.first.First.{First}

-- the first address and the size of a stack that has the stack pointer, begins below fs_base and ends above it, 8192 bytes
-- above it at most
abbrev pub is_stack : StackRegisters → ℕ → ℕ → Bool
is_stack t a n =
    nat_lt 0 a && nat_le a t.sp && nat_lt t.sp t.fs_base && nat_lt n t.fs_base
    && nat_lt t.fs_base (a + n) && nat_le (a + n) (t.fs_base + 8192)

-- the stack that two words tell of
abbrev pub stack_by : StackRegisters → ℕ → ℕ → Option Stack
stack_by t a n = if is_stack t a n then Some (record { begin = a; size = n }) else None

-- the stack that the word at the address and the next word tell of
abbrev pub stack_at : (ℕ → Option ℕ) → StackRegisters → ℕ → Option Stack
stack_at word_at t w = option_and_then (λ a. option_and_then (stack_by t a) (word_at (w + 8))) (word_at w)

-- the least address with a word from one address on, below an end
abbrev pub IsNextBelow : (ℕ → Option ℕ) → ℕ → ℕ → Option ℕ → Type 0
IsNextBelow word_at from end None = (a : ℕ) → from ≤ a → a < end → word_at a ≡ None
IsNextBelow word_at from end (Some p) = (from ≤ p) × (p < end) × ((a : ℕ) → from ≤ a → a < p → word_at a ≡ None)

-- what is made of the addresses from one on, up to an end
unfoldable pub made_from : {X : Type 0} → (ℕ → Option X) → ℕ → ℕ → List X
made_from f from end = filter_map f (range_with_len from (end - from))

-- the element of a list that has no other
abbrev pub only : List Stack → Option Stack
only (s ∷ []) = Some s
only _ = None

-- stacks that were told of one after another: whether another came before the last of them
abbrev pub told_more : Told → Option Stack → Told
told_more told None = told
told_more told (Some s) = record { last = Some s; many = told.many || is_some told.last }

abbrev pub told_alone : Told → Option Stack
told_alone told = if told.many then None else told.last

-- the stack that the thread's own record tells of, in the 4096 bytes from fs_base on, if one pair of words there does so alone
unfoldable pub own_stack : (ℕ → Option ℕ) → StackRegisters → Option Stack
own_stack word_at t = only (made_from (stack_at word_at t) t.fs_base (t.fs_base + 4096))

abbrev pub has_address : ℕ → Segment → Bool
has_address a s = nat_le s.vaddr a && nat_lt a (s.vaddr + s.memsz)

-- a segment that has AT_RANDOM, as a stack
abbrev pub first_of : ℕ → Segment → First
first_of random s = record { stack = record { begin = s.vaddr; size = s.memsz }; random = random }

abbrev pub first_at : List Segment → ℕ → Option First
first_at segments random =
    option_and_then (λ s. Some (first_of random s)) (find (has_address random) segments)

-- the segment of a core that has AT_RANDOM, which is the first stack, with AT_RANDOM
unfoldable pub first_in : List ℕ → Option First
first_in file = option_and_then (first_at (segments_of file)) (random_of file)

-- the first stack, if the stack pointer is in it and below AT_RANDOM
abbrev pub if_first : StackRegisters → Option First → Option Stack
if_first t None = None
if_first t (Some f) = if nat_le f.stack.begin t.sp && nat_lt t.sp (f.stack.begin + f.stack.size) && nat_lt t.sp f.random then Some f.stack else None

-- the stack of a thread: by its own record, else the first one
abbrev pub or_first : StackRegisters → Option First → Option Stack → Option Stack
or_first t first (Some s) = Some s
or_first t first None = if_first t first

unfoldable pub stack_of : (ℕ → Option ℕ) → Option First → StackRegisters → Option Stack
stack_of word_at first t = or_first t first (own_stack word_at t)

-- the stack has the address
pub record Has (s : Stack) (a : ℕ) : Type 0 where
  pub from : s.begin ≤ a
  pub to : a < s.begin + s.size
