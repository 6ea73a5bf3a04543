-- Dead stack: what lies from a stack's begin up to the lowest address that its functions use. Its words hold nothing (after
-- LeakSanitizer, which scans a stack from its stack pointer on).
use Rattle.std.specs.Prelude.{ℕ, ◌+◌, ◌-◌, ◌*◌, ◌/◌, ◌^◌, nat_lt, nat_le, List, [], ◌∷◌, ◌++◌, if◌then◌else◌, Option, Some, None}
use Rattle.std.specs.List.{cons_option}
use Rattle.leak_elf.specs.Words.{word_of}
use Rattle.leak_blocks.specs.declared.small.Span.{Span}
use Rattle.leak_notes.specs.declared.stacks.StackRegisters.{StackRegisters}
use Rattle.leak_notes.specs.Stacks.{threads_in}
use Rattle.leak_stacks.specs.declared.stack.Stack.{Stack}
use Rattle.leak_stacks.specs.declared.first.First.{First}
use Rattle.leak_stacks.specs.Stacks.{first_in, stack_of}
use Rattle.leak_stacks.specs.Lows.{low_of}

-- the whole words of 8 bytes from one address on up to another, as a span: so a word is in a span with all bytes or with none
unfoldable pub words_within : ℕ → ℕ → Option Span
words_within begin low =
    if nat_lt ((begin + 7) / 8) (low / 8) then Some (record { first = 8 * ((begin + 7) / 8); last = 8 * (low / 8) - 1 }) else None

-- the dead words of a thread with this stack
abbrev pub dead_of : (ℕ → Option ℕ) → Stack → StackRegisters → Option Span
dead_of word_at k t = words_within k.begin (low_of word_at k t)

-- the bytes from the stack pointer up to the stack's end
abbrev pub in_use : Stack → StackRegisters → ℕ
in_use k t = k.begin + k.size - t.sp

-- Of the bytes in use as many are looked at as there is room for, so that many threads in one stack take no longer than
-- threads with stacks of their own: a thread for which there is no room has no dead words.
abbrev pub take_by : (ℕ → Option ℕ) → ℕ → StackRegisters → Option Stack → ℕ × List Span
take_by word_at room t None = (room, [])
take_by word_at room t (Some k) =
    if nat_le (in_use k t) room then (room - in_use k t, cons_option (dead_of word_at k t) []) else (room, [])

-- the room that is left after a thread, and its dead words
abbrev pub take : (ℕ → Option ℕ) → Option First → ℕ → StackRegisters → ℕ × List Span
take word_at first room t = take_by word_at room t (stack_of word_at first t)

-- the dead words of threads, one after another
abbrev pub dead_from : (ℕ → Option ℕ) → Option First → ℕ → List StackRegisters → List Span
dead_from word_at first room [] = []
dead_from word_at first room (t ∷ ts) =
    (take word_at first room t).1 ++ dead_from word_at first (take word_at first room t).0 ts

-- the dead words of a core; the room is 256 MiB
unfoldable pub dead_spans_of : List ℕ → List Span
dead_spans_of file = dead_from (word_of file) (first_in file) (2 ^ 28) (threads_in file)
