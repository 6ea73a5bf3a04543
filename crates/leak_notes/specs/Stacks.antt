-- What notes say of the stacks of threads: registers of each thread status (Linux's struct elf_prstatus), and the address
-- AT_RANDOM of the auxiliary vector (Linux's NT_AUXV; getauxval(3)), which the kernel puts above the first stack.
use Rattle.std.specs.Prelude.{ℕ, ◌+◌, ◌*◌, ◌/◌, Bool, ◌==◌, ◌&&◌, length, List, [], ◌∷◌, filter_map, find, if◌then◌else◌, Option, Some, None, option_map}
use Rattle.std.specs.Int.{w64}
use Rattle.std.specs.List.{range_with_len}
use Rattle.leak_elf.specs.Fields.{number_at}
use Rattle.leak_notes.specs.declared.stacks.StackRegisters.{StackRegisters}
use Rattle.leak_notes.specs.Entry.{Entry, is_cut, is_status, is_core, kind, desc, desc_size}
use Rattle.leak_notes.specs.Threads.{entries}

-- rsp, fs_base and orig_rax of a thread status
abbrev pub registers_in : List ℕ → StackRegisters
registers_in status = record { sp = number_at w64 status 264; fs_base = number_at w64 status 280; call = number_at w64 status 232 }

-- those of an entry, if it is a thread status
abbrev pub stack_registers_of : Entry → Option StackRegisters
stack_registers_of e =
    if is_cut e then None
    else (if is_status e && (desc_size e == 336) then Some (registers_in (desc e)) else None)

-- those of a core, in the order of its thread statuses
unfoldable pub threads_in : List ℕ → List StackRegisters
threads_in file = filter_map stack_registers_of (entries file)

-- an auxiliary vector: type NT_AUXV
abbrev pub is_auxiliary : Entry → Bool
is_auxiliary e = (kind e == 6) && is_core e

-- the pair with the number is AT_RANDOM's; a pair is two words of 8 bytes, its type and its value
abbrev pub is_random : List ℕ → ℕ → Bool
is_random vector k = number_at w64 vector (16 * k) == 25

-- the value of the first such pair, if there is one; a last pair that is cut short is none
unfoldable pub random_in : List ℕ → Option ℕ
random_in vector =
    option_map (λ k. number_at w64 vector (16 * k + 8)) (find (is_random vector) (range_with_len 0 (length vector / 16)))

-- what an entry says of AT_RANDOM, if it is an auxiliary vector
abbrev pub random_of_entry : Entry → Option (Option ℕ)
random_of_entry e = if is_cut e then None else (if is_auxiliary e then Some (random_in (desc e)) else None)

-- what the first of them says
abbrev pub first_said : List (Option ℕ) → Option ℕ
first_said [] = None
first_said (o ∷ os) = o

-- the address AT_RANDOM of a core: of its first auxiliary vector, if that has it
unfoldable pub random_of : List ℕ → Option ℕ
random_of file = first_said (filter_map random_of_entry (entries file))
