-- Each segment so far ends where the next begins, or before that.
use Rattle.std.proofs.Common.{◌≡◌, ℕ, ◌+◌, ◌<◌, ◌≤◌, get_or}
use Rattle.leak_elf.specs.declared.segment.Segment.{Segment}
use Rattle.leak_elf.proofs.segment.neighbors_meet.Given as goal

abbrev pub invariant-loop-i : goal.invariant-loop-i
invariant-loop-i l = (j k : ℕ) (d : Segment) → k ≡ j + 1 → k < l.i → (get_or l.segments j d).vaddr + (get_or l.segments j d).memsz ≤ (get_or l.segments k d).vaddr
