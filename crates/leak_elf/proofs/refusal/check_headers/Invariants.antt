-- None of the headers so far has a fault by itself.
use Rattle.std.proofs.Common.{◌≡◌, ℕ, ◌<◌, get_or, None}
use Rattle.leak_elf.specs.declared.header.Header.{Header}
use Rattle.leak_elf.specs.Refusals.{extent_fault}
use Rattle.leak_elf.proofs.refusal.check_headers.Given as goal

abbrev pub invariant-loop-i : goal.invariant-loop-i
invariant-loop-i g l = (k : ℕ) (d : Header) → k < l.i → extent_fault g.file k (get_or l.headers k d) ≡ None

abbrev pub ghost-check_extent : goal.ghost-check_extent
ghost-check_extent g a = g.file
