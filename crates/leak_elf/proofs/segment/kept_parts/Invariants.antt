-- The parts of notes of the headers so far.
use Rattle.std.proofs.Common.{◌≡◌, map, filter, take}
use Rattle.leak_elf.specs.Headers.{is_note}
use Rattle.leak_elf.specs.Segments.{part_of}
use Rattle.leak_elf.proofs.segment.kept_parts.Given as goal

abbrev pub invariant-loop-header : goal.invariant-loop-header
invariant-loop-header l = l.parts.items ≡ map part_of (filter is_note (take l.header-index l.headers))
