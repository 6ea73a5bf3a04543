-- The segments of the headers so far.
use Rattle.std.proofs.Common.{◌≡◌, map, filter, take}
use Rattle.leak_elf.specs.Headers.{has_addresses}
use Rattle.leak_elf.specs.Segments.{segment_of}
use Rattle.leak_elf.proofs.segment.kept_segments.Given as goal

abbrev pub invariant-loop-header : goal.invariant-loop-header
invariant-loop-header l = l.segments.items ≡ map segment_of (filter has_addresses (take l.header-index l.headers))
