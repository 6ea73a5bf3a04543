-- What the file lacks of the segments so far. It is no more than the address of each later one.
use Rattle.std.proofs.Common.{◌≡◌, ℕ, ◌<◌, ◌≤◌, length, take, get_or}
use Rattle.leak_elf.specs.declared.segment.Segment.{Segment}
use Rattle.leak_elf.specs.Segments.{lacking}
use Rattle.leak_elf.proofs.segment.sum_undumped.Given as goal

abbrev pub invariant-loop-segment : goal.invariant-loop-segment
invariant-loop-segment l = record {
  sum : l.total ≡ lacking (take l.segment-index l.segments);
  below : (k : ℕ) (d : Segment) → l.segment-index ≤ k → k < length l.segments → l.total ≤ (get_or l.segments k d).vaddr;
}
