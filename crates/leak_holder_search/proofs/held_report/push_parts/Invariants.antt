-- The lines of the rows so far.
use Rattle.std.proofs.Common.{◌≡◌, ◌++◌, take, flat_map}
use Rattle.leak_report.specs.Numbered.{bytes_each}
use Rattle.leak_holder_search.specs.Held.{part_line}
use Rattle.leak_holder_search.proofs.held_report.push_parts.Given as goal

abbrev pub invariant-loop-part : goal.invariant-loop-part
invariant-loop-part l = l.out.items ≡ l.initial.out.items ++ flat_map (part_line l.side (bytes_each l.texts)) (take l.part-index l.parts)
