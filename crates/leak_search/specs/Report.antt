-- What a report tells of an input that was read.
use Rattle.std.specs.Prelude.{Option, Some, None, if◌then◌else◌}
use Rattle.leak_elf.specs.Segments.{undumped_of}
use Rattle.leak_roots.specs.Places.{Places}
use Rattle.leak_report.specs.declared.head.Head.{Head}
use Rattle.leak_report.specs.declared.head.Two.{Two}
use Rattle.leak_search.specs.declared.inputs.Input.{Input}

-- the numbers of the report's first lines, of an input that was read and its root words
abbrev pub head_with : Input → Places → Option Two → Head
head_with input places two = record {
  undumped = undumped_of input.image;
  unknown = input.live.unknown;
  displaced = input.live.displaced;
  torn = input.torn;
  freed = if input.skip.freed then Some places.freed else None;
  dead = if input.skip.dead then Some places.dead else None;
  two = two;
}
