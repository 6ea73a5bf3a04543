-- What a search leaves out of the root words of a log's process.
use Rattle.std.specs.Prelude.{true, false, List, [], if◌then◌else◌}
use Rattle.leak_mtrace.specs.declared.line.Line.{Line}
use Rattle.leak_blocks.specs.declared.small.Span.{Span}
use Rattle.leak_blocks.specs.Small.{small_spans_of}
use Rattle.leak_roots.specs.declared.skip.Skip.{Skip}

-- what is left out unless more is asked for: the words of memory that can't be written
abbrev pub usual_skip : Skip
usual_skip = record { freed = false; slack = false; dead = false; links = false; unwritable = true }

-- the spans whose freed places are left out: those of the small allocations, or none
abbrev pub spans_of : Skip → List Line → List Span
spans_of skip lines = if skip.freed then small_spans_of lines else []
