-- What is left out of the root words, as one value.
use Rattle.std.specs.Prelude.{Bool, true, false, List, []}
use Rattle.leak_blocks.specs.declared.small.Span.{Span}

-- whether memory that can't be written is, and the spans of freed memory, of slack and of dead stack
pub record LeftOut : Type 0 where
  pub unwritable : Bool
  pub freed : List Span
  pub slack : List Span
  pub dead : List Span

-- nothing is
abbrev pub nothing_left_out : LeftOut
nothing_left_out = record { unwritable = false; freed = []; slack = []; dead = [] }

-- memory that can't be written is
abbrev pub usual_left_out : LeftOut
usual_left_out = record nothing_left_out { unwritable = true }

-- memory that can't be written is, if so, and these spans of freed memory
abbrev pub freed_left_out : Bool → List Span → LeftOut
freed_left_out unwritable freed = record nothing_left_out { unwritable = unwritable; freed = freed }
