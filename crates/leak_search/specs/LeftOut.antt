-- What a search leaves out of the root words of its core, and how much of it the report tells.
use Rattle.std.specs.Prelude.{◌≡◌, ℕ, Bool, false, not, ◌&&◌, List, [], length, Option, Some, None, if◌then◌else◌}
use Rattle.leak_elf.specs.Words.{word_of}
use Rattle.leak_mtrace.specs.declared.line.Line.{Line}
use Rattle.leak_blocks.specs.declared.block.Block.{Block}
use Rattle.leak_blocks.specs.declared.small.Span.{Span}
use Rattle.leak_chunks.specs.Slack.{slack_spans_of}
use Rattle.leak_stacks.specs.Dead.{dead_spans_of}
use Rattle.leak_roots.specs.declared.skip.Skip.{Skip}
use Rattle.leak_roots.specs.LeftOut.{LeftOut}
use Rattle.leak_roots.specs.Roots.{dead_places, freed_places}
use Rattle.leak_roots.specs.Skipped.{spans_of}

-- the slack of the live blocks that fit the core, or none
abbrev pub slack_in : Skip → List ℕ → List Block → List Span
slack_in skip core blocks = if skip.slack then slack_spans_of (word_of core) blocks else []

-- the dead words of the core's threads, or none
abbrev pub dead_in : Skip → List ℕ → List Span
dead_in skip core = if skip.dead then dead_spans_of core else []

-- what is left out of the root words of a core with these live blocks, and with the lines of its log
abbrev pub left_out : Skip → List ℕ → List Block → List Line → LeftOut
left_out skip core blocks lines = record {
  unwritable = skip.unwritable;
  freed = spans_of skip lines;
  slack = slack_in skip core blocks;
  dead = dead_in skip core;
}

-- how many freed places a core has, if they are left out
abbrev pub freed_told : Skip → List ℕ → List Block → List Line → Option ℕ
freed_told skip core blocks lines =
    if skip.freed then Some (length (freed_places (left_out skip core blocks lines) core blocks)) else None

-- how many dead places a core has that are neither freed nor in slack, as far as these are left out, if dead places are
abbrev pub dead_told : Skip → List ℕ → List Block → List Line → Option ℕ
dead_told skip core blocks lines =
    if skip.dead then Some (length (dead_places (left_out skip core blocks lines) core blocks)) else None

-- whether nothing but freed memory and memory that can't be written is left out of the root words
abbrev pub leaves_out_freed_alone : Skip → Bool
leaves_out_freed_alone skip = not skip.slack && not skip.dead && not skip.links

-- nothing else is
pub record LeavesOutFreedAlone (skip : Skip) : Type 0 where
  pub slack : skip.slack ≡ false
  pub dead : skip.dead ≡ false
  pub links : skip.links ≡ false
