-- The spans of the lines so far.
use Rattle.leak_blocks.specs.Small.{is_small, span_of}
use Rattle.leak_blocks.proofs.SmallLemmas.{AreListed}
use Rattle.leak_blocks.proofs.small.spans_of.Given as goal

abbrev pub invariant-loop-line : goal.invariant-loop-line
invariant-loop-line l = AreListed is_small span_of l.lines l.line-index l.spans.items
