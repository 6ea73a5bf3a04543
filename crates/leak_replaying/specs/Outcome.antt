-- What is read of a log that is not held.
use Rattle.std.specs.Prelude.{◌≢◌, ℕ, Bool, if◌then◌else◌, List, [], IfOk, IfErr}
use Rattle.leak_mtrace.specs.declared.line.Line.{Line}
use Rattle.leak_mtrace.specs.declared.error.LogError.TheVariants.{NoMemory}
use Rattle.leak_mtrace.specs.Log.{IsFirstFault}
use Rattle.leak_blocks.specs.declared.replaying.Replayed.{Replayed}
use Rattle.leak_blocks.specs.declared.small.Span.{Span}
use Rattle.leak_blocks.specs.Outcome.{ComesTo}
use Rattle.leak_blocks.specs.Small.{CoverSameOutside, small_spans_of}
use Rattle.leak_replaying.specs.declared.finishing.LogByTexts.{LogByTexts}
use Rattle.leak_replaying.specs.Texts.{AreKeptOf, blocks_of}

-- the spans of the small allocations of these lines if they are asked for, and else none
abbrev pub spans_if : Bool → List Line → List Span
spans_if wanted lines = if wanted then small_spans_of lines else []

-- the log comes to these live blocks and, as far as they are outside these, to such spans
abbrev pub IsReplayedTo : Bool → List ℕ → Replayed × List Span → Type 0
IsReplayedTo spans log read =
    (lines : List Line) × ComesTo log lines read.0 × CoverSameOutside read.0.live.blocks read.1 (spans_if spans lines)

-- the log was replayed, and these are the texts of its live blocks' callers; or it has this first fault
pub record IsOfLog (spans : Bool) (log : List ℕ) (by_texts : LogByTexts) : Type 0 where
  pub read : IfOk by_texts.read (IsReplayedTo spans log)
  pub unread : IfErr by_texts.read (λ e. e ≢ NoMemory → IsFirstFault log e)
  pub texts : AreKeptOf log (blocks_of by_texts.read) by_texts.texts
