-- What was read of a log that was let go.
use Rattle.std.proofs.Common.{◌≡◌, ◌∙◌, ℕ, List, sym, ap, subst}
use Rattle.std.specs.Prelude.{Result, Ok, Err, IfOk}
use Rattle.leak_mtrace.specs.declared.error.LogError.{LogError}
use Rattle.leak_mtrace.specs.declared.error.LogError.TheVariants.{NoMemory}
use Rattle.leak_mtrace.proofs.SameLogLemmas.{logs_are_one}
use Rattle.leak_blocks.specs.declared.block.Block.{Block}
use Rattle.leak_blocks.specs.declared.replaying.Replayed.{Replayed}
use Rattle.leak_blocks.specs.declared.small.Span.{Span}
use Rattle.leak_blocks.specs.Live.{Replay, live_of}
use Rattle.leak_blocks.proofs.LineLemmas.{live_of_lines}
use Rattle.leak_blocks.proofs.StepLemmas.{replayed as blocks_are}
use Rattle.leak_roots.specs.declared.skip.Skip.{Skip}
use Rattle.leak_report.specs.Totals.{HaveCallersIn}
use Rattle.leak_report.proofs.Callers.{have_callers}
use Rattle.leak_search.specs.Inputs.{IsRead, IsReadAs, IsReadLog}
use Rattle.leak_search.specs.declared.inputs.Input.{Input}
use Rattle.leak_search.proofs.InputLemmas.{input_blocks, own_core}
use Rattle.leak_passing.specs.declared.passed.PassedByTexts.{PassedByTexts}
use Rattle.leak_passing.specs.ByTexts.{AreTextsOf, IsLogOf}
use Rattle.leak_replaying.specs.Texts.{blocks_of}
use Rattle.leak_passing.specs.Passed.{IsPassedByTexts}
use Rattle.leak_passing.proofs.FoundLemmas.{lines_of}

-- ---- what was read of a log

-- the callers of its live blocks are ranges of it
pub callers_read : (log : List ℕ) (skip : Skip) (read : Result (Replayed × List Span) LogError) → IfOk read (IsReadLog skip log) → HaveCallersIn log (blocks_of read)
callers_read log skip (Ok parts) read =
    subst (λ (bs : List Block). HaveCallersIn log bs) (sym (ap (λ (r : Replay). r.blocks) read.1.live ∙ blocks_are read.0)) (have_callers live_of_lines log read.0 read.1.callers)
callers_read log skip (Err e) read = tt

-- what was read of it
pub read_as : (core log : List ℕ) (skip : Skip) (passed : PassedByTexts) → IsPassedByTexts core log skip passed → IsReadAs skip log passed.read
read_as core log skip passed is = record { read = is.read; unread = is.unread }

-- the input of a core and of what was read of a log has its blocks, and so its texts
pub is_log_of : (core log file : List ℕ) (skip : Skip) (passed : PassedByTexts) (input : Input) → IsPassedByTexts core log skip passed → (passed.read ≡ Err NoMemory → ⊥)
    → IsRead file log input → IsLogOf input passed.texts log
is_log_of core log file skip passed input is full read =
    let lines = lines_of log skip passed.read is.read is.unread full read.0 read.1.is_log in
    let blocks : blocks_of passed.read ≡ input.live.blocks =
    lines.2 ∙ ap live_of (logs_are_one log lines.0 read.0 lines.1 read.1.is_log) ∙ sym (input_blocks file log read.0 input read.1) in
    record {
      read = (read.0, own_core file log read.0 input read.1);
      texts = subst (λ (bs : List Block). AreTextsOf log bs passed.texts) blocks is.texts;
    }
