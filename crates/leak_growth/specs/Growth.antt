-- What grew between two logs, and which fault of theirs comes first (own rule).
use Rattle.std.specs.Prelude.{◌≡◌, ℕ, ◌+◌, ◌^◌, ◌<◌, ◌≤◌, ◌⊎◌, List, [], ◌∷◌, length, IsTrue, IsFalse}
use Rattle.leak_mtrace.specs.declared.line.Line.{Line}
use Rattle.leak_mtrace.specs.Log.{IsLog, IsFirstFault, is_continued_by, torn_of}
use Rattle.leak_blocks.specs.declared.replaying.Replayed.{Replayed}
use Rattle.leak_blocks.specs.Live.{live_of, replay_of}
use Rattle.leak_report.specs.declared.signs.Signs.{Signs}
use Rattle.leak_search.specs.declared.error.FindError.{FindError}
use Rattle.leak_search.specs.declared.error.FindError.TheVariants.{Core, Notes, Log, NotPrefix, TooMany, NoMemory}
use Rattle.leak_search.specs.Inputs.{Continues}
use Rattle.leak_growth.specs.declared.growth.Grown.{Grown}
use Rattle.leak_growth.specs.Report.{growth_text}

-- what is odd about a log that has these lines; no core is there, and so no misfit
abbrev pub log_signs : List ℕ → List Line → Signs
log_signs log lines = record {
  live = length (live_of lines);
  torn = torn_of log;
  unknown = (replay_of lines).unknown;
  displaced = (replay_of lines).displaced;
  misfits = 0;
}

-- the same for a log that was read
abbrev pub read_signs : Replayed → Signs
read_signs log = record { live = length log.live.blocks; torn = log.torn; unknown = log.live.unknown; displaced = log.live.displaced; misfits = 0 }

-- the logs have lines, of which those of log 1 begin those of log 2, and this is what grew between them
pub record FindsGrowth (log1 log2 : List ℕ) (grown : Grown) : Type 0 where
  pub before : List Line
  pub now : List Line
  pub is_before : IsLog log1 before
  pub is_now : IsLog log2 now
  pub continued : IsTrue (is_continued_by log1 log2)
  pub lines : Continues before now
  pub few : length (live_of before) + length (live_of now) < 2 ^ 32
  pub report : grown.report.items ≡ growth_text log1 before log2 now
  pub signs : grown.signs.items ≡ log_signs log1 before ∷ log_signs log2 now ∷ []

-- the log has lines
abbrev pub HasLines : List ℕ → Type 0
HasLines log = (lines : List Line) × IsLog log lines

-- more live blocks in both logs together than there are numbers for them
abbrev pub AreTooMany : List ℕ → List ℕ → Type 0
AreTooMany log1 log2 =
    (before : List Line) × (now : List Line) × IsLog log1 before × IsLog log2 now × (2 ^ 32 ≤ length (live_of before) + length (live_of now))

-- the first fault of two logs
abbrev pub IsFaultOfGrowth : List ℕ → List ℕ → FindError → Type 0
IsFaultOfGrowth log1 log2 (Core k e) = ⊥
IsFaultOfGrowth log1 log2 (Notes k e) = ⊥
IsFaultOfGrowth log1 log2 (Log k e) = ((k ≡ 1) × IsFirstFault log1 e) ⊎ ((k ≡ 2) × HasLines log1 × IsFirstFault log2 e)
IsFaultOfGrowth log1 log2 NotPrefix = HasLines log1 × HasLines log2 × IsFalse (is_continued_by log1 log2)
IsFaultOfGrowth log1 log2 TooMany = IsTrue (is_continued_by log1 log2) × AreTooMany log1 log2
IsFaultOfGrowth log1 log2 NoMemory = ⊥
