-- Who holds the memory: a search of one core, and a row for each text of a caller whose blocks hold memory.
use Rattle.std.specs.Prelude.{◌≡◌, ℕ, ◌^◌, ◌<◌, ◌⊎◌, Bool, List, length, Option, IsTrue, IsFalse}
use Rattle.leak_mtrace.specs.declared.line.Line.{Line}
use Rattle.leak_mtrace.specs.Log.{IsLog}
use Rattle.leak_blocks.specs.Live.{live_of}
use Rattle.leak_index.specs.Leads.{Distances}
use Rattle.leak_roots.specs.declared.skip.Skip.{Skip}
use Rattle.leak_marks.specs.Reach.{Reach}
use Rattle.leak_pool.specs.Marking.{IsSet}
use Rattle.leak_report.specs.Numbered.{AreTexts}
use Rattle.leak_holders.specs.declared.holder.Holder.{Holder}
use Rattle.leak_search.specs.declared.error.FindError.{FindError}
use Rattle.leak_search.specs.declared.error.FindError.TheVariants.{NotPrefix, TooMany}
use Rattle.leak_search.specs.Inputs.{IsCore, IsFaultless, IsInputFault, IsTooMany}
use Rattle.leak_search.specs.Search.{graph_of_one, head_of_one}
use Rattle.leak_holder_search.specs.declared.search.Holding.{Holding}
use Rattle.leak_holder_search.specs.Rows.{AreRows}
use Rattle.leak_holder_search.specs.Since.{counted_of, is_continued_from, news_of}
use Rattle.leak_holder_search.specs.Text.{holders_text}

-- Core and log are free of faults, and the blocks are few enough to be numbered. The marked blocks are those that a chain of
-- words reaches from the roots, and the report tells which texts of callers hold them: those without whose blocks no chain
-- reaches them. With an earlier log, its complete lines begin the log, and only blocks of later lines are counted.
pub record FindsHolders (core log : List ℕ) (since : Option (List ℕ)) (reading : Distances) (skip : Skip) (found : Holding) : Type 0 where
  pub accepted : IsCore core
  pub continued : IsTrue (is_continued_from since log)
  pub lines : List Line
  pub is_log : IsLog log lines
  pub few : length (live_of lines) < 2 ^ 32
  pub set : List Bool
  pub marked : IsSet set (length (live_of lines)) (Reach (graph_of_one core reading skip lines))
  pub texts : List (List ℕ)
  pub numbers : List ℕ
  pub numbered : AreTexts log (live_of lines) texts numbers
  pub rows : List Holder
  pub are : AreRows (graph_of_one core reading skip lines) (live_of lines) numbers set (counted_of since (live_of lines)) (length texts) rows
  pub report : found.report.items ≡
      holders_text (head_of_one core log skip lines) (live_of lines) (news_of since (live_of lines)) set texts rows

-- The first fault of the files: one of the core, its notes or its log; or these are free of faults, and the earlier log doesn't begin the
-- log; or it does, and there are too many blocks.
abbrev pub IsFaultOfHolders : List ℕ → List ℕ → Option (List ℕ) → FindError → Type 0
IsFaultOfHolders core log since e =
    IsInputFault 1 core log e
    ⊎ ((IsFaultless core log × (e ≡ NotPrefix) × IsFalse (is_continued_from since log))
    ⊎ (IsFaultless core log × (e ≡ TooMany) × IsTrue (is_continued_from since log) × IsTooMany log))
