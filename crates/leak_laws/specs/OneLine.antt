-- The text of a caller is on one line.
use Rattle.std.specs.Prelude.{ℕ, Bool, List}
use Rattle.std.specs.List.{AllByRecursion}
use Rattle.leak_mtrace.specs.declared.line.Line.{Line}
use Rattle.leak_mtrace.specs.Log.{IsLog}
use Rattle.leak_blocks.specs.Live.{live_of}
use Rattle.leak_index.specs.Leads.{Distances}
use Rattle.leak_roots.specs.declared.skip.Skip.{Skip}
use Rattle.leak_report.specs.Totals.{text_at}
use Rattle.leak_search.specs.declared.found.Found.{Found}
use Rattle.leak_search.specs.Search.{FindsOne}
use Rattle.leak_search.specs.SearchTwo.{FindsTwo}
use Rattle.leak_laws.specs.Reports.{told_by_one, told_by_two}
use Rattle.leak_laws.specs.Told.{Told}
use Rattle.leak_laws.specs.Readable.{Lacks}

-- of each live block of a log
abbrev pub TextsAreOfOneLine : Type 0
TextsAreOfOneLine = (log : List ℕ) (lines : List Line) → IsLog log lines → AllByRecursion (λ b. Lacks 10 (text_at log b.caller)) (live_of lines)

-- no text of the report has a line feed
pub record AreOfOneLine (t : Told) : Type 0 where
  pub callers : AllByRecursion (λ c. Lacks 10 c.text) t.callers
  pub leaks : AllByRecursion (λ l. Lacks 10 l.text) t.leaks
  pub misfits : AllByRecursion (λ m. Lacks 10 m.text) t.misfit_rows

abbrev pub ReportsOfOneAreOfLines : Type 0
ReportsOfOneAreOfLines =
    (core log : List ℕ) (reading : Distances) (skip : Skip) (check : Bool) (workers : ℕ) (found : Found)
    → (f : FindsOne core log reading skip check workers found) → AreOfOneLine (told_by_one f)

abbrev pub ReportsOfTwoAreOfLines : Type 0
ReportsOfTwoAreOfLines =
    (core1 log1 core2 log2 : List ℕ) (reading : Distances) (skip : Skip) (check : Bool) (workers : ℕ) (found : Found)
    → (f : FindsTwo core1 log1 core2 log2 reading skip check workers found) → AreOfOneLine (told_by_two f)
