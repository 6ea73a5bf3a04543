-- What the rows of some blocks are, said of the rows themselves, that live blocks have callers in their log, and what numbers say of
-- their texts.
use Rattle.std.specs.Prelude.{◌≡◌, ℕ, ◌<◌, List, [], length, slice_get, slice_index, slice_index_or, IfSome, IsTrue, bytes_eq, ◌↔◌}
use Rattle.std.specs.List.{AllByRecursion, list_any}
use Rattle.std.specs.List.Sorted.{IsStrictlySortedBy}
use Rattle.std.specs.Cmp.Lexicographic.{slice_cmp}
use Rattle.std.specs.Ordering.{nat_cmp}
use Rattle.leak_mtrace.specs.declared.line.Line.{Line}
use Rattle.leak_mtrace.specs.Log.{CallersAreIn}
use Rattle.leak_blocks.specs.Live.{live_of}
use Rattle.leak_report.specs.declared.totals.CallerRow.{CallerRow}
use Rattle.leak_report.specs.Totals.{Leak, HaveCallersIn, bytes_in, heads_in, text_at, with_text, rank, rows_of}
use Rattle.leak_report.specs.Numbered.{AreNumbered}

-- the row sums up the leaked blocks with its text, of which there are some, and names the caller of the first
pub record SumsUp (log : List ℕ) (leaks : List Leak) (row : CallerRow) : Type 0 where
  pub some : 0 < row.blocks
  pub count : row.blocks ≡ length (with_text log (text_at log row.caller) leaks)
  pub bytes : row.bytes ≡ bytes_in (with_text log (text_at log row.caller) leaks)
  pub heads : row.heads ≡ heads_in (with_text log (text_at log row.caller) leaks)
  pub first : IfSome (slice_get (with_text log (text_at log row.caller) leaks) 0) (λ l. row.caller ≡ l.block.caller)

-- a row has the text of the leaked block
abbrev pub HasRow : List ℕ → List CallerRow → Leak → Type 0
HasRow log rows l = IsTrue (list_any (λ row. bytes_eq (text_at log row.caller) (text_at log l.block.caller)) rows)

-- each row sums up the leaked blocks with its text, each of these has a row, and each row ranks before the later ones
pub record AreSums (log : List ℕ) (leaks : List Leak) (rows : List CallerRow) : Type 0 where
  pub each : AllByRecursion (SumsUp log leaks) rows
  pub every : AllByRecursion (HasRow log rows) leaks
  pub order : IsStrictlySortedBy (rank log) rows

-- that fits one list of rows alone
abbrev pub RowsAreSums : Type 0
RowsAreSums = (log : List ℕ) (leaks : List Leak) (rows : List CallerRow) → AreSums log leaks rows ↔ (rows ≡ rows_of log leaks)

-- if the callers of a log's lines are ranges of its bytes, so are those of its live blocks
abbrev pub LiveHaveCallers : Type 0
LiveHaveCallers = (bytes : List ℕ) (lines : List Line) → CallersAreIn bytes lines → HaveCallersIn bytes (live_of lines)

-- the numbers of two given texts compare as the texts do
abbrev pub NumbersTell : Type 0
NumbersTell = (given texts : List (List ℕ)) (numbers : List ℕ) → AreNumbered given texts numbers → (i j : ℕ) → i < length given → j < length given
    → nat_cmp (slice_index numbers i) (slice_index numbers j) ≡ slice_cmp nat_cmp (slice_index_or given i []) (slice_index_or given j [])
