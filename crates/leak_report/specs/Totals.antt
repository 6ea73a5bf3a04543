-- Leaked blocks, and their sums by the text of the caller (own rule).
use Rattle.std.specs.Prelude.{ℕ, Bool, true, false, not, ◌≤◌, List, [], ◌∷◌, length, map, filter, sum_by, nat_lt, if◌then◌else◌, bytes_eq, slice_range}
use Rattle.std.specs.List.{AllByRecursion}
use Rattle.std.specs.Cmp.Lexicographic.{slice_cmp}
use Rattle.std.specs.declared.cmp.Ordering.{Ordering}
use Rattle.std.specs.Ordering.{nat_cmp, ordering_then, is_lt}
use Rattle.leak_blocks.specs.declared.block.Block.{Block}
use Rattle.leak_report.specs.declared.totals.CallerRow.{CallerRow}
pub use Rattle.leak_report.specs.declared.leaked.Leak.{Leak}

-- the blocks that are in the set, which has an entry for each block
abbrev pub marked_in : List Bool → List Block → List Block
marked_in [] blocks = []
marked_in (s ∷ set) [] = []
marked_in (true ∷ set) (b ∷ blocks) = b ∷ marked_in set blocks
marked_in (false ∷ set) (b ∷ blocks) = marked_in set blocks

-- the blocks that are not in the set
abbrev pub leaked_in : List Bool → List Block → List Block
leaked_in [] blocks = []
leaked_in (s ∷ set) [] = []
leaked_in (true ∷ set) (b ∷ blocks) = leaked_in set blocks
leaked_in (false ∷ set) (b ∷ blocks) = b ∷ leaked_in set blocks

abbrev pub bytes_of : List Block → ℕ
bytes_of blocks = sum_by (λ b. b.size) blocks

-- the blocks that are not in the set, each with its entry among the heads, which has one for each block. The entry of a
-- block in the set says nothing.
abbrev pub leaks_in : List Bool → List Bool → List Block → List Leak
leaks_in [] heads blocks = []
leaks_in (s ∷ set) [] blocks = []
leaks_in (s ∷ set) (h ∷ heads) [] = []
leaks_in (true ∷ set) (h ∷ heads) (b ∷ blocks) = leaks_in set heads blocks
leaks_in (false ∷ set) (h ∷ heads) (b ∷ blocks) = record { block = b; head = h } ∷ leaks_in set heads blocks

-- the sum of the sizes of leaked blocks, and how many of them are heads
abbrev pub bytes_in : List Leak → ℕ
bytes_in leaks = sum_by (λ l. l.block.size) leaks

abbrev pub heads_in : List Leak → ℕ
heads_in leaks = length (filter (λ l. l.head) leaks)

-- the range lies in the log
pub record IsIn (log : List ℕ) (caller : ℕ × ℕ) : Type 0 where
  pub order : caller.0 ≤ caller.1
  pub within : caller.1 ≤ length log

-- the callers of the blocks are ranges of the log
abbrev pub HaveCallersIn : List ℕ → List Block → Type 0
HaveCallersIn log blocks = AllByRecursion (λ b. IsIn log b.caller) blocks

-- so are those of the leaked blocks
abbrev pub AreLeaksIn : List ℕ → List Leak → Type 0
AreLeaksIn log leaks = AllByRecursion (λ l. IsIn log l.block.caller) leaks

-- the caller's bytes in the log, or a question mark if there is none. Rows go by this text, so that a caller which
-- is itself a question mark shares its row with the blocks that have none.
abbrev pub text_at : List ℕ → ℕ × ℕ → List ℕ
text_at log caller = if nat_lt caller.0 caller.1 then slice_range log caller.0 caller.1 else 63 ∷ []

-- the leaked blocks have the same text of the caller
abbrev pub has_same_text : List ℕ → Leak → Leak → Bool
has_same_text log a b = bytes_eq (text_at log a.block.caller) (text_at log b.block.caller)

-- those with the text
abbrev pub with_text : List ℕ → List ℕ → List Leak → List Leak
with_text log text leaks = filter (λ l. bytes_eq (text_at log l.block.caller) text) leaks

-- the first of each text. Live blocks are sorted by ascending address, so it is the one at the least.
abbrev pub first_of_each : List ℕ → List Leak → List Leak
first_of_each log [] = []
first_of_each log (l ∷ leaks) = l ∷ filter (λ c. not (has_same_text log l c)) (first_of_each log leaks)

-- what the leaked blocks with the text of this one come to
abbrev pub row_of : List ℕ → List Leak → Leak → CallerRow
row_of log leaks l = record {
  blocks = length (with_text log (text_at log l.block.caller) leaks);
  bytes = bytes_in (with_text log (text_at log l.block.caller) leaks);
  heads = heads_in (with_text log (text_at log l.block.caller) leaks);
  caller = l.block.caller;
}

-- more bytes first, ties by the ascending bytes of the text
abbrev pub rank : List ℕ → CallerRow → CallerRow → Ordering
rank log r s = ordering_then (nat_cmp s.bytes r.bytes) (slice_cmp nat_cmp (text_at log r.caller) (text_at log s.caller))

-- the row at its place among ranked rows
abbrev pub placed : List ℕ → CallerRow → List CallerRow → List CallerRow
placed log r [] = r ∷ []
placed log r (s ∷ rows) = if is_lt (rank log r s) then r ∷ s ∷ rows else s ∷ placed log r rows

abbrev pub ranked : List ℕ → List CallerRow → List CallerRow
ranked log [] = []
ranked log (r ∷ rows) = placed log r (ranked log rows)

-- one row for each text of the callers of the leaked blocks
unfoldable pub rows_of : List ℕ → List Leak → List CallerRow
rows_of log leaks = ranked log (map (row_of log leaks) (first_of_each log leaks))
