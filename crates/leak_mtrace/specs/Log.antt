-- The lines of a whole log: what comes before each line feed. Own rule: what follows the last line feed
-- is torn, and is not a line.
use Rattle.std.specs.Prelude.{◌≡◌, ℕ, ◌+◌, ◌-◌, ◌^◌, ◌<◌, ◌≤◌, ◌⊎◌, List, [], ◌∷◌, length, take, drop, ◌==◌, Bool, nat_eq, if◌then◌else◌, slice_get, IfSome}
use Rattle.std.specs.List.{slice_split, starts_with, AllByRecursion, AllZip, after_last}
use Rattle.leak_mtrace.specs.declared.line.Kind.TheVariants.{Alloc, MoveIn}
use Rattle.leak_mtrace.specs.declared.line.Line.{Line}
use Rattle.leak_mtrace.specs.declared.error.LogError.{LogError}
use Rattle.leak_mtrace.specs.declared.error.LogError.TheVariants.{BadLine, Extent, NoMemory}
use Rattle.leak_mtrace.specs.Line.{IsLine, IsPlaced}

-- what comes before each line feed, and what follows the last
abbrev pub pieces : List ℕ → List (List ℕ)
pieces bytes = slice_split (λ b. b == 10) bytes

abbrev pub whole_lines : List ℕ → List (List ℕ)
whole_lines bytes = take (length (pieces bytes) - 1) (pieces bytes)

abbrev pub torn_piece : List ℕ → List ℕ
torn_piece bytes = after_last (λ b. b == 10) bytes

-- 1 if something follows the last line feed
abbrev pub torn_of : List ℕ → ℕ
torn_of bytes = if length (torn_piece bytes) == 0 then 0 else 1

-- how many bytes there are up to the last line feed, that one included
abbrev pub whole_len_of : List ℕ → ℕ
whole_len_of bytes = length bytes - length (torn_piece bytes)

-- each line with the place in the log where it begins
abbrev pub with_places : ℕ → List (List ℕ) → List (ℕ × List ℕ)
with_places at [] = []
with_places at (text ∷ texts) = (at, text) ∷ with_places (at + length text + 1) texts

-- the line with its caller as a range of the log
abbrev pub placed : ℕ → Line → Line
placed at x = if x.caller.1 == 0 then x else record x { caller = (at + x.caller.0, at + x.caller.1) }

-- the line in the log is this one
abbrev pub IsLineAt : ℕ × List ℕ → Line → Type 0
IsLineAt t x = (y : Line) × IsLine t.1 y × (x ≡ placed t.0 y)

-- the block ends past the address space
abbrev pub IsPastEnd : Line → Type 0
IsPastEnd x = ((x.kind ≡ Alloc) ⊎ (x.kind ≡ MoveIn)) × (2 ^ 64 ≤ x.addr + x.size)

-- a line of the log, within the address space
pub record IsGoodLine (t : ℕ × List ℕ) (x : Line) : Type 0 where
  pub is_line : IsLineAt t x
  pub fits : IsPastEnd x → ⊥

-- no line's block ends past the address space
abbrev pub LinesFit : List Line → Type 0
LinesFit lines = AllByRecursion (λ x. IsPastEnd x → ⊥) lines

unfoldable pub IsLog : List ℕ → List Line → Type 0
IsLog bytes lines = AllZip IsGoodLine (with_places 0 (whole_lines bytes)) lines

-- the log's line of that number is faulty
abbrev pub IsFaulty : LogError → ℕ → ℕ × List ℕ → Type 0
IsFaulty (BadLine n) number t = (n ≡ number) × ((x : Line) → IsLine t.1 x → ⊥)
IsFaulty (Extent n) number t = (n ≡ number) × (x : Line) × IsLine t.1 x × IsPastEnd x
IsFaulty NoMemory number t = ⊥

-- the first faulty line: those before it are good
unfoldable pub IsFirstFault : List ℕ → LogError → Type 0
IsFirstFault bytes e =
    (good : List Line) × AllZip IsGoodLine (take (length good) (with_places 0 (whole_lines bytes))) good
    × IfSome (slice_get (with_places 0 (whole_lines bytes)) (length good)) (IsFaulty e (length good + 1))
    × (length good < length (whole_lines bytes))

-- what a log was read as
pub record Whole : Type 0 where
  pub lines : List Line
  pub torn : ℕ
  pub whole_len : ℕ

-- the log was read as this
abbrev pub IsReadAs : List ℕ → Whole → Type 0
IsReadAs bytes log = IsLog bytes log.lines × (log.torn ≡ torn_of bytes) × (log.whole_len ≡ whole_len_of bytes)

-- the line's caller is a range of the bytes; one that ends at 0 is empty
pub record IsCallerIn (bytes : List ℕ) (x : Line) : Type 0 where
  pub order : x.caller.0 ≤ x.caller.1
  pub within : x.caller.1 ≤ length bytes

-- each line's caller is such a range
abbrev pub CallersAreIn : List ℕ → List Line → Type 0
CallersAreIn bytes lines = AllByRecursion (IsCallerIn bytes) lines

-- the bytes of a range, its end excluded
abbrev pub in_range : List ℕ → ℕ × ℕ → List ℕ
in_range bytes range = take (range.1 - range.0) (drop range.0 bytes)

-- the line's caller holds the place that its text names, or (0, 0) if it names none
abbrev pub HasItsPlace : List ℕ → ℕ × List ℕ → Line → Type 0
HasItsPlace bytes t x = ((x.caller ≡ (0, 0)) × ((y : Line) → IsPlaced t.1 y → ⊥))
    ⊎ ((y : Line) × (p : IsPlaced t.1 y) × (in_range bytes x.caller ≡ p.0))

-- the complete lines of log 1, as bytes, begin log 2
abbrev pub is_continued_by : List ℕ → List ℕ → Bool
is_continued_by log1 log2 = starts_with nat_eq log2 (take (whole_len_of log1) log1)
