-- An input: a core, and the log of its allocations; and two of one process. Which of their refusals comes first.
use Rattle.std.specs.Prelude.{◌≡◌, ◌≢◌, ℕ, List, None, Some, ◌^◌, ◌<◌, ◌≤◌, ◌⊎◌, ◌++◌, length, IsTrue, IsFalse, Result, IfOk, IfErr}
use Rattle.leak_elf.specs.Refusals.{fault_of}
use Rattle.leak_elf.specs.declared.error.ElfError.{ElfError}
use Rattle.leak_elf.specs.declared.error.ElfError.TheVariants.{NoMemory as NoMemoryForCore}
use Rattle.leak_notes.specs.Threads.{note_fault_of, threads_of}
use Rattle.leak_notes.specs.declared.error.NoteError.{NoteError}
use Rattle.leak_notes.specs.declared.error.NoteError.TheVariants.{NoMemory as NoMemoryForNotes}
use Rattle.leak_mtrace.specs.declared.line.Line.{Line}
use Rattle.leak_mtrace.specs.declared.error.LogError.{LogError}
use Rattle.leak_mtrace.specs.declared.error.LogError.TheVariants.{NoMemory as NoMemoryForLog}
use Rattle.leak_mtrace.specs.Log.{IsLog, IsFirstFault, CallersAreIn, torn_of, is_continued_by}
use Rattle.leak_blocks.specs.Live.{replay_of, live_of}
use Rattle.leak_blocks.specs.declared.replaying.Replayed.{Replayed}
use Rattle.leak_blocks.specs.declared.small.Span.{Span}
use Rattle.leak_blocks.specs.Outcome.{ComesTo}
use Rattle.leak_blocks.specs.Small.{CoverSameOutside}
use Rattle.leak_roots.specs.Places.{Places}
use Rattle.leak_roots.specs.Roots.{AreRootsOf}
use Rattle.leak_roots.specs.declared.skip.Skip.{Skip}
use Rattle.leak_roots.specs.Skipped.{spans_of}
use Rattle.leak_search.specs.LeftOut.{left_out}
use Rattle.leak_pool.specs.declared.error.PoolError.{PoolError}
use Rattle.leak_pool.specs.declared.error.PoolError.TheVariants.{TooMany as TooManyForPool, NoMemory as NoMemoryForPool}
use Rattle.leak_search.specs.declared.inputs.Input.{Input}
use Rattle.leak_search.specs.declared.error.FindError.{FindError}
use Rattle.leak_search.specs.declared.error.FindError.TheVariants.{Core, Notes, Log, NotPrefix, TooMany, NoMemory}
use Rattle.leak_search.specs.declared.pairs.Inputs.{Inputs}

-- a core with no fault in it
pub record IsCore (core : List ℕ) : Type 0 where
  pub headers : fault_of core ≡ None
  pub notes : note_fault_of core ≡ None

-- the first fault of the input with the number
abbrev pub IsInputFault : ℕ → List ℕ → List ℕ → FindError → Type 0
IsInputFault input core log (Core k e) = (k ≡ input) × (fault_of core ≡ Some e)
IsInputFault input core log (Notes k e) = (k ≡ input) × (fault_of core ≡ None) × (note_fault_of core ≡ Some e)
IsInputFault input core log (Log k e) = (k ≡ input) × IsCore core × IsFirstFault log e
IsInputFault input core log NotPrefix = ⊥
IsInputFault input core log TooMany = ⊥
IsInputFault input core log NoMemory = ⊥

-- the refusal that tells of a fault of the input with the number; want of memory is of no input
abbrev pub at_core : ℕ → ElfError → FindError
at_core input NoMemoryForCore = NoMemory
at_core input e = Core input e

abbrev pub at_notes : ℕ → NoteError → FindError
at_notes input NoMemoryForNotes = NoMemory
at_notes input e = Notes input e

abbrev pub at_log : ℕ → LogError → FindError
at_log input NoMemoryForLog = NoMemory
at_log input e = Log input e

abbrev pub at_marking : PoolError → FindError
at_marking TooManyForPool = TooMany
at_marking NoMemoryForPool = NoMemory

-- the log was read: its live blocks, and the spans whose freed places are left out, as far as they are outside these
abbrev pub IsReadLog : Skip → List ℕ → Replayed × List Span → Type 0
IsReadLog skip log read =
    (lines : List Line) × ComesTo log lines read.0 × CoverSameOutside read.0.live.blocks read.1 (spans_of skip lines)

-- this was read of the log, or its first fault
pub record IsReadAs (skip : Skip) (log : List ℕ) (answer : Result (Replayed × List Span) LogError) : Type 0 where
  pub read : IfOk answer (IsReadLog skip log)
  pub unread : IfErr answer (λ e. e ≢ NoMemoryForLog → IsFirstFault log e)

-- the core and the log are free of faults, the log has these lines, and they were read as they are
pub record IsReadOf (core log : List ℕ) (lines : List Line) (input : Input) : Type 0 where
  pub accepted : IsCore core
  pub image : input.image ≡ core
  pub threads : input.threads ≡ threads_of core
  pub is_log : IsLog log lines
  pub torn : input.torn ≡ torn_of log
  pub callers : CallersAreIn log lines
  pub live : input.live ≡ replay_of lines
  pub heap_spans : CoverSameOutside input.live.blocks input.heap_spans (spans_of input.skip lines)

-- they were read, with the lines that the log has
abbrev pub IsRead : List ℕ → List ℕ → Input → Type 0
IsRead core log input = (lines : List Line) × IsReadOf core log lines input

-- the input was read from files that are free of faults, of which the log has these lines
pub record IsInput (lines : List Line) (input : Input) : Type 0 where
  pub log : List ℕ
  pub read : IsReadOf input.image log lines input

-- these are the places of the input's root words, without what its search leaves out
pub record AreRootsFor (lines : List Line) (input : Input) (places : Places) : Type 0 where
  pub roots : AreRootsOf (left_out input.skip input.image input.live.blocks lines) input.image input.live.blocks places
  pub links : places.skips_links ≡ input.skip.links

-- more blocks than there are numbers for them
abbrev pub IsTooMany : List ℕ → Type 0
IsTooMany log = (lines : List Line) × IsLog log lines × (2 ^ 32 ≤ length (live_of lines))

-- the first fault of one core and one log
abbrev pub IsFaultOfOne : List ℕ → List ℕ → FindError → Type 0
IsFaultOfOne core log e = IsInputFault 1 core log e ⊎ ((e ≡ TooMany) × IsCore core × IsTooMany log)

-- a core and a log with no fault in them
pub record IsFaultless (core log : List ℕ) : Type 0 where
  pub core_is : IsCore core
  pub lines : List Line
  pub log_is : IsLog log lines

-- what is wrong with two inputs of which each is free of faults
abbrev pub IsFaultBetween : List ℕ → List ℕ → FindError → Type 0
IsFaultBetween log1 log2 (Core k e) = ⊥
IsFaultBetween log1 log2 (Notes k e) = ⊥
IsFaultBetween log1 log2 (Log k e) = ⊥
IsFaultBetween log1 log2 NotPrefix = IsFalse (is_continued_by log1 log2)
IsFaultBetween log1 log2 TooMany = IsTrue (is_continued_by log1 log2) × (IsTooMany log1 ⊎ IsTooMany log2)
IsFaultBetween log1 log2 NoMemory = ⊥

-- the first fault of two cores and two logs
abbrev pub IsFaultOfTwo : List ℕ → List ℕ → List ℕ → List ℕ → FindError → Type 0
IsFaultOfTwo core1 log1 core2 log2 e =
    IsInputFault 1 core1 log1 e
    ⊎ ((IsFaultless core1 log1 × IsInputFault 2 core2 log2 e) ⊎ (IsFaultless core1 log1 × IsFaultless core2 log2 × IsFaultBetween log1 log2 e))

-- the lines of the earlier log begin those of the later
abbrev pub Continues : List Line → List Line → Type 0
Continues before now = (after : List Line) × (now ≡ before ++ after)

-- two inputs were read, and their logs have these lines, of which the earlier begin the later
pub record ArePaired (before now : List Line) (inputs : Inputs) : Type 0 where
  pub first : IsInput before inputs.first
  pub second : IsInput now inputs.second
  pub continued : Continues before now

-- two inputs of one process were read, and their blocks are few enough to be numbered
pub record AreReadTwo (core1 log1 core2 log2 : List ℕ) (inputs : Inputs) : Type 0 where
  pub before : List Line
  pub now : List Line
  pub first : IsReadOf core1 log1 before inputs.first
  pub second : IsReadOf core2 log2 now inputs.second
  pub few_before : length inputs.first.live.blocks < 2 ^ 32
  pub few_now : length inputs.second.live.blocks < 2 ^ 32
  pub continued : IsTrue (is_continued_by log1 log2)
  pub lines : Continues before now
