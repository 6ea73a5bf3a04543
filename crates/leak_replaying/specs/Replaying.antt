-- A log that is replayed while it is read.
use Rattle.std.specs.Prelude.{◌≡◌, ◌≢◌, ℕ, ◌+◌, ◌-◌, ◌<◌, ◌≤◌, Bool, true, false, if◌then◌else◌, List, ◌++◌, length}
use Rattle.leak_mtrace.specs.declared.line.Line.{Line}
use Rattle.leak_mtrace.specs.declared.error.LogError.TheVariants.{NoMemory}
use Rattle.leak_mtrace.specs.Log.{IsFirstFault, whole_len_of}
use Rattle.leak_mtrace.specs.Parts.{AreLinesOf}
use Rattle.leak_blocks.specs.declared.block.Block.{Block}
use Rattle.leak_blocks.specs.declared.ongoing_replay.OngoingReplay.{OngoingReplay}
use Rattle.leak_blocks.specs.declared.stage.Stage.{Stage}
use Rattle.leak_blocks.specs.Numbers.{HavePlacesOf, IsStageAfter}
use Rattle.leak_blocks.specs.Runs.{IsOngoingAfter}
use Rattle.leak_streams.specs.Pieces.{TakenSoFar, HasComeTo}
use Rattle.leak_streams.specs.Reads.{Calls, IsReadWhole, IsGivenUp}
use Rattle.leak_replaying.specs.declared.log_so_far.LogSoFar.{LogSoFar}
use Rattle.leak_replaying.specs.declared.replaying.Stop.{Stop}
use Rattle.leak_replaying.specs.declared.replaying.Stop.TheVariants.{Log, Read}
use Rattle.leak_replaying.specs.Numbering.{AreNumberedBy}

-- these complete lines were gone over and are let go, and the texts of the callers of the allocations that are held have numbers; if
-- spans are wanted all allocations are held
pub record HasPassed (log : LogSoFar) (passed : List ℕ) (lines : List Line) (allocated : List Block) : Type 0 where
  pub are : AreLinesOf passed lines
  pub bytes : log.at.bytes ≡ length passed
  pub count : log.at.lines ≡ length lines
  pub texts : AreNumberedBy passed allocated log.texts log.numbers.items
  pub all : log.spans ≡ true → HavePlacesOf lines allocated

-- from the first reader to the last, the log was read to these bytes: as far as they go, or to its end
abbrev pub HasReadTo : {R : Type 0} → Calls R → ℕ → R → R → TakenSoFar → Bool → List ℕ → Type 0
HasReadTo calls limit first last now true bytes = IsReadWhole calls limit first last bytes
HasReadTo calls limit first last now false bytes = HasComeTo calls limit first last now bytes

-- how many bytes the log may still have, and one for its end
abbrev pub left : ℕ → TakenSoFar → Bool → ℕ
left limit now ended = (limit - now.taken) + (if ended then 0 else 1)

-- whatever bytes the reading had come to, it has come to more of them, which are held, or to the end
pub record HoldsMore {R : Type 0} (calls : Calls R) (limit : ℕ) (before : R) (was : TakenSoFar) (held : List ℕ) (after : R)
    (now : TakenSoFar) (ended : Bool) (later : List ℕ) : Type 0 where
  pub more : List ℕ
  pub held_is : later ≡ held ++ more
  pub come : (first : R) (bytes : List ℕ) → HasComeTo calls limit first before was bytes
      → HasReadTo calls limit first after now ended (bytes ++ more) × (length (bytes ++ more) ≤ limit)

-- so it is with the log, and nothing else of it has changed
pub record ReadsOn {R : Type 0} (calls : Calls R) (limit : ℕ) (before : R) (was : LogSoFar) (after : R) (now : LogSoFar) : Type 0 where
  pub holds : HoldsMore calls limit before was.reading was.window.items after now.reading now.ended now.window.items
  pub nearer : left limit now.reading now.ended < left limit was.reading was.ended
  pub at : now.at ≡ was.at
  pub spans : now.spans ≡ was.spans
  pub texts : now.texts ≡ was.texts
  pub numbers : now.numbers ≡ was.numbers

-- more complete lines were gone over, and let go at the front of what is held
pub record PassesOn (was : LogSoFar) (passed : List ℕ) (more : Bool) (now : LogSoFar) (ongoing : OngoingReplay) : Type 0 where
  pub front : List ℕ
  pub lines : List Line
  pub cut : was.window.items ≡ front ++ now.window.items
  pub has : HasPassed now (passed ++ front) lines ongoing.allocated.items
  pub replayed : IsOngoingAfter lines ongoing
  pub further : more ≡ true → was.at.bytes < now.at.bytes
  pub end : more ≡ false → whole_len_of now.window.items ≡ 0

-- the log was read so far, and its complete lines were gone over up to what is held
pub record IsUnderway {R : Type 0} (calls : Calls R) (limit : ℕ) (first last : R) (log : LogSoFar) (lines : List Line)
    (allocated : List Block) : Type 0 where
  pub passed : List ℕ
  pub read : HasReadTo calls limit first last log.reading log.ended (passed ++ log.window.items)
  pub few : length (passed ++ log.window.items) ≤ limit
  pub has : HasPassed log passed lines allocated

-- with a replay that has gone over the same lines
abbrev pub IsOngoing : {R : Type 0} → Calls R → ℕ → R → R → LogSoFar → List Line → OngoingReplay → Type 0
IsOngoing calls limit first last log lines ongoing =
    IsUnderway calls limit first last log lines ongoing.allocated.items × IsOngoingAfter lines ongoing

-- between two arenas
abbrev pub IsBetween : {R : Type 0} → Calls R → ℕ → R → R → LogSoFar → List Line → Stage → Type 0
IsBetween calls limit first last log lines stage =
    IsUnderway calls limit first last log lines stage.allocated.items × IsStageAfter lines stage

-- the log was read to its end, and no complete line of it is left
pub record IsAtEnd (log : LogSoFar) : Type 0 where
  pub ended : log.ended ≡ true
  pub none_left : whole_len_of log.window.items ≡ 0

-- why a replay ended early: the log was not read, or this is its first fault, and it was read so far
abbrev pub IsStoppedBy : {R : Type 0} → Calls R → ℕ → R → R → LogSoFar → Stop → Type 0
IsStoppedBy calls limit first last log (Read f) = IsGivenUp calls limit first last f
IsStoppedBy calls limit first last log (Log e) = (bytes : List ℕ)
    × HasReadTo calls limit first last log.reading log.ended bytes × (e ≢ NoMemory → IsFirstFault bytes e)
