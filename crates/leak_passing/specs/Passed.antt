-- A core and its log that were read in one pass. Own rule: the core waits at its head while the log is read.
use Rattle.std.specs.Prelude.{◌≡◌, ◌≢◌, ◌⊎◌, ℕ, List, [], ◌∷◌, IfOk, IfErr}
use Rattle.leak_mtrace.specs.declared.error.LogError.TheVariants.{NoMemory}
use Rattle.leak_mtrace.specs.Log.{IsFirstFault}
use Rattle.leak_roots.specs.declared.skip.Skip.{Skip}
use Rattle.leak_search.specs.Inputs.{IsReadLog}
use Rattle.leak_streams.specs.Reads.{Calls, ReadSoFar, HasCome, IsReadWhole, IsGivenUp}
use Rattle.leak_passing.specs.declared.fault.PassingFault.{PassingFault}
use Rattle.leak_passing.specs.declared.fault.PassingFault.TheVariants.{Core, Log, NoMemory as NoMemoryToKeep}
use Rattle.leak_passing.specs.declared.begun.Begun.{Begun}
use Rattle.leak_passing.specs.declared.passed.Passed.{Passed}
use Rattle.leak_passing.specs.declared.passed.PassedByTexts.{PassedByTexts}
use Rattle.leak_passing.specs.declared.passing.Limits.{Limits}
use Rattle.leak_passing.specs.Begun.{IsBegun}
use Rattle.leak_passing.specs.ByTexts.{AreTextsOf}
use Rattle.leak_passing.specs.Kept.{IsKept}
use Rattle.leak_replaying.specs.Texts.{blocks_of}

-- what was read of a core and of its log: the log as it is, and of the core the whole, or its head and what a search needs
pub record IsPassed (core log : List ℕ) (skip : Skip) (passed : Passed) : Type 0 where
  pub text : passed.log.items ≡ log
  pub read : IfOk passed.read (IsReadLog skip log)
  pub unread : IfErr passed.read (λ e. e ≢ NoMemory → IsFirstFault log e)
  pub kept : IsKept core skip (blocks_of passed.read) passed.held.items passed.words passed.len

-- The same where the log was let go: in its place are the texts of its live blocks' callers. A log of which there was no memory for
-- these is one that was not read for want of memory.
pub record IsPassedByTexts (core log : List ℕ) (skip : Skip) (passed : PassedByTexts) : Type 0 where
  pub texts : AreTextsOf log (blocks_of passed.read) passed.texts
  pub read : IfOk passed.read (IsReadLog skip log)
  pub unread : IfErr passed.read (λ e. e ≢ NoMemory → IsFirstFault log e)
  pub kept : IsKept core skip (blocks_of passed.read) passed.held.items passed.words passed.len

-- two readers
pub record Pair (R : Type 0) : Type 0 where
  pub core : R
  pub log : R

abbrev pub readers_of : {R : Type 0} → Pair R → List R
readers_of pair = pair.core ∷ pair.log ∷ []

-- there are two readers, the core's and the log's, and this is so of them as they were and as they are
pub record AreTwo {R : Type 0} (before after : List R) (Holds : Pair R → Pair R → Type 0) : Type 0 where
  pub was : Pair R
  pub is : Pair R
  pub were : before ≡ readers_of was
  pub are : after ≡ readers_of is
  pub holds : Holds was is

-- the core was begun, and the log was read to its end
pub record BeginsBoth {R : Type 0} (calls : Calls R) (limits : Limits) (skip : Skip) (begun : Begun) (log : List ℕ) (was is : Pair R) : Type 0 where
  pub core_begun : IsBegun calls limits.core was.core is.core skip begun
  pub log_read : IsReadWhole calls limits.log was.log is.log log

-- each was read to its end, and what was kept is of this core and this log
pub record Passes {R : Type 0} (calls : Calls R) (limits : Limits) (IsOf : List ℕ → List ℕ → Type 0) (was is : Pair R) : Type 0 where
  pub core : List ℕ
  pub log : List ℕ
  pub core_read : IsReadWhole calls limits.core was.core is.core core
  pub log_read : IsReadWhole calls limits.log was.log is.log log
  pub passed_is : IsOf core log

-- an input was not read, or to its end
abbrev pub IsReadOrNot : {R : Type 0} → Calls R → ℕ → R → R → Type 0
IsReadOrNot calls limit first last = (last ≡ first) ⊎ ((bytes : List ℕ) × IsReadWhole calls limit first last bytes)

-- an input was read to its end, or some way
abbrev pub IsReadSomeWay : {R : Type 0} → Calls R → ℕ → R → R → Type 0
IsReadSomeWay calls limit first last =
    ((bytes : List ℕ) × IsReadWhole calls limit first last bytes) ⊎ ((now : ReadSoFar) × HasCome calls limit first last now)

-- an input was read to its end
abbrev pub IsRead : {R : Type 0} → Calls R → ℕ → R → R → Type 0
IsRead calls limit first last = (bytes : List ℕ) × IsReadWhole calls limit first last bytes

-- why a core and its log were not passed: one of them was given up by the fault, or both were read to their ends
abbrev pub IsPassingFault : {R : Type 0} → Calls R → Limits → PassingFault → Pair R → Pair R → Type 0
IsPassingFault calls limits (Core f) was is =
    IsGivenUp calls limits.core was.core is.core f × IsReadOrNot calls limits.log was.log is.log
IsPassingFault calls limits (Log f) was is =
    IsGivenUp calls limits.log was.log is.log f × IsReadSomeWay calls limits.core was.core is.core
IsPassingFault calls limits NoMemoryToKeep was is =
    IsRead calls limits.core was.core is.core × IsRead calls limits.log was.log is.log

-- this is so of each core and log of which this was read
abbrev pub OfPassed : Skip → Passed → (List ℕ → List ℕ → Type 0) → Type 0
OfPassed skip passed Holds = (core log : List ℕ) → IsPassed core log skip passed → Holds core log

-- and where the texts were kept in place of the log
abbrev pub OfPassedByTexts : Skip → PassedByTexts → (List ℕ → List ℕ → Type 0) → Type 0
OfPassedByTexts skip passed Holds = (core log : List ℕ) → IsPassedByTexts core log skip passed → Holds core log
