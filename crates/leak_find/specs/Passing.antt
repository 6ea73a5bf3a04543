-- A core that is passed: its head is read, then its log, the rest of it, and then an earlier log, if there is one. Why such a
-- reading ends.
use Rattle.std.specs.Prelude.{◌≡◌, ◌⊎◌, ℕ, ◌<◌, Bool, true, false, not, List, ◌++◌, length}
use Rattle.leak_streams.specs.declared.fault.ReadFault.{ReadFault}
use Rattle.leak_streams.specs.declared.fault.ReadFault.TheVariants.{NoMemory}
use Rattle.leak_passing.specs.Passed.{Pair, readers_of}
use Rattle.leak_passing.specs.declared.passing.Limits.{Limits}
use Rattle.leak_request.specs.declared.options.Options.{Options}
use Rattle.leak_find.specs.declared.fault.RunFault.{RunFault}
use Rattle.leak_find.specs.declared.fault.RunFault.TheVariants.{Read, Find, NoBlock, Write}
use Rattle.leak_find.specs.declared.task.Task.{Task}
use Rattle.leak_find.specs.declared.task.Task.TheVariants.{Search, Why, Holders, Grow}
use Rattle.leak_find.specs.Inputs.{IsReadFaultWithin}
use Rattle.leak_find.specs.Streams.{Source}
use Rattle.leak_find.specs.Tasks.{limit_at}

-- whether the task passes over its core, which is not held then: the search of one core, and the questions who holds the memory
abbrev pub passes_core : Task → Bool
passes_core (Search o) = not o.two
passes_core (Why o address) = false
passes_core (Holders o question) = true
passes_core (Grow o) = false

-- how many bytes a core that is passed and its log may have; no size is said of them
abbrev pub limits_in : Options → Limits
limits_in o = record { core = o.core_limit; log = o.log_limit; core_size = 0; log_size = 0 }

-- the first two readers, the core's and the log's, were the one pair and are the other, and this is so of these; the readers after
-- them are those that they were
pub record AreFirstTwo {R : Type 0} (before after : List R) (Holds : Pair R → Pair R → Type 0) : Type 0 where
  pub was : Pair R
  pub is : Pair R
  pub others : List R
  pub were : before ≡ readers_of was ++ others
  pub are : after ≡ readers_of is ++ others
  pub holds : Holds was is

-- a reader was read to its end
abbrev pub IsReadToEnd : {R : Type 0} → Source R → ℕ → R → R → Type 0
IsReadToEnd source limit first last = (bytes : List ℕ) × source.whole limit first last bytes

-- a reader was read some way: the reading waits, and could be given up for want of memory
abbrev pub IsReadOn : {R : Type 0} → Source R → ℕ → R → R → Type 0
IsReadOn source limit first last = source.stopped limit first last NoMemory

-- The reader with the number, from 1, was not read to its end: the core's, and the log's was not read, or to its end; or the log's,
-- and the core's was read some way, or to its end.
abbrev pub IsStoppedOf : {R : Type 0} → Source R → (ℕ → ℕ) → ℕ → ReadFault → Pair R → Pair R → Type 0
IsStoppedOf source limit number e was is =
    ((number ≡ 1) × source.stopped (limit 0) was.core is.core e × ((is.log ≡ was.log) ⊎ IsReadToEnd source (limit 1) was.log is.log))
    ⊎ ((number ≡ 2) × source.stopped (limit 1) was.log is.log e × (IsReadOn source (limit 0) was.core is.core ⊎ IsReadToEnd source (limit 0) was.core is.core))

-- The reader with the number, from 1, was not read to its end: of readers that are read one after the other; or of a core that is
-- passed and its log, or, behind these, which were read to their ends, the first that was not.
abbrev pub IsUnreadBy : {R : Type 0} → Bool → Source R → (ℕ → ℕ) → List R → List R → ℕ → ReadFault → Type 0
IsUnreadBy false source limit before after number e = IsReadFaultWithin source limit (length before) before after number e
IsUnreadBy true source limit before after number e =
    AreFirstTwo before after (IsStoppedOf source limit number e)
    ⊎ ((2 < number) × IsReadFaultWithin source limit (length before) before after number e)

-- of those of the task
abbrev pub IsUnread : {R : Type 0} → Source R → Task → List R → List R → ℕ → ReadFault → Type 0
IsUnread source task before after number e = IsUnreadBy (passes_core task) source (limit_at task) before after number e

-- the core's reader or the log's refuses the run
abbrev pub IsPassRefusal : {R : Type 0} → Source R → (ℕ → ℕ) → List R → List R → RunFault → Type 0
IsPassRefusal source limit before after (Read n e) = AreFirstTwo before after (IsStoppedOf source limit n e)
IsPassRefusal source limit before after (Find e) = ⊥
IsPassRefusal source limit before after (NoBlock a) = ⊥
IsPassRefusal source limit before after (Write f) = ⊥
