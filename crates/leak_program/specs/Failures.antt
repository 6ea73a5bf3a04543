-- What a failure of the program comes from.
use Rattle.std.specs.Prelude.{◌≡◌, ℕ, ◌-◌, ◌==◌, List, Option, None, Some, if◌then◌else◌, slice_get, string_bytes}
use Rattle.leak_find.specs.declared.fault.RunFault.{RunFault}
use Rattle.leak_find.specs.declared.fault.RunFault.TheVariants as run
use Rattle.leak_program.specs.declared.open_fault.OpenFault.{OpenFault}
use Rattle.leak_program.specs.declared.open_fault.OpenFault.TheVariants as opening
use Rattle.leak_program.specs.declared.failure.Failure.{Failure}
use Rattle.leak_program.specs.declared.failure.Failure.TheVariants.{BadArgument, Usage, Open, Read, Run, NoMemory}

-- the failure of files that are not opened
abbrev pub at_opening : OpenFault → Failure
at_opening (opening.Refused path reason) = Open path reason
at_opening opening.NoMemory = NoMemory

-- the path with the number, from 1
abbrev pub path_at : List (List ℕ) → ℕ → Option (List ℕ)
path_at paths n = if n == 0 then None else slice_get paths (n - 1)

-- no path has the number of the reader, if the fault is of one
abbrev pub LacksPath : List (List ℕ) → RunFault → Type 0
LacksPath paths (run.Read n f) = path_at paths n ≡ None
LacksPath paths (run.Find e) = Unit {0}
LacksPath paths (run.NoBlock a) = Unit {0}
LacksPath paths (run.Write f) = Unit {0}

-- the fault is of a reader
abbrev pub IsOfReader : RunFault → Type 0
IsOfReader (run.Read n f) = Unit {0}
IsOfReader (run.Find e) = ⊥
IsOfReader (run.NoBlock a) = ⊥
IsOfReader (run.Write f) = ⊥

-- the failure of a run whose readers are the files of the paths: a fault of a reader is told with its path, unless no memory is left
abbrev pub IsNamedBy : List (List ℕ) → RunFault → Failure → Type 0
IsNamedBy paths fault BadArgument = ⊥
IsNamedBy paths fault (Usage f) = ⊥
IsNamedBy paths fault (Open path reason) = ⊥
IsNamedBy paths fault (Read n path f) = (fault ≡ run.Read n f) × (path_at paths n ≡ Some (string_bytes path))
IsNamedBy paths fault (Run g) = (g ≡ fault) × LacksPath paths fault
IsNamedBy paths fault NoMemory = IsOfReader fault
