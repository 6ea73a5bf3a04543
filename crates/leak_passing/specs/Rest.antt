-- Why nothing is kept of a core that was begun.
use Rattle.std.specs.Prelude.{ℕ, List}
use Rattle.leak_streams.specs.Pieces.{TakenSoFar, HasComeTo}
use Rattle.leak_streams.specs.Reads.{Calls, IsReadWhole, IsGivenUp}
use Rattle.leak_passing.specs.declared.fault.PassingFault.{PassingFault}
use Rattle.leak_passing.specs.declared.fault.PassingFault.TheVariants.{Core, NoMemory}
use Rattle.leak_passing.specs.declared.fault.RestFault.{RestFault}
use Rattle.leak_passing.specs.declared.fault.RestFault.TheVariants.{Read, Short}

-- it was given up by the fault, or it was read to its end
abbrev pub IsRestFault : {R : Type 0} → Calls R → ℕ → R → R → RestFault → Type 0
IsRestFault calls limit first last (Read f) = IsGivenUp calls limit first last f
IsRestFault calls limit first last Short = (bytes : List ℕ) × IsReadWhole calls limit first last bytes

-- whatever bytes the reading had come to, this is why nothing is kept
abbrev pub LosesRest : {R : Type 0} → Calls R → ℕ → R → TakenSoFar → R → RestFault → Type 0
LosesRest {R} calls limit before was after f = (first : R) (bytes : List ℕ)
    → HasComeTo calls limit first before was bytes → IsRestFault calls limit first after f

-- what that is for a core and its log, if the log was read to its end
abbrev pub at_rest : RestFault → PassingFault
at_rest (Read f) = Core f
at_rest Short = NoMemory
