-- A reading that several functions go on with, one after the other.
use Rattle.std.specs.Prelude.{ℕ, List}
use Rattle.leak_streams.specs.declared.fault.ReadFault.{ReadFault}
use Rattle.leak_streams.specs.Pieces.{TakenSoFar, HasComeTo}
use Rattle.leak_streams.specs.Reads.{Calls, IsReadWhole, IsGivenUp}

-- where a reading is: the reader, how much was taken of it, and all bytes so far
pub record Place (R : Type 0) : Type 0 where
  pub reader : R
  pub now : TakenSoFar
  pub bytes : List ℕ

abbrev pub place : {R : Type 0} → R → TakenSoFar → List ℕ → Place R
place reader now bytes = record { reader = reader; now = now; bytes = bytes }

-- from the first reader on, the reading has come to this place
abbrev pub IsAt : {R : Type 0} → Calls R → ℕ → R → Place R → Type 0
IsAt calls limit first at = HasComeTo calls limit first at.reader at.now at.bytes

-- it has come there from some reader on
abbrev pub HasBegun : {R : Type 0} → Calls R → ℕ → Place R → Type 0
HasBegun {R} calls limit at = (first : R) × IsAt calls limit first at

-- whatever reader it began with, it goes on from the one place to the other
abbrev pub GoesOn : {R : Type 0} → Calls R → ℕ → Place R → Place R → Type 0
GoesOn {R} calls limit from to = (first : R) → IsAt calls limit first from → IsAt calls limit first to

-- whatever reader it began with, the last one has no more bytes, and these are all
abbrev pub EndsWith : {R : Type 0} → Calls R → ℕ → Place R → R → List ℕ → Type 0
EndsWith {R} calls limit from last bytes = (first : R) → IsAt calls limit first from → IsReadWhole calls limit first last bytes

-- whatever reader it began with, it is given up by the fault
abbrev pub GivesUpFrom : {R : Type 0} → Calls R → ℕ → Place R → R → ReadFault → Type 0
GivesUpFrom {R} calls limit from last f = (first : R) → IsAt calls limit first from → IsGivenUp calls limit first last f
