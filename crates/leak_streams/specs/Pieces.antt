-- How an input is read piece by piece. Own rule: the reading waits between two pieces, and its caller goes on.
use Rattle.std.specs.Prelude.{◌≡◌, ℕ, ◌<◌, ◌≤◌, List, [], ◌++◌, length, take, Result, Ok, Err}
use Rattle.leak_streams.specs.declared.fault.ReadFault.{ReadFault}
use Rattle.leak_streams.specs.Reads.{Calls, HasCome, IsReadWhole, IsCutOff, IsGivenUp}

-- how far a reading is: how many bytes were taken, how many reads were interrupted, and the piece that was read last
pub record TakenSoFar : Type 0 where
  pub taken : ℕ
  pub interruptions : ℕ
  pub piece : List ℕ

-- no read was made
abbrev pub nothing_read : TakenSoFar
nothing_read = record { taken = 0; interruptions = 0; piece = [] }

-- from the first reader to the last, the reading has come to these bytes, which are within the limit
pub record HasComeTo {R : Type 0} (calls : Calls R) (limit : ℕ) (first last : R) (now : TakenSoFar)
    (bytes : List ℕ) : Type 0 where
  pub taken : now.taken ≡ length bytes
  pub few : length bytes ≤ limit
  pub come : HasCome calls limit first last (record { bytes = bytes; interruptions = now.interruptions })

-- whatever bytes the reading had come to, it goes on to these and then those of the piece
abbrev pub TakesPiece : {R : Type 0} → Calls R → ℕ → R → TakenSoFar → R → TakenSoFar → Type 0
TakesPiece {R} calls limit before was after now = (first : R) (bytes : List ℕ)
    → HasComeTo calls limit first before was bytes → HasComeTo calls limit first after now (bytes ++ now.piece)

-- whatever bytes the reading had come to, they are the whole input
abbrev pub FindsEnd : {R : Type 0} → Calls R → ℕ → R → TakenSoFar → R → Type 0
FindsEnd {R} calls limit before was after = (first : R) (bytes : List ℕ)
    → HasComeTo calls limit first before was bytes → IsReadWhole calls limit first after bytes

-- whatever bytes the reading had come to, it is given up by the fault
abbrev pub GivesUp : {R : Type 0} → Calls R → ℕ → R → TakenSoFar → R → ReadFault → Type 0
GivesUp {R} calls limit before was after f = (first : R) (bytes : List ℕ)
    → HasComeTo calls limit first before was bytes → IsGivenUp calls limit first after f

-- what reads into a buffer come to, each but the last interrupted: no byte is the end of the input
abbrev pub ComesTo : {R : Type 0} → Calls R → ℕ → R → R → List ℕ → List ℕ → ℕ → Result ℕ ReadFault → Type 0
ComesTo calls limit first last bytes buffer interruptions (Ok count) =
    (count ≡ 0 → IsReadWhole calls limit first last bytes)
    × (0 < count
    → HasCome calls limit first last (record { bytes = bytes ++ take count buffer; interruptions = interruptions }))
ComesTo calls limit first last bytes buffer interruptions (Err f) = IsCutOff calls limit first last f
