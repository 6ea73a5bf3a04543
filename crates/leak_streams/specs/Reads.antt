-- How an input is read, read by read. Own rule: the reading ends with every reader.
use Rattle.std.specs.Prelude.{◌≡◌, ◌≢◌, ℕ, ◌+◌, ◌-◌, ◌<◌, ◌≤◌, List, [], ◌∷◌, ◌++◌, length}
use Rattle.std.specs.Prelude.{take, Result, Ok, Err, IfOk}
use Rattle.std.specs.IoError.{error_kind}
use Rattle.std.specs.declared.io.Error.{Error}
use Rattle.std.specs.declared.io.ErrorKind.TheVariants.{Interrupted}
use Rattle.leak_streams.specs.declared.fault.ReadFault.{ReadFault}
use Rattle.leak_streams.specs.declared.fault.ReadFault.TheVariants.{TooLong, Device, TooManyTurns, NoMemory}
use Rattle.leak_streams.specs.declared.pieces.Turn.{Turn}
use Rattle.leak_streams.specs.declared.pieces.Turn.TheVariants.{End, Bytes, Again, Stop}

-- what a read does: the reader before it, the piece as it left it, its answer, and the reader after it
abbrev pub Calls : Type 0 → Type 1
Calls R = R → List ℕ → Result ℕ Error → R → Type 0

-- why an answer ends the reading, if the limit leaves this many bytes and this many reads were interrupted
abbrev pub StopsBy : ℕ → ℕ → Result ℕ Error → ReadFault → Type 0
StopsBy left interruptions (Ok count) TooLong = left < count
StopsBy left interruptions (Err e) Device = error_kind e ≢ Interrupted
StopsBy left interruptions (Err e) TooManyTurns =
    (error_kind e ≡ Interrupted) × (1000000 ≤ interruptions + 1)
StopsBy left interruptions (Ok count) f = ⊥
StopsBy left interruptions (Err e) f = ⊥

-- a read found the end of the input
abbrev pub IsEnd : Result ℕ Error → Type 0
IsEnd (Ok count) = count ≡ 0
IsEnd (Err e) = ⊥

-- what follows an answer: the input has ended, bytes within the limit were read, a read was interrupted, or it stops
abbrev pub Follows : ℕ → ℕ → Result ℕ Error → Turn → Type 0
Follows left interruptions answer End = IsEnd answer
Follows left interruptions answer (Stop fault) = StopsBy left interruptions answer fault
Follows left interruptions (Ok count) (Bytes read) = (read ≡ count) × (0 < count) × (count ≤ left)
Follows left interruptions (Ok count) (Again turns) = ⊥
Follows left interruptions (Err e) (Bytes read) = ⊥
Follows left interruptions (Err e) (Again turns) =
    (error_kind e ≡ Interrupted) × (turns ≡ interruptions + 1) × (turns < 1000000)

-- how far an input is read: the bytes so far, and how many reads were interrupted
pub record ReadSoFar : Type 0 where
  pub bytes : List ℕ
  pub interruptions : ℕ

-- the reading goes on: bytes within the limit were read, or the read was interrupted, and fewer than 1,000,000 were
abbrev pub GoesOn : ℕ → ReadSoFar → List ℕ → Result ℕ Error → ReadSoFar → Type 0
GoesOn limit was piece (Ok count) now =
    (0 < count) × (length was.bytes + count ≤ limit)
    × (now.bytes ≡ was.bytes ++ take count piece) × (now.interruptions ≡ was.interruptions)
GoesOn limit was piece (Err e) now =
    (error_kind e ≡ Interrupted) × (now.bytes ≡ was.bytes)
    × (now.interruptions ≡ was.interruptions + 1) × (now.interruptions < 1000000)

-- one read: the reader before it, the piece as it left it, and its answer
pub record OneRead (R : Type 0) : Type 0 where
  pub before : R
  pub piece : List ℕ
  pub answer : Result ℕ Error

-- a read into a piece of one byte at least, which has no room for more than a byte over the limit
pub record IsRead {R : Type 0} (calls : Calls R) (limit : ℕ) (was : ReadSoFar) (read : OneRead R)
    (after : R) : Type 0 where
  pub asks : 0 < length read.piece
  pub bounded : length was.bytes + length read.piece ≤ limit + 1
  pub within : IfOk read.answer (λ count. count ≤ length read.piece)
  pub call : calls read.before read.piece read.answer after

-- the reading came so far by these reads, the last one first
abbrev pub ComesBy : {R : Type 0} → Calls R → ℕ → R → List (OneRead R) → R → ReadSoFar → Type 0
ComesBy calls limit first [] last now = (last ≡ first) × (now.bytes ≡ []) × (now.interruptions ≡ 0)
ComesBy calls limit first (read ∷ reads) last now =
    (was : ReadSoFar) × ComesBy calls limit first reads read.before was
    × IsRead calls limit was read last × GoesOn limit was read.piece read.answer now

-- from the first reader to the last, the reading came so far by reads that let it go on
pub record HasCome {R : Type 0} (calls : Calls R) (limit : ℕ) (first last : R)
    (now : ReadSoFar) : Type 0 where
  pub reads : List (OneRead R)
  pub by_reads : ComesBy calls limit first reads last now

-- the reading went on until a read found the end, and these are the bytes
pub record IsReadWhole {R : Type 0} (calls : Calls R) (limit : ℕ) (first last : R)
    (bytes : List ℕ) : Type 0 where
  pub now : ReadSoFar
  pub read : OneRead R
  pub come : HasCome calls limit first read.before now
  pub is_read : IsRead calls limit now read last
  pub end : IsEnd read.answer
  pub is : bytes ≡ now.bytes

-- the reading went on until a read ended it with the fault
pub record IsCutOff {R : Type 0} (calls : Calls R) (limit : ℕ) (first last : R)
    (f : ReadFault) : Type 0 where
  pub now : ReadSoFar
  pub read : OneRead R
  pub come : HasCome calls limit first read.before now
  pub is_read : IsRead calls limit now read last
  pub stops : StopsBy (limit - length now.bytes) now.interruptions read.answer f

-- why there are no bytes: a read ended the reading, or memory was refused between two reads
abbrev pub IsGivenUp : {R : Type 0} → Calls R → ℕ → R → R → ReadFault → Type 0
IsGivenUp calls limit first last NoMemory = (now : ReadSoFar) × HasCome calls limit first last now
IsGivenUp calls limit first last f = IsCutOff calls limit first last f
