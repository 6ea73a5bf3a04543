-- How a text is handed to a writer, write by write. Own rule: the writing ends with every writer.
use Rattle.std.specs.Prelude.{◌≡◌, ℕ, ◌+◌, ◌<◌, ◌≤◌, List, [], ◌∷◌, length, drop, Result, Ok, Err}
use Rattle.std.specs.IoError.{error_kind}
use Rattle.std.specs.declared.io.Error.{Error}
use Rattle.std.specs.declared.io.ErrorKind.TheVariants.{Interrupted}
use Rattle.leak_streams.specs.declared.writers.WrittenSoFar.{WrittenSoFar}
use Rattle.leak_streams.specs.declared.fault.WriteFault.{WriteFault}

-- what a write does: the writer before it, the bytes that it was given, its answer, and the writer after it
abbrev pub Calls : Type 0 → Type 1
Calls W = W → List ℕ → Result ℕ Error → W → Type 0

-- the writing goes on: bytes were taken, or the write was interrupted, and fewer than 1,000,000 were
abbrev pub GoesOn : WrittenSoFar → Result ℕ Error → WrittenSoFar → Type 0
GoesOn now (Ok count) next =
    (0 < count) × (next.written ≡ now.written + count) × (next.interruptions ≡ now.interruptions)
GoesOn now (Err e) next =
    (error_kind e ≡ Interrupted) × (next.written ≡ now.written)
    × (next.interruptions ≡ now.interruptions + 1) × (next.interruptions < 1000000)

-- the writing stops: no byte was taken, the write failed, or it was the last interrupted one
abbrev pub Stops : WrittenSoFar → Result ℕ Error → Type 0
Stops now (Ok count) = count ≡ 0
Stops now (Err e) = error_kind e ≡ Interrupted → 1000000 ≤ now.interruptions + 1

-- one write of all that is left of the text, and something is
pub record IsTurn {W : Type 0} (calls : Calls W) (text : List ℕ) (now : WrittenSoFar) (before : W) (answer : Result ℕ Error) (after : W) : Type 0 where
  pub left : now.written < length text
  pub call : calls before (drop now.written text) answer after

-- the writing came so far by these turns, the last one first: the answer of each, and the writer before it
abbrev pub ComesBy : {W : Type 0} → Calls W → List ℕ → W → List (Result ℕ Error × W) → W → WrittenSoFar → Type 0
ComesBy calls text first [] last now = (last ≡ first) × (now.written ≡ 0) × (now.interruptions ≡ 0)
ComesBy calls text first (turn ∷ turns) last now =
    (was : WrittenSoFar) × ComesBy calls text first turns turn.1 was
    × IsTurn calls text was turn.1 turn.0 last × GoesOn was turn.0 now

-- from the first writer to the last, the writing came so far by turns that let it go on
pub record HasCome {W : Type 0} (calls : Calls W) (text : List ℕ) (first last : W) (now : WrittenSoFar) : Type 0 where
  pub turns : List (Result ℕ Error × W)
  pub by_turns : ComesBy calls text first turns last now

-- the writing went on until the whole text was taken
pub record IsWrittenWhole {W : Type 0} (calls : Calls W) (text : List ℕ) (first last : W) : Type 0 where
  pub now : WrittenSoFar
  pub come : HasCome calls text first last now
  pub all : now.written ≡ length text

-- the writing went on until a turn stopped it, and the fault tells what was taken by then
pub record IsCutOff {W : Type 0} (calls : Calls W) (text : List ℕ) (first last : W) (f : WriteFault) : Type 0 where
  pub now : WrittenSoFar
  pub before : W
  pub answer : Result ℕ Error
  pub come : HasCome calls text first before now
  pub turn : IsTurn calls text now before answer last
  pub stops : Stops now answer
  pub told : f.written ≡ now.written
