-- Pieces of an input that are sifted as they are read.
use Rattle.std.specs.Prelude.{◌≡◌, ℕ, ◌+◌, ◌<◌, ◌≤◌, Bool, false, IsTrue, List, ◌++◌, length, take, Result, IfOk, IfErr}
use Rattle.leak_sift.specs.Sifted.{Sifted, Takes}
use Rattle.leak_streams.specs.declared.fault.ReadFault.{ReadFault}
use Rattle.leak_streams.specs.Pieces.{TakenSoFar, HasComeTo, TakesPiece, FindsEnd, GivesUp}
use Rattle.leak_streams.specs.Reads.{Calls, IsReadWhole}
use Rattle.leak_alike.specs.SiftedCores.{AreBytes}

-- a read into a buffer: bytes were read, there are none left, or the reading is given up
pub record ReadsInto {R : Type 0} (calls : Calls R) (limit : ℕ) (before : R) (was : TakenSoFar)
    (after : R) (now : TakenSoFar) (buffer : List ℕ) (answer : Result ℕ ReadFault) : Type 0 where
  pub more : IfOk answer (λ count. 0 < count → TakesPiece calls limit before was after (record now { piece = take count buffer }))
  pub end : IfOk answer (λ count. count ≡ 0 → FindsEnd calls limit before was after)
  pub refused : IfErr answer (GivesUp calls limit before was after)
  pub within : IfOk answer (λ count. count ≤ length buffer)
  pub taken : IfOk answer (λ count. now.taken ≡ was.taken + count)

-- the piece was sifted, and the next one was read; or there is none, and the input has ended
pub record SiftsPiece {R : Type 0} (calls : Calls R) (limit : ℕ) (before : R) (was : TakenSoFar) (state : Sifted)
    (after : R) (now : TakenSoFar) (later : Sifted) (more : Bool) : Type 0 where
  pub taken : Takes state was.piece later
  pub bytes : AreBytes was.piece
  pub next : IsTrue more → TakesPiece calls limit before was after now
  pub some : IsTrue more → 0 < length now.piece
  pub counted : IsTrue more → now.taken ≡ was.taken + length now.piece
  pub end : more ≡ false → FindsEnd calls limit before was after

-- whatever bytes the reading had come to, it has come to these, then more, and then the piece; and those before the piece were sifted
pub record HasSifted {R : Type 0} (calls : Calls R) (limit : ℕ) (before : R) (was : TakenSoFar) (state : Sifted)
    (after : R) (now : TakenSoFar) (later : Sifted) (more : List ℕ) : Type 0 where
  pub come : (first : R) (bytes : List ℕ) → HasComeTo calls limit first before was bytes
      → HasComeTo calls limit first after now (bytes ++ (more ++ now.piece))
  pub taken : Takes state more later
  pub bytes : AreBytes more

-- whatever bytes the reading had come to, the input is these and then more, and these were sifted
pub record SiftsRest {R : Type 0} (calls : Calls R) (limit : ℕ) (before : R) (was : TakenSoFar) (state : Sifted)
    (after : R) (later : Sifted) (more : List ℕ) : Type 0 where
  pub whole : (first : R) (bytes : List ℕ) → HasComeTo calls limit first before was bytes
      → IsReadWhole calls limit first after (bytes ++ more)
  pub taken : Takes state more later
  pub bytes : AreBytes more
