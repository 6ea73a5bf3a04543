-- What calls come to if a reader tells the bytes that it has left, and a writer those that it holds.
use Rattle.std.specs.Prelude.{ℕ, List, take, Option}
use Rattle.std.specs.Io.KnownBytes.{Appends}
use Rattle.leak_streams.specs.declared.fault.ReadFault.{ReadFault}
use Rattle.leak_streams.specs.declared.fault.WriteFault.{WriteFault}
use Rattle.leak_streams.specs.Reading.{IsWholeInput, IsStopped}
use Rattle.leak_streams.specs.Reads.{IsReadWhole, IsGivenUp, Calls as Reads}
use Rattle.leak_streams.specs.Writes.{IsWrittenWhole, IsCutOff, Calls as Writes}

-- an input that was read completely is all that the reader had; one that was not took from it as much as its fault says
pub record ReadsTell {R : Type 0} (calls : Reads R) (remaining : R → Option (List ℕ)) : Type 0 where
  pub whole : (limit : ℕ) (first last : R) (bytes : List ℕ) → IsReadWhole calls limit first last bytes
      → IsWholeInput (remaining first) (remaining last) limit bytes
  pub given_up : (limit : ℕ) (first last : R) (f : ReadFault) → IsGivenUp calls limit first last f
      → IsStopped (remaining first) (remaining last) limit f

-- a text that was written completely is what the writer holds in addition; of one that was cut off it holds as many of the first
-- bytes as are told
pub record WritesTell {W : Type 0} (calls : Writes W) (contents : W → Option (List ℕ)) : Type 0 where
  pub whole : (text : List ℕ) (first last : W) → IsWrittenWhole calls text first last
      → Appends (contents first) (contents last) text
  pub cut_off : (text : List ℕ) (first last : W) (f : WriteFault) → IsCutOff calls text first last f
      → Appends (contents first) (contents last) (take f.written text)
