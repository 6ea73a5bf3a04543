-- What a run knows of its readers and of its writers.
use Rattle.std.specs.Prelude.{ℕ, ◌<◌, ◌⊎◌, List, length, take, Option}
use Rattle.std.specs.Io.KnownBytes.{Appends}
use Rattle.leak_streams.specs.declared.fault.ReadFault.{ReadFault}
use Rattle.leak_streams.specs.declared.fault.WriteFault.{WriteFault}
use Rattle.leak_streams.specs.Reading.{IsWholeInput, IsStopped}
use Rattle.leak_streams.specs.Reads.{Calls as Reads, IsReadWhole, IsGivenUp}
use Rattle.leak_streams.specs.Writes.{Calls as Writes, IsWrittenWhole, IsCutOff}

-- what is known of a reader that was read: the limit, the reader before and after, and its bytes, or the fault that ended the reading
pub record Source (R : Type 0) : Type 1 where
  pub whole : ℕ → R → R → List ℕ → Type 0
  pub stopped : ℕ → R → R → ReadFault → Type 0

-- what is known of a writer that a text was written to: the text, the writer before and after, and the fault if it was not all taken
pub record Sink (W : Type 0) : Type 1 where
  pub whole : List ℕ → W → W → Type 0
  pub cut_off : List ℕ → W → W → WriteFault → Type 0

-- by the calls that were made, each with its answer
abbrev pub by_reads : {R : Type 0} → Reads R → Source R
by_reads calls = record { whole = IsReadWhole calls; stopped = IsGivenUp calls }

abbrev pub by_writes : {W : Type 0} → Writes W → Sink W
by_writes calls = record { whole = IsWrittenWhole calls; cut_off = IsCutOff calls }

-- by the bytes that a reader has left, and by those that a writer holds, if these are known
abbrev pub by_bytes_left : Source (Option (List ℕ))
by_bytes_left = record {
  whole = λ limit before after bytes. IsWholeInput before after limit bytes;
  stopped = λ limit before after f. IsStopped before after limit f;
}

abbrev pub by_bytes_held : Sink (Option (List ℕ))
by_bytes_held = record {
  whole = λ text before after. Appends before after text;
  cut_off = λ text before after f. (f.written < length text) × Appends before after (take f.written text);
}

-- the text was written, and the writer took all of it, or some up to a fault
abbrev pub IsTried : {W : Type 0} → Sink W → List ℕ → W → W → Type 0
IsTried sink text before after = sink.whole text before after ⊎ ((f : WriteFault) × sink.cut_off text before after f)
