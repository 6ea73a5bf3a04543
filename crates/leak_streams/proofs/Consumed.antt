-- One read after another.
use Rattle.std.proofs.Common.{◌≡◌, ℕ, ◌+◌, ◌-◌, ◌≤◌, ◌<◌, ◌++◌, List, [], ◌∷◌, length, Option, Some, None, refl, subst, sym, append_assoc, append-nil, take, length-take, arith, length-append}
use Rattle.std.specs.Prelude.{Result, Ok, Err, IfOk}
use Rattle.std.specs.Io.{ReadsAtMost}
use Rattle.std.specs.Io.KnownBytes.{Consumes, Keeps, IsAtEnd, ReadConsumes}
use Rattle.std.specs.declared.io.Error.{Error}
use Rattle.leak_streams.specs.declared.fault.ReadFault.{ReadFault}
use Rattle.leak_streams.specs.declared.fault.ReadFault.TheVariants.{TooLong, Device, TooManyTurns, NoMemory}
use Rattle.leak_streams.specs.Laws.{ReadsTell}
use Rattle.leak_streams.specs.Reading.{IsWholeInput, IsStopped}
use Rattle.leak_streams.specs.Reads.{Calls, StopsBy, IsEnd, ReadSoFar, GoesOn, OneRead, ComesBy, IsReadWhole, IsCutOff, IsGivenUp}

-- ---- bytes that are taken one after the other

consumes_more : (a b c : Option (List ℕ)) (xs ys : List ℕ) → Consumes a b xs → Consumes b c ys → Consumes a c (xs ++ ys)
consumes_more None b c xs ys first then = tt
consumes_more (Some us) None c xs ys first then = absurd first
consumes_more (Some us) (Some vs) None xs ys first then = absurd then
consumes_more (Some us) (Some vs) (Some ws) xs ys first then = rw (first, then) (sym (append_assoc xs ys ws))

consumes_kept : (a b c : Option (List ℕ)) (xs : List ℕ) → Consumes a b xs → Keeps b c → Consumes a c xs
consumes_kept None b c xs first kept = tt
consumes_kept (Some us) None c xs first kept = absurd first
consumes_kept (Some us) (Some vs) None xs first kept = absurd kept
consumes_kept (Some us) (Some vs) (Some ws) xs first kept = rw (first, kept) refl

consumes_none : (a : Option (List ℕ)) → Consumes a a []
consumes_none None = tt
consumes_none (Some us) = refl

pub taken_length : (count : ℕ) (xs piece : List ℕ) → count ≤ length piece → length (xs ++ take count piece) ≡ length xs + count
taken_length count xs piece within = rw (length-append xs (take count piece), length-take count piece) (omega (arith, within))

-- ---- what reads come to, if the reader tells its bytes

-- a read, by the bytes that the reader has left
abbrev pub tells : {R : Type 0} → (R → Option (List ℕ)) → Calls R
tells remaining before piece answer after = ReadConsumes (remaining before) (remaining after) answer piece × ReadsAtMost answer piece

module _ {R : Type 0} (remaining : R → Option (List ℕ)) (limit : ℕ) (first : R) where
  on_consumes : (before last : R) (piece : List ℕ) (answer : Result ℕ Error) (was now : ReadSoFar) → Consumes (remaining first) (remaining before) was.bytes
      → tells remaining before piece answer last → GoesOn limit was piece answer now → Consumes (remaining first) (remaining last) now.bytes
  on_consumes before last piece (Ok count) was now so_far call on =
      rw (on.2) (consumes_more _ (remaining before) _ was.bytes (take count piece) so_far call.0.0)
  on_consumes before last piece (Err e) was now so_far call on = rw (on.1) (consumes_kept _ (remaining before) _ was.bytes so_far call.0)

  on_within : (piece : List ℕ) (answer : Result ℕ Error) (was now : ReadSoFar) → length was.bytes ≤ limit → IfOk answer (λ count. count ≤ length piece)
      → GoesOn limit was piece answer now → length now.bytes ≤ limit
  on_within piece (Ok count) was now few within on = rw (on.2, taken_length count was.bytes piece within) (on.1)
  on_within piece (Err e) was now few within on = rw (on.1) few

  come_consumes : (reads : List (OneRead R)) (last : R) (now : ReadSoFar) → ComesBy (tells remaining) limit first reads last now
      → Consumes (remaining first) (remaining last) now.bytes
  come_consumes [] last now come = rw (come.0, come.1) (consumes_none _)
  come_consumes (read ∷ reads) last now come =
      on_consumes read.before last read.piece read.answer come.0 now (come_consumes reads read.before come.0 come.1) come.2.call come.3

  come_within : (reads : List (OneRead R)) (last : R) (now : ReadSoFar) → ComesBy (tells remaining) limit first reads last now → length now.bytes ≤ limit
  come_within [] last now come = rw (come.1) (omega arith)
  come_within (read ∷ reads) last now come =
      on_within read.piece read.answer come.0 now (come_within reads read.before come.0 come.1) come.2.within come.3

  -- a read that found the end took nothing
  end_consumes : (before last : R) (piece : List ℕ) (answer : Result ℕ Error) (bytes : List ℕ) → Consumes (remaining first) (remaining before) bytes
      → 0 < length piece → tells remaining before piece answer last → IsEnd answer → Consumes (remaining first) (remaining last) bytes × IsAtEnd (remaining last)
  end_consumes before last piece (Ok count) bytes so_far asks call end =
      let more = consumes_more _ (remaining before) (remaining last) bytes (take count piece) so_far call.0.0 in
      let none : bytes ++ take count piece ≡ bytes = rw (end) (append-nil bytes) in
      (subst (λ ys. Consumes (remaining first) (remaining last) ys) none more, call.0.1 end asks)
  end_consumes before last piece (Err e) bytes so_far asks call end = absurd end

  pub whole_input : (last : R) (bytes : List ℕ) → IsReadWhole (tells remaining) limit first last bytes → IsWholeInput (remaining first) (remaining last) limit bytes
  whole_input last bytes whole =
      let at_end = end_consumes whole.read.before last whole.read.piece whole.read.answer whole.now.bytes
      (come_consumes whole.come.reads whole.read.before whole.now whole.come.by_reads) whole.is_read.asks whole.is_read.call whole.end in
      record {
        few = rw (whole.is) (come_within whole.come.reads whole.read.before whole.now whole.come.by_reads);
        taken = rw (whole.is) (at_end.0);
        end = at_end.1;
      }

  -- a read that failed took nothing, and one that gave too much took a byte over the limit
  cut_off_stops : (f : ReadFault) (before last : R) (piece : List ℕ) (answer : Result ℕ Error) (turns : ℕ) (bytes : List ℕ)
      → Consumes (remaining first) (remaining before) bytes → length bytes ≤ limit → length bytes + length piece ≤ limit + 1
      → IfOk answer (λ count. count ≤ length piece) → tells remaining before piece answer last
      → StopsBy (limit - length bytes) turns answer f → IsStopped (remaining first) (remaining last) limit f
  cut_off_stops TooLong before last piece (Ok count) turns bytes so_far few most within call stops = record {
    bytes = bytes ++ take count piece;
    as_many = rw (taken_length count bytes piece within) (omega (arith, few, stops, most, within));
    taken = consumes_more _ (remaining before) _ bytes (take count piece) so_far call.0.0;
  }
  cut_off_stops TooLong before last piece (Err e) turns bytes so_far few most within call stops = absurd stops
  cut_off_stops Device before last piece (Ok count) turns bytes so_far few most within call stops = absurd stops
  cut_off_stops Device before last piece (Err e) turns bytes so_far few most within call stops =
      record { bytes = bytes; few = few; taken = consumes_kept _ (remaining before) _ bytes so_far call.0 }
  cut_off_stops TooManyTurns before last piece (Ok count) turns bytes so_far few most within call stops = absurd stops
  cut_off_stops TooManyTurns before last piece (Err e) turns bytes so_far few most within call stops =
      record { bytes = bytes; few = few; taken = consumes_kept _ (remaining before) _ bytes so_far call.0 }
  cut_off_stops NoMemory before last piece (Ok count) turns bytes so_far few most within call stops = absurd stops
  cut_off_stops NoMemory before last piece (Err e) turns bytes so_far few most within call stops = absurd stops

  cut_off : (last : R) (f : ReadFault) → IsCutOff (tells remaining) limit first last f → IsStopped (remaining first) (remaining last) limit f
  cut_off last f cut = cut_off_stops f cut.read.before last cut.read.piece cut.read.answer cut.now.interruptions cut.now.bytes
      (come_consumes cut.come.reads cut.read.before cut.now cut.come.by_reads) (come_within cut.come.reads cut.read.before cut.now cut.come.by_reads)
      cut.is_read.bounded cut.is_read.within cut.is_read.call cut.stops

  pub stopped : (last : R) (f : ReadFault) → IsGivenUp (tells remaining) limit first last f → IsStopped (remaining first) (remaining last) limit f
  stopped last TooLong up = cut_off last TooLong up
  stopped last Device up = cut_off last Device up
  stopped last TooManyTurns up = cut_off last TooManyTurns up
  stopped last NoMemory up = record {
    bytes = up.0.bytes;
    few = come_within up.1.reads last up.0 up.1.by_reads;
    taken = come_consumes up.1.reads last up.0 up.1.by_reads;
  }

-- both, for a reader whose reads are told by its bytes
pub reads_tell : {R : Type 0} (remaining : R → Option (List ℕ)) → ReadsTell (tells remaining) remaining
reads_tell remaining = record {
  whole = λ limit first last bytes. whole_input remaining limit first last bytes;
  given_up = λ limit first last f. stopped remaining limit first last f;
}
