-- What is known of readers and writers, as seen by one who knows less of them.
use Rattle.std.proofs.Common.{ℕ, suc, Bool, true, false, List, [], ◌∷◌, length, map, Option, ap, sym, subst, ◌∙◌, inl, inr}
use Rattle.std.proofs.lemmas.List.{length-map}
use Rattle.leak_streams.specs.declared.fault.ReadFault.{ReadFault}
use Rattle.leak_streams.specs.declared.fault.ReadFault.TheVariants.{NoMemory}
use Rattle.leak_streams.specs.declared.fault.WriteFault.{WriteFault}
use Rattle.leak_passing.specs.Passed.{Pair}
use Rattle.leak_streams.proofs.Consumed.{stopped, whole_input, tells as tells_left}
use Rattle.leak_streams.proofs.Appended.{cut_off_appends, cut_off_short, whole_appends, tells as tells_held}
use Rattle.leak_find.specs.Streams.{IsTried, Sink, Source, by_bytes_held, by_bytes_left, by_reads, by_writes}
use Rattle.leak_find.specs.declared.task.Task.{Task}
use Rattle.leak_find.specs.Inputs.{AreAllRead, AreRead, AreReadUpTo, IsReadFaultWithin}
use Rattle.leak_find.specs.Passing.{IsStoppedOf, IsUnreadBy}
use Rattle.leak_find.specs.Run.{OfInputs}
use Rattle.leak_find.specs.Tasks.{limit_at}

-- what is known of a source, of readers as the view has them
pub record Sees {R S : Type 0} (view : R → S) (source : Source R) (known : Source S) : Type 0 where
  pub whole : (limit : ℕ) (before after : R) (bytes : List ℕ) → source.whole limit before after bytes → known.whole limit (view before) (view after) bytes
  pub stopped : (limit : ℕ) (before after : R) (e : ReadFault) → source.stopped limit before after e → known.stopped limit (view before) (view after) e

-- the same of a sink
pub record Shows {W X : Type 0} (view : W → X) (sink : Sink W) (known : Sink X) : Type 0 where
  pub whole : (text : List ℕ) (before after : W) → sink.whole text before after → known.whole text (view before) (view after)
  pub cut_off : (text : List ℕ) (before after : W) (f : WriteFault) → sink.cut_off text before after f → known.cut_off text (view before) (view after) f

-- calls, by the bytes that a reader has left and that a writer holds
pub sees_left : {R : Type 0} (left : R → Option (List ℕ)) → Sees left (by_reads (tells_left left)) by_bytes_left
sees_left left = record {
  whole = λ limit before after bytes. whole_input left limit before after bytes;
  stopped = λ limit before after e. stopped left limit before after e;
}

pub shows_held : {W : Type 0} (held : W → Option (List ℕ)) → Shows held (by_writes (tells_held held)) by_bytes_held
shows_held held = record {
  whole = λ text before after. whole_appends held text before after;
  cut_off = λ text before after f cut. (cut_off_short (tells_held held) text before after f cut, cut_off_appends held text before after f cut);
}

pub tried : {W X : Type 0} (view : W → X) (sink : Sink W) (known : Sink X) (shows : Shows view sink known) (text : List ℕ) (before after : W)
    → IsTried sink text before after → IsTried known text (view before) (view after)
tried view sink known shows text before after (inl whole) = inl (shows.whole text before after whole)
tried view sink known shows text before after (inr cut) = inr (cut.0, shows.cut_off text before after cut.0 cut.1)

module _ {R S : Type 0} (view : R → S) (source : Source R) (known : Source S) (sees : Sees view source known) where
  are_read : (limit : ℕ → ℕ) (before after : List R) (inputs : List (List ℕ)) → AreRead source limit before after inputs
      → AreRead known limit (map view before) (map view after) inputs
  are_read limit before after [] read = ap (map view) read
  are_read limit [] after (x ∷ xs) read = absurd read
  are_read limit (b ∷ bs) [] (x ∷ xs) read = absurd read
  are_read limit (b ∷ bs) (a ∷ rest) (x ∷ xs) read = (sees.whole (limit 0) b a x read.0, are_read (λ i. limit (suc i)) bs rest xs read.1)

  up_to : (limit : ℕ → ℕ) (before after : List R) (inputs : List (List ℕ)) (e : ReadFault) → AreReadUpTo source limit before after inputs e
      → AreReadUpTo known limit (map view before) (map view after) inputs e
  up_to limit [] after inputs e read = absurd read
  up_to limit (b ∷ bs) [] inputs e read = absurd read
  up_to limit (b ∷ bs) (a ∷ rest) [] e read = (sees.stopped (limit 0) b a e read.0, ap (map view) read.1)
  up_to limit (b ∷ bs) (a ∷ rest) (x ∷ xs) e read = (sees.whole (limit 0) b a x read.0, up_to (λ i. limit (suc i)) bs rest xs e read.1)

  fault_within : (limit : ℕ → ℕ) (readers : ℕ) (before after : List R) (number : ℕ) (e : ReadFault) → IsReadFaultWithin source limit readers before after number e
      → IsReadFaultWithin known limit readers (map view before) (map view after) number e
  fault_within limit readers before after number e fault = record {
    inputs = fault.inputs;
    number_is = fault.number_is;
    few = fault.few;
    stopped = up_to limit before after fault.inputs e fault.stopped;
  }

  within_all : (limit : ℕ → ℕ) (before after : List R) (number : ℕ) (e : ReadFault)
      → IsReadFaultWithin source limit (length before) before after number e
      → IsReadFaultWithin known limit (length (map view before)) (map view before) (map view after) number e
  within_all limit before after number e fault =
      subst (λ (n : ℕ). IsReadFaultWithin known limit n (map view before) (map view after) number e) (sym (length-map before view))
      (fault_within limit (length before) before after number e fault)

  of_two : (limit : ℕ → ℕ) (number : ℕ) (e : ReadFault) (was is : Pair R) → IsStoppedOf source limit number e was is
      → IsStoppedOf known limit number e (record { core = view was.core; log = view was.log }) (record { core = view is.core; log = view is.log })
  of_two limit number e was is (inl (n, fault, inl same)) = inl (n, sees.stopped (limit 0) was.core is.core e fault, inl (ap view same))
  of_two limit number e was is (inl (n, fault, inr read)) =
      inl (n, sees.stopped (limit 0) was.core is.core e fault, inr (read.0, sees.whole (limit 1) was.log is.log read.0 read.1))
  of_two limit number e was is (inr (n, fault, inl on)) =
      inr (n, sees.stopped (limit 1) was.log is.log e fault, inl (sees.stopped (limit 0) was.core is.core NoMemory on))
  of_two limit number e was is (inr (n, fault, inr read)) =
      inr (n, sees.stopped (limit 1) was.log is.log e fault, inr (read.0, sees.whole (limit 0) was.core is.core read.0 read.1))

  pub unread : (passes : Bool) (limit : ℕ → ℕ) (before after : List R) (number : ℕ) (e : ReadFault) → IsUnreadBy passes source limit before after number e
      → IsUnreadBy passes known limit (map view before) (map view after) number e
  unread false limit before after number e fault = within_all limit before after number e fault
  unread true limit before after number e (inl fault) = inl (record {
    was = record { core = view fault.was.core; log = view fault.was.log };
    is = record { core = view fault.is.core; log = view fault.is.log };
    others = map view fault.others;
    were = ap (map view) fault.were;
    are = ap (map view) fault.are;
    holds = of_two limit number e fault.was fault.is fault.holds;
  })
  unread true limit before after number e (inr fault) = inr (fault.0, within_all limit before after number e fault.1)

  pub all_read : (limit : ℕ → ℕ) (before after : List R) (inputs : List (List ℕ)) → AreAllRead source limit before after inputs
      → AreAllRead known limit (map view before) (map view after) inputs
  all_read limit before after inputs are = record {
    count = are.count ∙ sym (length-map before view);
    read = are_read limit before after inputs are.read;
  }

  pub of_inputs : (task : Task) (before after : List R) (Holds : List (List ℕ) → Type 0) → OfInputs source task before after Holds
      → OfInputs known task (map view before) (map view after) Holds
  of_inputs task before after Holds of = record {
    inputs = of.inputs;
    takes = of.takes;
    read = all_read (limit_at task) before after of.inputs of.read;
    holds = of.holds;
  }
