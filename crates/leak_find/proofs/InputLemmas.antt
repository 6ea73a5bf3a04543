-- Readers that are read one after the other.
use Rattle.std.proofs.Common.{◌≡◌, ℕ, suc, ◌+◌, ◌<◌, ◌≤◌, List, [], ◌∷◌, ◌++◌, length, refl, sym, subst, arith}
use Rattle.std.specs.Prelude.{Some, slice_get, slice_index_or, slice_set}
use Rattle.std.proofs.lemmas.Option.{none-some, same_Some, slice_get-get_or}
use Rattle.leak_streams.specs.declared.fault.ReadFault.{ReadFault}
use Rattle.leak_find.specs.declared.fault.RunFault.{RunFault}
use Rattle.leak_find.specs.declared.fault.RunFault.TheVariants.{Read, Find, NoBlock, Write}
use Rattle.leak_find.specs.declared.task.Task.{Task}
use Rattle.leak_find.specs.Answers.{IsUntold}
use Rattle.leak_find.specs.Run.{IsUnanswered}
use Rattle.leak_find.specs.Streams.{Source}
use Rattle.leak_find.specs.Tasks.{TakesInputs, limit_at}
use Rattle.leak_find.specs.Inputs.{AreAllRead, AreRead, AreReadUpTo, IsReadAt, IsReaderFault, IsReadFaultWithin, IsReadRefusal, IsStoppedAt}

module _ {R : Type 0} (source : Source R) where
  -- the reader with the number was read, by what the list of readers gave
  pub read_at : (number limit : ℕ) (before : List R) (first last : R) (bytes : List ℕ) → number < length before
      → source.whole limit (slice_index_or before number first) last bytes → IsReadAt source number limit before (slice_set before number last) bytes
  read_at number limit before first last bytes there whole = record {
    first = slice_index_or before number first;
    last = last;
    is = slice_get-get_or before number first there;
    becomes = refl;
    whole = whole;
  }

  pub stopped_at : (number limit : ℕ) (before : List R) (first last : R) (e : ReadFault) → number < length before
      → source.stopped limit (slice_index_or before number first) last e → IsStoppedAt source number limit before (slice_set before number last) e
  stopped_at number limit before first last e there stopped = record {
    first = slice_index_or before number first;
    last = last;
    is = slice_get-get_or before number first there;
    becomes = refl;
    stopped = stopped;
  }

  -- one reader more
  more_at : (limit : ℕ → ℕ) (before mid : List R) (inputs : List (List ℕ)) (bytes : List ℕ) (first last : R) → AreRead source limit before mid inputs
      → slice_get mid (length inputs) ≡ Some first → source.whole (limit (length inputs)) first last bytes
      → AreRead source limit before (slice_set mid (length inputs) last) (inputs ++ bytes ∷ [])
  more_at limit before [] [] bytes first last so_far is whole = absurd (none-some first is)
  more_at limit before (m ∷ ms) [] bytes first last so_far is whole =
      subst (λ (b : List R). AreRead source limit b (last ∷ ms) (bytes ∷ [])) so_far
      (subst (λ (r : R). source.whole (limit 0) r last bytes) (sym (same_Some m first is)) whole, refl)
  more_at limit [] mid (x ∷ xs) bytes first last so_far is whole = absurd so_far
  more_at limit (b ∷ bs) [] (x ∷ xs) bytes first last so_far is whole = absurd so_far
  more_at limit (b ∷ bs) (m ∷ ms) (x ∷ xs) bytes first last so_far is whole =
      (so_far.0, more_at (λ i. limit (suc i)) bs ms xs bytes first last so_far.1 is whole)

  one_more : (limit : ℕ → ℕ) (before mid after : List R) (inputs : List (List ℕ)) (bytes : List ℕ) → AreRead source limit before mid inputs
      → IsReadAt source (length inputs) (limit (length inputs)) mid after bytes → AreRead source limit before after (inputs ++ bytes ∷ [])
  one_more limit before mid after inputs bytes so_far at =
      subst (λ (a : List R). AreRead source limit before a (inputs ++ bytes ∷ [])) (sym at.becomes)
      (more_at limit before mid inputs bytes at.first at.last so_far at.is at.whole)

  -- one reader more, which was not read to its end
  stops_at : (limit : ℕ → ℕ) (before mid : List R) (inputs : List (List ℕ)) (first last : R) (e : ReadFault) → AreRead source limit before mid inputs
      → slice_get mid (length inputs) ≡ Some first → source.stopped (limit (length inputs)) first last e
      → AreReadUpTo source limit before (slice_set mid (length inputs) last) inputs e
  stops_at limit before [] [] first last e so_far is stopped = absurd (none-some first is)
  stops_at limit before (m ∷ ms) [] first last e so_far is stopped =
      subst (λ (b : List R). AreReadUpTo source limit b (last ∷ ms) [] e) so_far
      (subst (λ (r : R). source.stopped (limit 0) r last e) (sym (same_Some m first is)) stopped, refl)
  stops_at limit [] mid (x ∷ xs) first last e so_far is stopped = absurd so_far
  stops_at limit (b ∷ bs) [] (x ∷ xs) first last e so_far is stopped = absurd so_far
  stops_at limit (b ∷ bs) (m ∷ ms) (x ∷ xs) first last e so_far is stopped =
      (so_far.0, stops_at (λ i. limit (suc i)) bs ms xs first last e so_far.1 is stopped)

  stopped_within : (limit : ℕ → ℕ) (readers : ℕ) (before mid after : List R) (inputs : List (List ℕ)) (number : ℕ) (e : ReadFault)
      → AreRead source limit before mid inputs → length inputs + 1 ≤ readers
      → IsReaderFault source (length inputs) (limit (length inputs)) mid after (Read number e) → IsReadFaultWithin source limit readers before after number e
  stopped_within limit readers before mid after inputs number e so_far few fault = record {
    inputs = inputs;
    number_is = fault.0;
    few = subst (λ (k : ℕ). k ≤ readers) (sym fault.0) few;
    stopped = subst (λ (a : List R). AreReadUpTo source limit before a inputs e) (sym fault.1.becomes)
        (stops_at limit before mid inputs fault.1.first fault.1.last e so_far fault.1.is fault.1.stopped);
  }

  -- the next reader, by its number and by what it may hold
  pub one_next : (limit : ℕ → ℕ) (before mid after : List R) (inputs : List (List ℕ)) (n most : ℕ) (bytes : List ℕ) → AreRead source limit before mid inputs
      → length inputs ≡ n → most ≡ limit n → IsReadAt source n most mid after bytes → AreRead source limit before after (inputs ++ bytes ∷ [])
  one_next limit before mid after inputs n most bytes so_far count is at =
      one_more limit before mid after inputs bytes so_far
      (subst (λ (k : ℕ). IsReadAt source k (limit k) mid after bytes) (sym count) (subst (λ (m : ℕ). IsReadAt source n m mid after bytes) is at))

  -- a reader that was not read to its end refuses the run, if those before it were
  refused_at : (limit : ℕ → ℕ) (before mid after : List R) (inputs : List (List ℕ)) (e : RunFault)
      → AreRead source limit before mid inputs → length inputs + 1 ≤ length before
      → IsReaderFault source (length inputs) (limit (length inputs)) mid after e → IsReadRefusal source limit before after e
  refused_at limit before mid after inputs (Read number e) so_far few fault =
      stopped_within limit (length before) before mid after inputs number e so_far few fault
  refused_at limit before mid after inputs (Find e) so_far few fault = absurd fault
  refused_at limit before mid after inputs (NoBlock a) so_far few fault = absurd fault
  refused_at limit before mid after inputs (Write f) so_far few fault = absurd fault

  pub refused_next : (limit : ℕ → ℕ) (before mid after : List R) (inputs : List (List ℕ)) (n most : ℕ) (e : RunFault) → AreRead source limit before mid inputs
      → length inputs ≡ n → most ≡ limit n → n < length before → IsReaderFault source n most mid after e → IsReadRefusal source limit before after e
  refused_next limit before mid after inputs n most e so_far count is low fault =
      refused_at limit before mid after inputs e so_far (omega (arith, count, low))
      (subst (λ (k : ℕ). IsReaderFault source k (limit k) mid after e) (sym count) (subst (λ (m : ℕ). IsReaderFault source n m mid after e) is fault))

-- all readers of the task were read to their ends, and what they held gives no answer for this reason
pub untold_all : {R : Type 0} (source : Source R) (task : Task) (before after : List R) (inputs : List (List ℕ)) (e : RunFault) → TakesInputs task (length before)
    → AreAllRead source (limit_at task) before after inputs → IsUntold task inputs e → IsUnanswered source task before after e
untold_all source task before after inputs (Read n f) takes read untold = absurd untold
untold_all source task before after inputs (Find f) takes read untold =
    record { inputs = inputs; takes = subst (λ (n : ℕ). TakesInputs task n) (sym read.count) takes; read = read; holds = untold }
untold_all source task before after inputs (NoBlock a) takes read untold =
    record { inputs = inputs; takes = subst (λ (n : ℕ). TakesInputs task n) (sym read.count) takes; read = read; holds = untold }
untold_all source task before after inputs (Write f) takes read untold = absurd untold
