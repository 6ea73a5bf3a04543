-- What a core that was passed comes to for a run.
use Rattle.std.proofs.Common.{◌≡◌, ◌≢◌, ◌⊎◌, inl, inr, refl, sym, ap, subst, ◌∙◌, ℕ, Bool, false, not, List, [], ◌∷◌, ◌++◌, length, take, drop}
use Rattle.std.proofs.lemmas.List.{take-append-drop}
use Rattle.leak_streams.specs.declared.fault.ReadFault.{ReadFault}
use Rattle.leak_streams.specs.Reads.{Calls}
use Rattle.leak_index.specs.Readings.{distances_of}
use Rattle.leak_request.specs.Requests.{file_count}
use Rattle.leak_request.specs.declared.options.Options.{Options}
use Rattle.leak_search.specs.Inputs.{IsFaultOfOne}
use Rattle.leak_search.specs.Search.{FindsOne}
use Rattle.leak_search.specs.Signs.{AreSigns}
use Rattle.leak_search.specs.declared.error.FindError.{FindError}
use Rattle.leak_search.specs.declared.error.FindError.TheVariants.{NoMemory as NoMemoryToFind}
use Rattle.leak_search.specs.declared.found.Found.{Found}
use Rattle.leak_search.specs.declared.rules.Rules.{Rules}
use Rattle.leak_passing.specs.Passed.{AreTwo, IsPassedByTexts, IsPassingFault, OfPassedByTexts, IsReadOrNot, IsReadSomeWay, Pair, Passes, readers_of}
use Rattle.leak_passing.specs.declared.fault.PassingFault.TheVariants.{Core, Log, NoMemory as NoMemoryToKeep}
use Rattle.leak_passing.specs.declared.passed.PassedByTexts.{PassedByTexts}
use Rattle.leak_passing.specs.declared.passing.Limits.{Limits}
use Rattle.leak_find.specs.Answers.{Finds, IsFaultOf, IsUntold, Tells}
use Rattle.leak_find.specs.Rules.{rules_in}
use Rattle.leak_find.specs.declared.answer.Answer.{Answer}
use Rattle.leak_find.specs.declared.fault.RunFault.{RunFault}
use Rattle.leak_find.specs.declared.fault.RunFault.TheVariants.{Read, Find, NoBlock, Write}
use Rattle.leak_find.specs.declared.task.Task.{Task}
use Rattle.leak_find.specs.declared.task.Task.TheVariants.{Search}
use Rattle.leak_find.specs.Inputs.{AreRead, IsReadRefusal}
use Rattle.leak_find.specs.Passing.{AreFirstTwo, IsPassRefusal, IsReadOn, IsReadToEnd, IsStoppedOf, IsUnreadBy, limits_in, passes_core}
use Rattle.leak_find.specs.Run.{IsUnanswered, OfInputs}
use Rattle.leak_find.specs.Streams.{Source, by_reads}
use Rattle.leak_find.specs.Tasks.{limit_at, limit_beside}

-- the refusal of readers that are read one after the other
pub unread : {R : Type 0} (source : Source R) (task : Task) (before after : List R) (e : RunFault) → passes_core task ≡ false
    → IsReadRefusal source (limit_at task) before after e → IsUnanswered source task before after e
unread source task before after (Read n f) held refusal = subst (λ (b : Bool). IsUnreadBy b source (limit_at task) before after n f) (sym held) refusal
unread source task before after (Find f) held refusal = absurd refusal
unread source task before after (NoBlock a) held refusal = absurd refusal
unread source task before after (Write f) held refusal = absurd refusal

-- ---- the first two readers

-- by the limits of the options
limited : {R : Type 0} (calls : Calls R) (o : Options) (limits : Limits) (IsOf : List ℕ → List ℕ → Type 0) (was is : Pair R)
    → limits.core ≡ o.core_limit → limits.log ≡ o.log_limit → Passes calls limits IsOf was is → Passes calls (limits_in o) IsOf was is
limited calls o limits IsOf was is core_is log_is both = record {
  core = both.core;
  log = both.log;
  core_read = rw (← core_is) both.core_read;
  log_read = rw (← log_is) both.log_read;
  passed_is = both.passed_is;
}

module _ {R : Type 0} (Holds : Pair R → Pair R → Type 0) (before mid : List R) where
  -- what is so of the first two, cut out, is so of the first two
  first_two : AreTwo (take 2 before) mid Holds → AreFirstTwo before (mid ++ drop 2 before) Holds
  first_two two = record {
    was = two.was;
    is = two.is;
    others = drop 2 before;
    were = sym (take-append-drop 2 before) ∙ ap (λ (rs : List R). rs ++ drop 2 before) two.were;
    are = ap (λ (rs : List R). rs ++ drop 2 before) two.are;
    holds = two.holds;
  }

weaker : {R : Type 0} (P Q : Pair R → Pair R → Type 0) (before after : List R) → ((was is : Pair R) → P was is → Q was is) → AreTwo before after P → AreTwo before after Q
weaker P Q before after f two = record { was = two.was; is = two.is; were = two.were; are = two.are; holds = f two.was two.is two.holds }

module _ {R : Type 0} (calls : Calls R) (o : Options) (limits : Limits) (core_is : limits.core ≡ o.core_limit) (log_is : limits.log ≡ o.log_limit) where
  log_read : (n : ℕ) (was is : Pair R) → IsReadOrNot calls n was.log is.log → (is.log ≡ was.log) ⊎ IsReadToEnd (by_reads calls) n was.log is.log
  log_read n was is (inl same) = inl same
  log_read n was is (inr whole) = inr whole

  core_read : (n : ℕ) (was is : Pair R) → IsReadSomeWay calls n was.core is.core → IsReadOn (by_reads calls) n was.core is.core ⊎ IsReadToEnd (by_reads calls) n was.core is.core
  core_read n was is (inl whole) = inr whole
  core_read n was is (inr some) = inl some

  core_stopped : (f : ReadFault) (was is : Pair R) → IsPassingFault calls limits (Core f) was is → IsStoppedOf (by_reads calls) (limit_beside o) 1 f was is
  core_stopped f was is stopped = inl (refl, rw (← core_is) stopped.0, rw (← log_is) (log_read limits.log was is stopped.1))

  log_stopped : (f : ReadFault) (was is : Pair R) → IsPassingFault calls limits (Log f) was is → IsStoppedOf (by_reads calls) (limit_beside o) 2 f was is
  log_stopped f was is stopped = inr (refl, rw (← log_is) stopped.0, rw (← core_is) (core_read limits.core was is stopped.1))

  pub passed_both : (IsOf : List ℕ → List ℕ → Type 0) (before mid : List R) → AreTwo (take 2 before) mid (Passes calls limits IsOf)
      → AreFirstTwo before (mid ++ drop 2 before) (Passes calls (limits_in o) IsOf)
  passed_both IsOf before mid two =
      first_two (Passes calls (limits_in o) IsOf) before mid
      (weaker (Passes calls limits IsOf) (Passes calls (limits_in o) IsOf) (take 2 before) mid (λ was is. limited calls o limits IsOf was is core_is log_is) two)

  -- one of them was not read to its end
  pub core_not_passed : (f : ReadFault) (before mid : List R) → AreTwo (take 2 before) mid (IsPassingFault calls limits (Core f))
      → IsPassRefusal (by_reads calls) (limit_beside o) before (mid ++ drop 2 before) (Read 1 f)
  core_not_passed f before mid two =
      first_two (IsStoppedOf (by_reads calls) (limit_beside o) 1 f) before mid
      (weaker (IsPassingFault calls limits (Core f)) (IsStoppedOf (by_reads calls) (limit_beside o) 1 f) (take 2 before) mid (core_stopped f) two)

  pub log_not_passed : (f : ReadFault) (before mid : List R) → AreTwo (take 2 before) mid (IsPassingFault calls limits (Log f))
      → IsPassRefusal (by_reads calls) (limit_beside o) before (mid ++ drop 2 before) (Read 2 f)
  log_not_passed f before mid two =
      first_two (IsStoppedOf (by_reads calls) (limit_beside o) 2 f) before mid
      (weaker (IsPassingFault calls limits (Log f)) (IsStoppedOf (by_reads calls) (limit_beside o) 2 f) (take 2 before) mid (log_stopped f) two)

  -- both were, and nothing was kept
  none_kept : (IsOf : List ℕ → List ℕ → Type 0) → ((core log : List ℕ) → IsOf core log) → (was is : Pair R) → IsPassingFault calls limits NoMemoryToKeep was is → Passes calls limits IsOf was is
  none_kept IsOf always was is both = record {
    core = both.0.0;
    log = both.1.0;
    core_read = both.0.1;
    log_read = both.1.1;
    passed_is = always both.0.0 both.1.0;
  }

  pub passed_short : (IsOf : List ℕ → List ℕ → Type 0) → ((core log : List ℕ) → IsOf core log) → (before mid : List R)
      → AreTwo (take 2 before) mid (IsPassingFault calls limits NoMemoryToKeep) → AreFirstTwo before (mid ++ drop 2 before) (Passes calls (limits_in o) IsOf)
  passed_short IsOf always before mid two =
      passed_both IsOf before mid (weaker (IsPassingFault calls limits NoMemoryToKeep) (Passes calls limits IsOf) (take 2 before) mid (none_kept IsOf always) two)

-- both were read to their ends
pub both_read : {R : Type 0} (calls : Calls R) (o : Options) (IsOf : List ℕ → List ℕ → Type 0) (limit : ℕ → ℕ) (before after : List R)
    → limit 0 ≡ o.core_limit → limit 1 ≡ o.log_limit → (two : AreFirstTwo before after (Passes calls (limits_in o) IsOf))
    → AreRead (by_reads calls) limit before after (two.holds.core ∷ two.holds.log ∷ [])
both_read {R = R} calls o IsOf limit before after core_is log_is two =
    let inputs : List (List ℕ) = two.holds.core ∷ two.holds.log ∷ [] in
    subst (λ (rs : List R). AreRead (by_reads calls) limit rs after inputs) (sym two.were)
    (subst (λ (rs : List R). AreRead (by_reads calls) limit (readers_of two.was ++ two.others) rs inputs) (sym two.are)
    (rw (core_is) two.holds.core_read, (rw (log_is) two.holds.log_read, refl)))

-- ---- the search of one core

-- why a core and its log were not read is why the run has no answer
pub search_refused : {R : Type 0} (source : Source R) (o : Options) (before after : List R) (e : RunFault) → o.two ≡ false
    → IsPassRefusal source (limit_beside o) before after e → IsUnanswered source (Search o) before after e
search_refused source o before after (Read n f) one refusal = subst (λ (b : Bool). IsUnreadBy (not b) source (limit_at (Search o)) before after n f) (sym one) (inl refusal)
search_refused source o before after (Find f) one refusal = absurd refusal
search_refused source o before after (NoBlock a) one refusal = absurd refusal
search_refused source o before after (Write f) one refusal = absurd refusal

-- both were read to their ends, and this is so of what they held
pub search_read : {R : Type 0} (calls : Calls R) (o : Options) (IsOf : List ℕ → List ℕ → Type 0) (Holds : List (List ℕ) → Type 0) (before after : List R)
    → o.two ≡ false → length before ≡ 2 → (two : AreFirstTwo before after (Passes calls (limits_in o) IsOf))
    → Holds (two.holds.core ∷ two.holds.log ∷ []) → OfInputs (by_reads calls) (Search o) before after Holds
search_read calls o IsOf Holds before after one count two holds = record {
  inputs = two.holds.core ∷ two.holds.log ∷ [];
  takes = ap file_count (sym one);
  read = record { count = sym count; read = both_read calls o IsOf (limit_at (Search o)) before after refl refl two };
  holds = holds;
}

-- ---- the answer for what was passed

module _ (o : Options) (rules : Rules) (passed : PassedByTexts) (core log : List ℕ) (one : o.two ≡ false) (rules_are : rules ≡ rules_in o) (is : IsPassedByTexts core log o.skip passed) where
  here : IsPassedByTexts core log rules.skip passed
  here = subst (λ (r : Rules). IsPassedByTexts core log r.skip passed) (sym rules_are) is

  pub tells_leaks : (found : Found) (answer : Answer)
      → OfPassedByTexts rules.skip passed (λ core log. FindsOne core log (distances_of rules.reading) rules.skip o.check o.plan.workers found)
      → OfPassedByTexts rules.skip passed (λ core log. AreSigns rules.other_heap (core ∷ log ∷ []) found.signs.items)
      → answer ≡ record { text = found.report; leaked = found.leaked; signs = found.signs } → Tells (Search o) (core ∷ log ∷ []) answer
  tells_leaks found answer finds signs same = record {
    found = found;
    finds = subst (λ (b : Bool). Finds b o (core ∷ log ∷ []) found) (sym one)
        (subst (λ (r : Rules). FindsOne core log (distances_of r.reading) r.skip o.check o.plan.workers found) rules_are (finds core log here));
    text = ap (λ (a : Answer). a.text.items) same;
    leaked = ap (λ (a : Answer). a.leaked) same;
    signs = rw same (subst (λ (r : Rules). AreSigns r.other_heap (core ∷ log ∷ []) found.signs.items) rules_are (signs core log here));
  }

  pub untold : (e : FindError) → (e ≢ NoMemoryToFind → OfPassedByTexts rules.skip passed (λ core log. IsFaultOfOne core log e)) → IsUntold (Search o) (core ∷ log ∷ []) (Find e)
  untold e refused other = subst (λ (b : Bool). IsFaultOf b (core ∷ log ∷ []) e) (sym one) (refused other core log here)
