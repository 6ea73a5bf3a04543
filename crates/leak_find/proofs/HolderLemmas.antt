-- What a core that was passed, its log and an earlier log come to for a question who holds the memory.
use Rattle.std.proofs.Common.{◌≡◌, ◌≢◌, ◌⊎◌, inl, inr, refl, sym, subst, ℕ, ◌≤◌, List, [], ◌∷◌, length, Option, Some, None, option_map, arith}
use Rattle.std.specs.Prelude.{MatchOption, Vec}
use Rattle.std.specs.declared.alloc.Global.{Global}
use Rattle.leak_streams.specs.Reads.{Calls}
use Rattle.leak_holders.specs.declared.question.Question.{Question}
use Rattle.leak_request.specs.declared.options.Options.{Options}
use Rattle.leak_search.specs.declared.error.FindError.TheVariants.{NoMemory}
use Rattle.leak_search.specs.declared.why.WhyError.{WhyError}
use Rattle.leak_search.specs.declared.why.WhyError.TheVariants.{Find as Refused, NoBlock as Missing}
use Rattle.leak_passing.specs.Passed.{Passes}
use Rattle.leak_find.specs.Answers.{IsNotHeld, IsUntold, Tells, TellsHolding, at_why}
use Rattle.leak_find.specs.declared.answer.Answer.{Answer}
use Rattle.leak_find.specs.declared.fault.RunFault.{RunFault}
use Rattle.leak_find.specs.declared.fault.RunFault.TheVariants.{Read, Find, NoBlock, Write}
use Rattle.leak_find.specs.declared.task.Task.TheVariants.{Holders}
use Rattle.leak_find.specs.Inputs.{AreRead, IsReadAt, IsReaderFault}
use Rattle.leak_find.specs.Passing.{AreFirstTwo, IsPassRefusal, limits_in}
use Rattle.leak_find.specs.Run.{IsUnanswered, OfInputs}
use Rattle.leak_find.specs.Streams.{Source, by_reads}
use Rattle.leak_find.specs.Tasks.{TakesInputs, limit_beside}
use Rattle.leak_find.proofs.InputLemmas.{one_next, refused_next}
use Rattle.leak_find.proofs.PassLemmas.{both_read}

-- a core, its log and, if there is one, an earlier log
abbrev pub inputs_of : List ℕ → List ℕ → Option (List ℕ) → List (List ℕ)
inputs_of core log None = core ∷ log ∷ []
inputs_of core log (Some since) = core ∷ log ∷ since ∷ []

-- ---- readers

pub pass_refused : {R : Type 0} (source : Source R) (o : Options) (question : Option Question) (before after : List R) (e : RunFault)
    → IsPassRefusal source (limit_beside o) before after e → IsUnanswered source (Holders o question) before after e
pass_refused source o question before after (Read n f) refusal = inl refusal
pass_refused source o question before after (Find f) refusal = absurd refusal
pass_refused source o question before after (NoBlock a) refusal = absurd refusal
pass_refused source o question before after (Write f) refusal = absurd refusal

module _ {R : Type 0} (calls : Calls R) (o : Options) (question : Option Question) (IsOf : List ℕ → List ℕ → Type 0) (before mid after : List R)
    (same : length mid ≡ length before) (two : AreFirstTwo before mid (Passes calls (limits_in o) IsOf)) where
  so_far : AreRead (by_reads calls) (limit_beside o) before mid (two.holds.core ∷ two.holds.log ∷ [])
  so_far = both_read calls o IsOf (limit_beside o) before mid refl refl two

  pub earlier_refused : (e : RunFault) → 3 ≤ length mid → IsReaderFault (by_reads calls) 2 o.log_limit mid after e
      → IsUnanswered (by_reads calls) (Holders o question) before after e
  earlier_refused (Read n f) there fault =
      let is : n ≡ 3 = fault.0 in
      inr (
        omega (arith, is),
        refused_next (by_reads calls) (limit_beside o) before mid after (two.holds.core ∷ two.holds.log ∷ []) 2 o.log_limit (Read n f) so_far refl refl (omega (arith, there, same)) fault,
      )
  earlier_refused (Find f) there fault = absurd fault
  earlier_refused (NoBlock a) there fault = absurd fault
  earlier_refused (Write f) there fault = absurd fault

  just_two : (length before ≡ 2) ⊎ (length before ≡ 3) → length mid ≤ 2 → 2 ≡ length before
  just_two (inl two) few = sym two
  just_two (inr three) few = absurd (omega (arith, three, few, same))

  just_three : (length before ≡ 2) ⊎ (length before ≡ 3) → 3 ≤ length mid → 3 ≡ length before
  just_three (inl two) many = absurd (omega (arith, two, many, same))
  just_three (inr three) many = sym three

  -- all were read to their ends, and this is so of what they held
  pub holders_read : (Holds : List (List ℕ) → Type 0) (earlier : Option (Vec ℕ Global)) → TakesInputs (Holders o question) (length before)
      → MatchOption earlier ((length mid ≤ 2) × (after ≡ mid)) (λ v. (3 ≤ length mid) × IsReadAt (by_reads calls) 2 o.log_limit mid after v.items)
      → Holds (inputs_of two.holds.core two.holds.log (option_map (λ v. v.items) earlier)) → OfInputs (by_reads calls) (Holders o question) before after Holds
  holders_read Holds None takes read holds = record {
    inputs = two.holds.core ∷ two.holds.log ∷ [];
    takes = inl refl;
    read = record {
      count = just_two takes read.0;
      read = subst (λ (rs : List R). AreRead (by_reads calls) (limit_beside o) before rs (two.holds.core ∷ two.holds.log ∷ [])) (sym read.1) so_far;
    };
    holds = holds;
  }
  holders_read Holds (Some v) takes read holds = record {
    inputs = two.holds.core ∷ two.holds.log ∷ v.items ∷ [];
    takes = inr refl;
    read = record {
      count = just_three takes read.0;
      read = one_next (by_reads calls) (limit_beside o) before mid after (two.holds.core ∷ two.holds.log ∷ []) 2 o.log_limit v.items so_far refl refl read.1;
    };
    holds = holds;
  }

-- ---- the answer

module _ (o : Options) (question : Option Question) (core log : List ℕ) where
  pub tells_holding : (since : Option (List ℕ)) (answer : Answer) → TellsHolding o question core log since answer
      → Tells (Holders o question) (inputs_of core log since) answer
  tells_holding None answer tells = tells
  tells_holding (Some s) answer tells = tells

  untold_holding : (since : Option (List ℕ)) (e : WhyError) → (e ≢ Refused NoMemory → IsNotHeld question core log since e)
      → IsUntold (Holders o question) (inputs_of core log since) (at_why e)
  untold_holding None (Refused e) refused = λ other. refused (λ same. other cc)
  untold_holding (Some s) (Refused e) refused = λ other. refused (λ same. other cc)
  untold_holding None (Missing a) refused = refused (λ same. cc)
  untold_holding (Some s) (Missing a) refused = refused (λ same. cc)

-- all were read to their ends, and what they held gives no answer for this reason
pub unheld : {R : Type 0} (calls : Calls R) (o : Options) (question : Option Question) (IsOf : List ℕ → List ℕ → Type 0) (before mid after : List R) → length mid ≡ length before
    → (two : AreFirstTwo before mid (Passes calls (limits_in o) IsOf)) → (earlier : Option (Vec ℕ Global)) (e : WhyError)
    → TakesInputs (Holders o question) (length before)
    → MatchOption earlier ((length mid ≤ 2) × (after ≡ mid)) (λ v. (3 ≤ length mid) × IsReadAt (by_reads calls) 2 o.log_limit mid after v.items)
    → (e ≢ Refused NoMemory → IsNotHeld question two.holds.core two.holds.log (option_map (λ v. v.items) earlier) e)
    → IsUnanswered (by_reads calls) (Holders o question) before after (at_why e)
unheld calls o question IsOf before mid after same two earlier (Refused e) takes read refused =
    holders_read calls o question IsOf before mid after same two (λ inputs. IsUntold (Holders o question) inputs (Find e)) earlier takes read
    (untold_holding o question two.holds.core two.holds.log (option_map (λ v. v.items) earlier) (Refused e) refused)
unheld calls o question IsOf before mid after same two earlier (Missing a) takes read refused =
    holders_read calls o question IsOf before mid after same two (λ inputs. IsUntold (Holders o question) inputs (NoBlock a)) earlier takes read
    (untold_holding o question two.holds.core two.holds.log (option_map (λ v. v.items) earlier) (Missing a) refused)
