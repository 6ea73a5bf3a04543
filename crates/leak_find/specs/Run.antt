-- What a run does to its readers and its writers.
use Rattle.std.specs.Prelude.{◌≡◌, ℕ, Bool, ◌&&◌, List, length, nat_lt, if◌then◌else◌}
use Rattle.leak_streams.specs.declared.fault.WriteFault.{WriteFault}
use Rattle.leak_report.specs.Warnings.{warnings_of}
use Rattle.leak_find.specs.declared.answer.Answer.{Answer}
use Rattle.leak_find.specs.declared.fault.RunFault.{RunFault}
use Rattle.leak_find.specs.declared.fault.RunFault.TheVariants.{Read, Find, NoBlock, Write}
use Rattle.leak_find.specs.declared.task.Task.{Task}
use Rattle.leak_find.specs.Answers.{IsUntold, Tells}
use Rattle.leak_find.specs.Inputs.{AreAllRead}
use Rattle.leak_find.specs.Passing.{IsUnread}
use Rattle.leak_find.specs.Streams.{Source, Sink, IsTried}
use Rattle.leak_find.specs.Tasks.{TakesInputs, is_strict, limit_at}

-- all readers were read to their ends, as many as the task takes, and this is so of what they held
pub record OfInputs {R : Type 0} (source : Source R) (task : Task) (before after : List R) (Holds : List (List ℕ) → Type 0) : Type 0 where
  pub inputs : List (List ℕ)
  pub takes : TakesInputs task (length inputs)
  pub read : AreAllRead source (limit_at task) before after inputs
  pub holds : Holds inputs

-- all readers were read to their ends, and this is the answer for what they held
abbrev pub HasAnswered : {R : Type 0} → Source R → Task → List R → List R → Answer → Type 0
HasAnswered source task before after answer = OfInputs source task before after (λ inputs. Tells task inputs answer)

-- why there is no answer: a reader was not read to its end; or all were, and what they held gives none for this reason
abbrev pub IsUnanswered : {R : Type 0} → Source R → Task → List R → List R → RunFault → Type 0
IsUnanswered source task before after (Read n e) = IsUnread source task before after n e
IsUnanswered source task before after (Find e) = OfInputs source task before after (λ inputs. IsUntold task inputs (Find e))
IsUnanswered source task before after (NoBlock a) = OfInputs source task before after (λ inputs. IsUntold task inputs (NoBlock a))
IsUnanswered source task before after (Write f) = ⊥

-- 3 if a warning counts, else whether something leaked
abbrev pub status_by : Bool → ℕ → List ℕ → ℕ
status_by strict leaked warnings =
    if strict && nat_lt 0 (length warnings) then 3 else (if nat_lt 0 leaked then 1 else 0)

-- What was written is the answer for what the readers held, and nothing else; and to the second writer, of the warnings, all or
-- those that it took up to a fault.
pub record Runs {R W V : Type 0} (source : Source R) (sink : Sink W) (warner : Sink V) (task : Task) (before after : List R)
    (held holds : W) (heard hears : V) (status : ℕ) : Type 0 where
  pub answer : Answer
  pub answered : HasAnswered source task before after answer
  pub written : sink.whole answer.text.items held holds
  pub warned : IsTried warner (warnings_of answer.signs.items) heard hears
  pub status_is : status ≡ status_by (is_strict task) answer.leaked (warnings_of answer.signs.items)

-- the answer was made, and was not written completely
pub record IsWriteFault {R W : Type 0} (source : Source R) (sink : Sink W) (task : Task) (before after : List R)
    (held holds : W) (f : WriteFault) : Type 0 where
  pub answer : Answer
  pub answered : HasAnswered source task before after answer
  pub cut_off : sink.cut_off answer.text.items held holds f

-- why a run gives no status: until the answer is made, the writer is the one that it was
abbrev pub IsRunFault : {R W : Type 0} → Source R → Sink W → Task → List R → List R → W → W → RunFault → Type 0
IsRunFault source sink task before after held holds (Read n e) = (holds ≡ held) × IsUnanswered source task before after (Read n e)
IsRunFault source sink task before after held holds (Find e) = (holds ≡ held) × IsUnanswered source task before after (Find e)
IsRunFault source sink task before after held holds (NoBlock a) = (holds ≡ held) × IsUnanswered source task before after (NoBlock a)
IsRunFault source sink task before after held holds (Write f) = IsWriteFault source sink task before after held holds f
