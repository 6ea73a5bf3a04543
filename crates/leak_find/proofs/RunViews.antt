-- Runs by the calls of their streams, as seen by one who knows less of these.
use Rattle.std.proofs.Common.{ℕ, List, map, ap}
use Rattle.leak_report.specs.Warnings.{warnings_of}
use Rattle.leak_find.specs.declared.fault.RunFault.{RunFault}
use Rattle.leak_find.specs.declared.fault.RunFault.TheVariants.{Read, Find, NoBlock, Write}
use Rattle.leak_find.specs.declared.task.Task.{Task}
use Rattle.leak_find.specs.Answers.{IsUntold, Tells}
use Rattle.leak_find.specs.Passing.{passes_core}
use Rattle.leak_find.specs.Run.{IsRunFault, Runs}
use Rattle.leak_find.specs.Streams.{Sink, Source}
use Rattle.leak_find.specs.Tasks.{limit_at}
use Rattle.leak_find.proofs.ViewLemmas.{Sees, Shows, of_inputs, tried, unread}

module _ {R S W X : Type 0} (view : R → S) (source : Source R) (known : Source S) (sees : Sees view source known)
    (look : W → X) (sink : Sink W) (shown : Sink X) (shows : Shows look sink shown) where
  pub refused : (task : Task) (before after : List R) (w z : W) (e : RunFault) → IsRunFault source sink task before after w z e
      → IsRunFault known shown task (map view before) (map view after) (look w) (look z) e
  refused task before after w z (Read n e) fault = (ap look fault.0, unread view source known sees (passes_core task) (limit_at task) before after n e fault.1)
  refused task before after w z (Find e) fault =
      (ap look fault.0, of_inputs view source known sees task before after (λ inputs. IsUntold task inputs (Find e)) fault.1)
  refused task before after w z (NoBlock a) fault =
      (ap look fault.0, of_inputs view source known sees task before after (λ inputs. IsUntold task inputs (NoBlock a)) fault.1)
  refused task before after w z (Write f) fault = record {
    answer = fault.answer;
    answered = of_inputs view source known sees task before after (λ inputs. Tells task inputs fault.answer) fault.answered;
    cut_off = shows.cut_off _ w z f fault.cut_off;
  }

  module _ {V Y : Type 0} (listen : V → Y) (warner : Sink V) (heard : Sink Y) (warns : Shows listen warner heard) where
    pub runs : (task : Task) (before after : List R) (w z : W) (v u : V) (status : ℕ) → Runs source sink warner task before after w z v u status
        → Runs known shown heard task (map view before) (map view after) (look w) (look z) (listen v) (listen u) status
    runs task before after w z v u status run = record {
      answer = run.answer;
      answered = of_inputs view source known sees task before after (λ inputs. Tells task inputs run.answer) run.answered;
      written = shows.whole _ w z run.written;
      warned = tried listen warner heard warns (warnings_of run.answer.signs.items) v u run.warned;
      status_is = run.status_is;
    }
