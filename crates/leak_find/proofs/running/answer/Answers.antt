-- From the lemmas of InputLemmas.
use Rattle.std.proofs.Common.{List, ℕ, subst, sym}
use Rattle.std.specs.Prelude.{Vec}
use Rattle.std.specs.declared.alloc.Global.{Global}
use Rattle.std.proofs.lemmas.Result.{IfErr-weaker}
use Rattle.leak_find.specs.Answers.{IsUntold}
use Rattle.leak_find.specs.Inputs.{bytes_of}
use Rattle.leak_find.specs.Streams.{by_reads}
use Rattle.leak_find.specs.declared.task.Task.{Task}
use Rattle.leak_find.specs.declared.task.Task.TheVariants.{Grow}
use Rattle.leak_find.proofs.InputLemmas.{untold_all}
use Rattle.leak_find.proofs.running.answer.Goals as goal

pub returns-in_ok-inputs-in-Grow-clause-refused : goal.returns-in_ok-inputs-in-Grow-clause-refused
returns-in_ok-inputs-in-Grow-clause-refused g c =
    let inputs : List (Vec ℕ Global) = c.in_ok-inputs-in-Grow.inputs.items in
    IfErr-weaker c.growth.result _ _ (λ e untold.
    untold_all (by_reads g.R.ReadCalls.calls) c.args.task.now c.args.readers.now c.read_inputs-in-Grow.new.readers (bytes_of inputs) e c.requires c.in_ok-inputs-in-Grow.ensures.ok
    (subst (λ (t : Task). IsUntold t (bytes_of inputs) e) (sym c.in-Grow.is)
    (subst (λ (v : List (Vec ℕ Global)). IsUntold (Grow c.in-Grow.field-0) (bytes_of v) e) c.as_slice-in-Grow.ensures.value (untold c.in-Grow.field-0)))) c.growth.ensures.refused
