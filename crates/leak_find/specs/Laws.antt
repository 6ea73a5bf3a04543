-- What runs come to if readers tell the bytes that they have left, and writers those that they hold.
use Rattle.std.specs.Prelude.{ℕ, List, map, Option}
use Rattle.leak_find.specs.declared.fault.RunFault.{RunFault}
use Rattle.leak_find.specs.declared.task.Task.{Task}
use Rattle.leak_find.specs.Streams.{Source, Sink, by_bytes_left, by_bytes_held}
use Rattle.leak_find.specs.Run.{Runs, IsRunFault}

-- a run, and its refusal
pub record RunsTell {R W V : Type 0} (source : Source R) (left : R → Option (List ℕ)) (sink : Sink W) (contents : W → Option (List ℕ))
    (warner : Sink V) (warnings : V → Option (List ℕ)) : Type 0 where
  pub runs : (task : Task) (before after : List R) (held holds : W) (heard hears : V) (status : ℕ)
      → Runs source sink warner task before after held holds heard hears status
      → Runs by_bytes_left by_bytes_held by_bytes_held task (map left before) (map left after)
      (contents held) (contents holds) (warnings heard) (warnings hears) status
  pub refused : (task : Task) (before after : List R) (held holds : W) (e : RunFault)
      → IsRunFault source sink task before after held holds e
      → IsRunFault by_bytes_left by_bytes_held task (map left before) (map left after) (contents held) (contents holds) e
