-- The run over the sample's readers, by their bytes.
use Rattle.std.proofs.Common.{◌≡◌, subst, List, map, Option, ℕ}
use Rattle.leak_streams.proofs.Consumed.{tells}
use Rattle.leak_find.specs.declared.fault.RunFault.{RunFault}
use Rattle.leak_find.specs.declared.task.Task.{Task}
use Rattle.leak_find.specs.Run.{IsRunFault, Runs}
use Rattle.leak_find.specs.Streams.{Sink, by_bytes_left, by_reads}
use Rattle.leak_find.proofs.RunViews.{refused, runs}
use Rattle.leak_find.proofs.ViewLemmas.{Shows, sees_left}

-- a sink, as it is
shows_all : {W : Type 0} (sink : Sink W) → Shows (λ w. w) sink sink
shows_all sink = record { whole = λ text before after is. is; cut_off = λ text before after f is. is }

pub over_inputs : {R W V : Type 0} (left : R → Option (List ℕ)) {sink : Sink W} {warner : Sink V} {task : Task} {before after : List R}
    {inputs : List (Option (List ℕ))} {held holds : W} {heard hears : V} {status : ℕ}
    → Runs (by_reads (tells left)) sink warner task before after held holds heard hears status → map left before ≡ inputs
    → Runs by_bytes_left sink warner task inputs (map left after) held holds heard hears status
over_inputs left {sink} {warner} {task} {before} {after} {inputs} {held} {holds} {heard} {hears} {status} ran same =
    subst (λ (b : List (Option (List ℕ))). Runs by_bytes_left sink warner task b (map left after) held holds heard hears status) same
    (runs left (by_reads (tells left)) by_bytes_left (sees_left left) (λ w. w) sink sink (shows_all sink) (λ v. v) warner warner (shows_all warner)
    task before after held holds heard hears status ran)

pub fails_over_inputs : {R W : Type 0} (left : R → Option (List ℕ)) (sink : Sink W) (task : Task) (before after : List R)
    (inputs : List (Option (List ℕ))) (held holds : W) (fault : RunFault)
    → IsRunFault (by_reads (tells left)) sink task before after held holds fault → map left before ≡ inputs
    → IsRunFault by_bytes_left sink task inputs (map left after) held holds fault
fails_over_inputs left sink task before after inputs held holds fault failed same =
    subst (λ (b : List (Option (List ℕ))). IsRunFault by_bytes_left sink task b (map left after) held holds fault) same
    (refused left (by_reads (tells left)) by_bytes_left (sees_left left) (λ w. w) sink sink (shows_all sink) task before after held holds fault failed)
