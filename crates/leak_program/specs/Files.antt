-- What is done with files. No contract can say what a file holds: the readers are the files that an opener gave for the paths, and what is
-- said of them is said by each of their reads.
use Rattle.std.specs.Prelude.{◌≡◌, ℕ, List, Some, string_bytes}
use Rattle.leak_find.specs.declared.fault.RunFault.{RunFault}
use Rattle.leak_find.specs.declared.fault.RunFault.TheVariants as run
use Rattle.leak_find.specs.declared.task.Task.{Task}
use Rattle.leak_find.specs.Run.{IsRunFault, Runs}
use Rattle.leak_find.specs.Streams.{Sink, Source}
use Rattle.leak_program.specs.Opening.{AreOpened, IsCutShort, IsRefusedAt, Opens}
use Rattle.leak_program.specs.Failures.{LacksPath, path_at}
use Rattle.leak_program.specs.declared.failure.Failure.{Failure}
use Rattle.leak_program.specs.declared.failure.Failure.TheVariants.{BadArgument, Usage, Open, Read, Run, NoMemory}

-- each of the paths was opened once, in order, and this is true of their files
pub record OfOpened {O F : Type 0} (opens : Opens O F) (paths : List (List ℕ)) (first last : O) (Holds : List F → Type 0) : Type 0 where
  pub files : List F
  pub opened : AreOpened opens paths first files last
  pub holds : Holds files

-- the files were read for the task; its answer was written, and nothing else, and its warnings to the second writer, or a first part
-- of them; the status is that of the answer and the warnings
abbrev pub AnswersFiles : {F W V : Type 0} → Source F → Sink W → Sink V → Task → W → W → V → V → ℕ → List F → Type 0
AnswersFiles {F} source sink warner task held holds heard hears status files =
    (after : List F) × Runs source sink warner task files after held holds heard hears status

-- the files were read for the task, and its run has no status for this reason
abbrev pub FailsFiles : {F W : Type 0} → Source F → Sink W → Task → W → W → RunFault → List F → Type 0
FailsFiles {F} source sink task held holds fault files = (after : List F) × IsRunFault source sink task files after held holds fault

-- Why files give no answer: one of them is refused, the first, and no call is made of the writer; or they are opened, and their run has
-- no status, as is said. A reader that was not read to its end is told with the path of its file. If memory is refused, no path was opened
-- twice, and none out of order.
abbrev pub IsRefusalOf : {O F W : Type 0} → Opens O F → List (List ℕ) → O → O → W → W → (RunFault → List F → Type 0) → Failure → Type 0
IsRefusalOf opens paths first last held holds fails BadArgument = ⊥
IsRefusalOf opens paths first last held holds fails (Usage fault) = ⊥
IsRefusalOf opens paths first last held holds fails (Open path reason) =
    (holds ≡ held) × IsRefusedAt opens paths first last (string_bytes path) reason
IsRefusalOf opens paths first last held holds fails (Read n path f) =
    OfOpened opens paths first last (fails (run.Read n f)) × (path_at paths n ≡ Some (string_bytes path))
IsRefusalOf opens paths first last held holds fails (Run fault) = OfOpened opens paths first last (fails fault) × LacksPath paths fault
IsRefusalOf opens paths first last held holds fails NoMemory = (holds ≡ held) × IsCutShort opens paths first last
