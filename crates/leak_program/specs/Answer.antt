-- What the program answers to the words of a command line, which begin with its name.
use Rattle.std.specs.Prelude.{◌≡◌, ℕ, List, Option, None, Some}
use Rattle.leak_find.specs.declared.fault.RunFault.{RunFault}
use Rattle.leak_find.specs.declared.fault.RunFault.TheVariants as run
use Rattle.leak_find.specs.declared.task.Task.{Task}
use Rattle.leak_find.specs.Streams.{Sink, Source}
use Rattle.leak_program.specs.Opening.{Opens}
use Rattle.leak_request.specs.declared.options.Request.{Request}
use Rattle.leak_request.specs.Requests.{IsRequestOf, IsUsageFaultOf}
use Rattle.leak_program.specs.declared.failure.Failure.{Failure}
use Rattle.leak_program.specs.declared.failure.Failure.TheVariants.{BadArgument, Usage, Open, Read, Run, NoMemory}
use Rattle.leak_program.specs.Asked.{paths_in, task_in, text_in}
use Rattle.leak_program.specs.Files.{AnswersFiles, FailsFiles, IsRefusalOf, OfOpened}

-- a text was asked for, and just that was written; there is no warning
pub record IsShown {W V : Type 0} (sink : Sink W) (text : List ℕ) (held holds : W) (heard hears : V) (status : ℕ) : Type 0 where
  pub written : sink.whole text held holds
  pub silent : hears ≡ heard
  pub status_is : status ≡ 0

-- a text was asked for, and was not written completely
abbrev pub IsCut : {W : Type 0} → Sink W → List ℕ → W → W → RunFault → Type 0
IsCut sink text held holds (run.Read n f) = ⊥
IsCut sink text held holds (run.Find e) = ⊥
IsCut sink text held holds (run.NoBlock a) = ⊥
IsCut sink text held holds (run.Write f) = sink.cut_off text held holds f

-- the same as a failure
abbrev pub IsNotShown : {W : Type 0} → Sink W → List ℕ → W → W → Failure → Type 0
IsNotShown sink text held holds BadArgument = ⊥
IsNotShown sink text held holds (Usage fault) = ⊥
IsNotShown sink text held holds (Open path reason) = ⊥
IsNotShown sink text held holds (Read n path f) = ⊥
IsNotShown sink text held holds (Run fault) = IsCut sink text held holds fault
IsNotShown sink text held holds NoMemory = ⊥

-- the task was done for the files; or, if there is none, the text was shown, and there are no files
abbrev pub AnswersBy : {F W V : Type 0} → Source F → Sink W → Sink V → Option Task → List ℕ → W → W → V → V → ℕ → List F → Type 0
AnswersBy source sink warner (Some task) text held holds heard hears status files =
    AnswersFiles source sink warner task held holds heard hears status files
AnswersBy source sink warner None text held holds heard hears status files = IsShown sink text held holds heard hears status

-- why the run of what the files hold has no status, or the text was not shown
abbrev pub FailsBy : {F W : Type 0} → Source F → Sink W → Option Task → List ℕ → W → W → RunFault → List F → Type 0
FailsBy source sink (Some task) text held holds fault files = FailsFiles source sink task held holds fault files
FailsBy source sink None text held holds fault files = IsCut sink text held holds fault

-- the request that the words make was answered, over the files that its paths opened, each once and in order
pub record Answers {O F W V : Type 0} (opens : Opens O F) (source : Source F) (sink : Sink W) (warner : Sink V) (words : List (List ℕ))
    (first last : O) (held holds : W) (heard hears : V) (status : ℕ) : Type 0 where
  pub request : Request
  pub asked : IsRequestOf words request
  pub answers : OfOpened opens (paths_in request) first last (AnswersBy source sink warner (task_in request) (text_in request) held holds heard hears status)

-- the request that the words make has no answer, for this reason
pub record FailsRequest {O F W : Type 0} (opens : Opens O F) (source : Source F) (sink : Sink W) (words : List (List ℕ))
    (first last : O) (held holds : W) (failure : Failure) : Type 0 where
  pub request : Request
  pub asked : IsRequestOf words request
  pub fails : IsRefusalOf opens (paths_in request) first last held holds (FailsBy source sink (task_in request) (text_in request) held holds) failure

-- why there is no answer: the words are no request, nothing is opened, and no call is made of the writer; or what they ask for has none
abbrev pub IsFailureOf : {O F W : Type 0} → Opens O F → Source F → Sink W → List (List ℕ) → O → O → W → W → Failure → Type 0
IsFailureOf opens source sink words first last held holds BadArgument = ⊥
IsFailureOf opens source sink words first last held holds (Usage fault) = (last ≡ first) × (holds ≡ held) × IsUsageFaultOf words fault
IsFailureOf opens source sink words first last held holds (Open path reason) =
    FailsRequest opens source sink words first last held holds (Open path reason)
IsFailureOf opens source sink words first last held holds (Read n path f) =
    FailsRequest opens source sink words first last held holds (Read n path f)
IsFailureOf opens source sink words first last held holds (Run fault) =
    FailsRequest opens source sink words first last held holds (Run fault)
IsFailureOf opens source sink words first last held holds NoMemory =
    FailsRequest opens source sink words first last held holds NoMemory
