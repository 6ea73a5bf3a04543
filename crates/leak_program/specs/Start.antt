-- What the program does from its start to its exit status: it answers its words, and says why if there is no answer.
use Rattle.std.specs.Prelude.{◌≡◌, ◌⊎◌, ◌<◌, ◌≤◌, ℕ, List, Result, Ok, Err, length}
use Rattle.leak_find.specs.Streams.{IsTried, Sink, Source}
use Rattle.std.specs.declared.io.ErrorKind.{ErrorKind}
use Rattle.std.specs.declared.io.ErrorKind.TheVariants as kind
use Rattle.leak_program.specs.Opening.{Opens}
use Rattle.leak_program.specs.Answer.{Answers, IsFailureOf}
use Rattle.leak_program.specs.Messages.{message_of}
use Rattle.leak_program.specs.Sample.{IsSampleFailure, SearchesSample}
use Rattle.leak_program.specs.declared.failure.Failure.{Failure}
use Rattle.leak_program.specs.declared.failure.Failure.TheVariants.{BadArgument, Usage, Open, Read, Run, NoMemory}

-- the status: that of the answer, and 2 if there is none
abbrev pub status_of : Result ℕ Failure → ℕ
status_of (Ok status) = status
status_of (Err failure) = 2

-- what is said of a failure: its message, or that of want of memory, all of it or up to a fault of the writer
pub record IsTold {V : Type 0} (warner : Sink V) (failure : Failure) (heard hears : V) : Type 0 where
  pub told : Failure
  pub told_is : (told ≡ failure) ⊎ (told ≡ NoMemory)
  pub said : IsTried warner (message_of told) heard hears

-- what becomes of the second writer after an answer: no call is made of it, or it gets what is said of the failure
abbrev pub IsSaid : {V : Type 0} → Sink V → Result ℕ Failure → V → V → Type 0
IsSaid warner (Ok status) heard hears = hears ≡ heard
IsSaid warner (Err failure) heard hears = IsTold warner failure heard hears

-- the answer to the words, or why there is none
abbrev pub IsAnswer : {O F W V : Type 0} → Opens O F → Source F → Sink W → Sink V → List (List ℕ) → O → O → W → W → V → V
    → Result ℕ Failure → Type 0
IsAnswer opens source sink warner words first last held holds heard hears (Ok status) =
    (length words < 2 → (last ≡ first) × SearchesSample sink warner held holds heard hears status)
    × (2 ≤ length words → Answers opens source sink warner words first last held holds heard hears status)
IsAnswer opens source sink warner words first last held holds heard hears (Err failure) =
    (hears ≡ heard) × (length words < 2 → (last ≡ first) × IsSampleFailure sink held holds failure)
    × (2 ≤ length words → IsFailureOf opens source sink words first last held holds failure)

-- the words were answered, and what is to be said of it was said
pub record IsAnswered {O F W V : Type 0} (opens : Opens O F) (source : Source F) (sink : Sink W) (warner : Sink V)
    (words : List (List ℕ)) (first last : O) (held holds : W) (heard hears : V) (status : ℕ) : Type 0 where
  pub result : Result ℕ Failure
  pub hearing : V
  pub answer : IsAnswer opens source sink warner words first last held holds heard hearing result
  pub said : IsSaid warner result hearing hears
  pub status_is : status ≡ status_of result

-- why words can't be had: one is not UTF-8, or an allocation failed
abbrev pub IsUnread : Failure → Type 0
IsUnread BadArgument = Unit {0}
IsUnread NoMemory = Unit {0}
IsUnread (Usage fault) = ⊥
IsUnread (Open path reason) = ⊥
IsUnread (Read n path f) = ⊥
IsUnread (Run fault) = ⊥

-- the reason that the kind of the error tells: only want of memory is told as such
abbrev pub unread_as : ErrorKind → Failure
unread_as kind.OutOfMemory = NoMemory
unread_as _ = BadArgument

-- the program's words can't be had, nothing but that is said, and no call is made of the writer
pub record IsUnstarted {W V : Type 0} (warner : Sink V) (held holds : W) (heard hears : V) (status : ℕ) : Type 0 where
  pub failure : Failure
  pub unread : IsUnread failure
  pub silent : holds ≡ held
  pub said : IsTold warner failure heard hears
  pub status_is : status ≡ 2

-- Words were answered, or can't be had, and no file was opened. The kit says of no words that they are those of the program's call.
abbrev pub HasStarted : {O F W V : Type 0} → Opens O F → Source F → Sink W → Sink V → O → O → W → W → V → V → ℕ → Type 0
HasStarted opens source sink warner first last held holds heard hears status =
    ((words : List (List ℕ)) × IsAnswered opens source sink warner words first last held holds heard hears status)
    ⊎ ((last ≡ first) × IsUnstarted warner held holds heard hears status)
