-- From files that are not opened, and runs without a status, to words that get no answer.
use Rattle.std.proofs.Common.{◌≡◌, List, [], ℕ, Option, None, refl, sym, subst}
use Rattle.leak_find.specs.declared.fault.RunFault.{RunFault}
use Rattle.leak_find.specs.declared.fault.RunFault.TheVariants as run
use Rattle.leak_find.specs.declared.task.Task.{Task}
use Rattle.leak_find.specs.Streams.{Sink, Source}
use Rattle.std.proofs.lemmas.List.{append-nil}
use Rattle.leak_program.specs.Opening.{IsOpenFault, Opens}
use Rattle.leak_program.proofs.OpeningLemmas.{part_opened}
use Rattle.leak_program.specs.declared.open_fault.OpenFault.{OpenFault}
use Rattle.leak_program.specs.declared.open_fault.OpenFault.TheVariants as opening
use Rattle.leak_streams.specs.declared.fault.ReadFault.{ReadFault}
use Rattle.leak_request.specs.declared.options.Request.{Request}
use Rattle.leak_request.specs.Requests.{IsRequestOf}
use Rattle.leak_program.specs.declared.failure.Failure.{Failure}
use Rattle.leak_program.specs.declared.failure.Failure.TheVariants.{BadArgument, Usage, Open, Read, Run, NoMemory}
use Rattle.leak_program.specs.Answer.{Answers, AnswersBy, FailsBy, IsFailureOf, IsNotShown}
use Rattle.leak_program.specs.Asked.{AsksFiles, AsksText, paths_in, task_in, text_in}
use Rattle.leak_program.specs.Failures.{IsNamedBy, IsOfReader, LacksPath, at_opening}
use Rattle.leak_program.specs.Files.{AnswersFiles, FailsFiles, IsRefusalOf, OfOpened}

-- the task of a request, done for its files, answers the words that make the request
pub answered : {O F W V : Type 0} (opens : Opens O F) (source : Source F) (sink : Sink W) (warner : Sink V) (words : List (List ℕ)) (r : Request) (paths : List (List ℕ)) (task : Task)
    (first last : O) (held holds : W) (heard hears : V) (status : ℕ) → IsRequestOf words r → AsksFiles r paths task
    → OfOpened opens paths first last (AnswersFiles source sink warner task held holds heard hears status)
    → Answers opens source sink warner words first last held holds heard hears status
answered opens source sink warner words r paths task first last held holds heard hears status asked asks answers = record {
  request = r;
  asked = asked;
  answers = subst (λ (t : Option Task). OfOpened opens (paths_in r) first last (AnswersBy source sink warner t (text_in r) held holds heard hears status)) (sym asks.task_is)
      (subst (λ (ps : List (List ℕ)). OfOpened opens ps first last (AnswersFiles source sink warner task held holds heard hears status)) asks.paths_are answers);
}

fails_by : {O F W : Type 0} (opens : Opens O F) (source : Source F) (sink : Sink W) (r : Request) (paths : List (List ℕ)) (task : Task) (first last : O)
    (held holds : W) (failure : Failure) → AsksFiles r paths task
    → IsRefusalOf opens paths first last held holds (FailsFiles source sink task held holds) failure
    → IsRefusalOf opens (paths_in r) first last held holds (FailsBy source sink (task_in r) (text_in r) held holds) failure
fails_by opens source sink r paths task first last held holds failure asks fails =
    subst (λ (t : Option Task). IsRefusalOf opens (paths_in r) first last held holds (FailsBy source sink t (text_in r) held holds) failure) (sym asks.task_is)
    (subst (λ (ps : List (List ℕ)). IsRefusalOf opens ps first last held holds (FailsFiles source sink task held holds) failure) asks.paths_are fails)

-- what refuses the request refuses the words that make it
refuses : {O F W : Type 0} (opens : Opens O F) (source : Source F) (sink : Sink W) (words : List (List ℕ)) (r : Request) (first last : O)
    (held holds : W) (failure : Failure) → IsRequestOf words r
    → IsRefusalOf opens (paths_in r) first last held holds (FailsBy source sink (task_in r) (text_in r) held holds) failure
    → IsFailureOf opens source sink words first last held holds failure
refuses opens source sink words r first last held holds BadArgument asked fails = absurd fails
refuses opens source sink words r first last held holds (Usage fault) asked fails = absurd fails
refuses opens source sink words r first last held holds (Open path reason) asked fails = record { request = r; asked = asked; fails = fails }
refuses opens source sink words r first last held holds (Read n path f) asked fails = record { request = r; asked = asked; fails = fails }
refuses opens source sink words r first last held holds (Run fault) asked fails = record { request = r; asked = asked; fails = fails }
refuses opens source sink words r first last held holds NoMemory asked fails = record { request = r; asked = asked; fails = fails }

pub refused_by : {O F W : Type 0} (opens : Opens O F) (source : Source F) (sink : Sink W) (words : List (List ℕ)) (r : Request) (paths : List (List ℕ)) (task : Task) (first last : O)
    (held holds : W) (failure : Failure) → IsRequestOf words r → AsksFiles r paths task
    → IsRefusalOf opens paths first last held holds (FailsFiles source sink task held holds) failure
    → IsFailureOf opens source sink words first last held holds failure
refused_by opens source sink words r paths task first last held holds failure asked asks fails =
    refuses opens source sink words r first last held holds failure asked
    (fails_by opens source sink r paths task first last held holds failure asks fails)

-- ---- a text

pub shown : {O F W V : Type 0} (opens : Opens O F) (source : Source F) (sink : Sink W) (warner : Sink V) (words : List (List ℕ)) (r : Request) (text : List ℕ)
    (first : O) (held holds : W) (heard : V) (status : ℕ) → IsRequestOf words r → AsksText r text → (status ≡ 0) × sink.whole text held holds
    → Answers opens source sink warner words first first held holds heard heard status
shown opens source sink warner words r text first held holds heard status asked asks told = record {
  request = r;
  asked = asked;
  answers = subst (λ (t : Option Task). OfOpened opens (paths_in r) first first (AnswersBy source sink warner t (text_in r) held holds heard heard status)) (sym asks.none)
      (subst (λ (ps : List (List ℕ)). OfOpened opens ps first first (AnswersBy source sink warner None (text_in r) held holds heard heard status)) (sym asks.no_path)
      (record { files = []; opened = refl; holds = record { written = subst (λ (t : List ℕ). sink.whole t held holds) asks.text_is told.1; silent = refl; status_is = told.0 } }));
}

cut : {O F W : Type 0} (opens : Opens O F) (source : Source F) (sink : Sink W) (text : List ℕ) (first : O) (held holds : W) (failure : Failure)
    → IsNotShown sink text held holds failure → IsRefusalOf opens [] first first held holds (FailsBy source sink None text held holds) failure
cut opens source sink text first held holds BadArgument fails = absurd fails
cut opens source sink text first held holds (Usage fault) fails = absurd fails
cut opens source sink text first held holds (Open path reason) fails = absurd fails
cut opens source sink text first held holds (Read n path f) fails = absurd fails
cut opens source sink text first held holds (Run (run.Read n f)) fails = absurd fails
cut opens source sink text first held holds (Run (run.Find e)) fails = absurd fails
cut opens source sink text first held holds (Run (run.NoBlock a)) fails = absurd fails
cut opens source sink text first held holds (Run (run.Write f)) fails = (record { files = []; opened = refl; holds = fails }, tt)
cut opens source sink text first held holds NoMemory fails = absurd fails

pub not_shown : {O F W : Type 0} (opens : Opens O F) (source : Source F) (sink : Sink W) (words : List (List ℕ)) (r : Request) (text : List ℕ) (first : O)
    (held holds : W) (failure : Failure) → IsRequestOf words r → AsksText r text → IsNotShown sink text held holds failure
    → IsFailureOf opens source sink words first first held holds failure
not_shown opens source sink words r text first held holds failure asked asks fails =
    refuses opens source sink words r first first held holds failure asked
    (subst (λ (t : Option Task). IsRefusalOf opens (paths_in r) first first held holds (FailsBy source sink t (text_in r) held holds) failure) (sym asks.none)
    (subst (λ (ps : List (List ℕ)). IsRefusalOf opens ps first first held holds (FailsBy source sink None (text_in r) held holds) failure) (sym asks.no_path)
    (cut opens source sink (text_in r) first held holds failure
    (subst (λ (t : List ℕ). IsNotShown sink t held holds failure) asks.text_is fails))))

module _ {O F W : Type 0} (opens : Opens O F) (paths : List (List ℕ)) (first last : O) (held holds : W) (fails : RunFault → List F → Type 0) where
  -- files that are not opened
  pub unopened : (fault : OpenFault) (failure : Failure) → failure ≡ at_opening fault → holds ≡ held → IsOpenFault opens paths first last fault
      → IsRefusalOf opens paths first last held holds fails failure
  unopened (opening.Refused path reason) failure told same refused =
      subst (IsRefusalOf opens paths first last held holds fails) (sym told) (same, refused)
  unopened opening.NoMemory failure told same refused = subst (IsRefusalOf opens paths first last held holds fails) (sym told) (same, refused)

  kept : (fault : RunFault) → IsOfReader fault → OfOpened opens paths first last (fails fault)
      → ((n : ℕ) (f : ReadFault) (files : List F) → fails (run.Read n f) files → holds ≡ held) → holds ≡ held
  kept (run.Read n f) reader of keeps = keeps n f of.files of.holds
  kept (run.Find e) reader of keeps = absurd reader
  kept (run.NoBlock a) reader of keeps = absurd reader
  kept (run.Write f) reader of keeps = absurd reader

  -- a run without a status, by the path of the reader that is at fault
  pub told : (fault : RunFault) (failure : Failure) → IsNamedBy paths fault failure → OfOpened opens paths first last (fails fault)
      → ((n : ℕ) (f : ReadFault) (files : List F) → fails (run.Read n f) files → holds ≡ held)
      → IsRefusalOf opens paths first last held holds fails failure
  told fault BadArgument named of keeps = absurd named
  told fault (Usage f) named of keeps = absurd named
  told fault (Open path reason) named of keeps = absurd named
  told fault (Read n path f) named of keeps = (subst (λ e. OfOpened opens paths first last (fails e)) named.0 of, named.1)
  told fault (Run g) named of keeps =
      (subst (λ e. OfOpened opens paths first last (fails e)) (sym named.0) of, subst (LacksPath paths) (sym named.0) named.1)
  told fault NoMemory named of keeps =
      (kept fault named of keeps, part_opened opens paths paths [] first of.files last (sym (append-nil paths)) of.opened)
