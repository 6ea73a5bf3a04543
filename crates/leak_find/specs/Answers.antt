-- What is told of inputs: for each task what its answer is, and why there is none.
use Rattle.std.specs.Prelude.{◌≡◌, ◌≢◌, ℕ, Bool, true, false, List, [], ◌∷◌, Option, None, Some, if◌then◌else◌, slice_get}
use Rattle.leak_index.specs.Readings.{distances_of}
use Rattle.leak_holders.specs.declared.question.Question.{Question}
use Rattle.leak_request.specs.declared.options.Options.{Options}
use Rattle.leak_search.specs.Inputs.{IsFaultOfOne, IsFaultOfTwo}
use Rattle.leak_search.specs.Signs.{AreSigns}
use Rattle.leak_search.specs.declared.error.FindError.{FindError}
use Rattle.leak_search.specs.declared.error.FindError.TheVariants.{NoMemory}
use Rattle.leak_search.specs.declared.found.Found.{Found}
use Rattle.leak_search.specs.Why.{IsWhyFault, TellsWhy}
use Rattle.leak_search.specs.Search.{FindsOne}
use Rattle.leak_search.specs.SearchTwo.{FindsTwo}
use Rattle.leak_search.specs.declared.why.Why.{Why as Chain}
use Rattle.leak_search.specs.declared.why.WhyError.{WhyError}
use Rattle.leak_search.specs.declared.why.WhyError.TheVariants.{Find as Refused, NoBlock as Missing}
use Rattle.leak_holder_search.specs.Held.{FindsHeld, IsHeldFault}
use Rattle.leak_holder_search.specs.Holders.{FindsHolders, IsFaultOfHolders}
use Rattle.leak_holder_search.specs.declared.search.Holding.{Holding}
use Rattle.leak_growth.specs.Growth.{FindsGrowth, IsFaultOfGrowth}
use Rattle.leak_growth.specs.declared.growth.Grown.{Grown}
use Rattle.leak_find.specs.declared.answer.Answer.{Answer}
use Rattle.leak_find.specs.declared.fault.RunFault.{RunFault}
use Rattle.leak_find.specs.declared.fault.RunFault.TheVariants.{Read, Find, NoBlock, Write}
use Rattle.leak_find.specs.declared.task.Task.{Task}
use Rattle.leak_find.specs.declared.task.Task.TheVariants.{Search, Why, Holders, Grow}
use Rattle.leak_find.specs.Inputs.{input_at}

-- ---- the answers

-- what a search of one core and its log, or of two, comes to
abbrev pub Finds : Bool → Options → List (List ℕ) → Found → Type 0
Finds false o inputs found =
    FindsOne (input_at inputs 0) (input_at inputs 1)
    (distances_of o.reading) o.skip o.check o.plan.workers found
Finds true o inputs found =
    FindsTwo (input_at inputs 0) (input_at inputs 1) (input_at inputs 2) (input_at inputs 3)
    (distances_of o.reading) o.skip o.check o.plan.workers found

-- the report of a search, and how many blocks leaked
pub record TellsLeaks (o : Options) (inputs : List (List ℕ)) (answer : Answer) : Type 0 where
  pub found : Found
  pub finds : Finds o.two o inputs found
  pub text : answer.text.items ≡ found.report.items
  pub leaked : answer.leaked ≡ found.leaked
  pub signs : AreSigns o.other_heap inputs answer.signs.items

-- how many blocks leaked: the one that was asked for, if nothing holds it
abbrev pub leaked_if_not : Bool → ℕ
leaked_if_not held = if held then 0 else 1

-- what holds the block of the address
pub record TellsChain (o : Options) (address : ℕ) (core log : List ℕ) (answer : Answer) : Type 0 where
  pub chain : Chain
  pub tells : TellsWhy core log (distances_of o.reading) o.skip address chain
  pub text : answer.text.items ≡ chain.text.items
  pub leaked : answer.leaked ≡ leaked_if_not chain.held
  pub signs : AreSigns o.other_heap (core ∷ log ∷ []) answer.signs.items

-- who holds the memory, or, if there is a question, its answer
abbrev pub Holds : Option Question → Options → List ℕ → List ℕ → Option (List ℕ) → Holding → Type 0
Holds None o core log since holding = FindsHolders core log since (distances_of o.reading) o.skip holding
Holds (Some question) o core log since holding = FindsHeld core log since (distances_of o.reading) o.skip question holding

-- that as an answer, which tells of no leak
pub record TellsHolding (o : Options) (question : Option Question) (core log : List ℕ) (since : Option (List ℕ)) (answer : Answer) : Type 0 where
  pub holding : Holding
  pub holds : Holds question o core log since holding
  pub text : answer.text.items ≡ holding.report.items
  pub leaked : answer.leaked ≡ 0
  pub signs : AreSigns o.other_heap (core ∷ log ∷ []) answer.signs.items

-- what grew between two logs
pub record TellsGrowth (log1 log2 : List ℕ) (answer : Answer) : Type 0 where
  pub grown : Grown
  pub finds : FindsGrowth log1 log2 grown
  pub text : answer.text.items ≡ grown.report.items
  pub leaked : answer.leaked ≡ 0
  pub signs : answer.signs.items ≡ grown.signs.items

-- the answer to the task, for the inputs
abbrev pub Tells : Task → List (List ℕ) → Answer → Type 0
Tells (Search o) inputs answer = TellsLeaks o inputs answer
Tells (Why o address) inputs answer = TellsChain o address (input_at inputs 0) (input_at inputs 1) answer
Tells (Holders o question) inputs answer = TellsHolding o question (input_at inputs 0) (input_at inputs 1) (slice_get inputs 2) answer
Tells (Grow o) inputs answer = TellsGrowth (input_at inputs 0) (input_at inputs 1) answer

-- ---- why there is none

-- the first fault of one core and its log, or of two
abbrev pub IsFaultOf : Bool → List (List ℕ) → FindError → Type 0
IsFaultOf false inputs e = IsFaultOfOne (input_at inputs 0) (input_at inputs 1) e
IsFaultOf true inputs e =
    IsFaultOfTwo (input_at inputs 0) (input_at inputs 1) (input_at inputs 2) (input_at inputs 3) e

-- why it isn't told who holds the memory; only a question can miss its block
abbrev pub IsNotHeld : Option Question → List ℕ → List ℕ → Option (List ℕ) → WhyError → Type 0
IsNotHeld None core log since (Refused e) = IsFaultOfHolders core log since e
IsNotHeld None core log since (Missing a) = ⊥
IsNotHeld (Some question) core log since e = IsHeldFault core log since question.address e

-- the refusal of a run whose inputs were read
abbrev pub at_why : WhyError → RunFault
at_why (Refused e) = Find e
at_why (Missing a) = NoBlock a

-- the inputs are refused
abbrev pub Refuses : Task → List (List ℕ) → FindError → Type 0
Refuses (Search o) inputs e = IsFaultOf o.two inputs e
Refuses (Why o address) inputs e = IsWhyFault (input_at inputs 0) (input_at inputs 1) address (Refused e)
Refuses (Holders o question) inputs e = IsNotHeld question (input_at inputs 0) (input_at inputs 1) (slice_get inputs 2) (Refused e)
Refuses (Grow o) inputs e = IsFaultOfGrowth (input_at inputs 0) (input_at inputs 1) e

-- the block of the address is missing
abbrev pub Misses : Task → List (List ℕ) → ℕ → Type 0
Misses (Search o) inputs a = ⊥
Misses (Why o address) inputs a = IsWhyFault (input_at inputs 0) (input_at inputs 1) address (Missing a)
Misses (Holders o question) inputs a = IsNotHeld question (input_at inputs 0) (input_at inputs 1) (slice_get inputs 2) (Missing a)
Misses (Grow o) inputs a = ⊥

-- why inputs that were read get no answer
abbrev pub IsUntold : Task → List (List ℕ) → RunFault → Type 0
IsUntold task inputs (Read n e) = ⊥
IsUntold task inputs (Find e) = e ≢ NoMemory → Refuses task inputs e
IsUntold task inputs (NoBlock a) = Misses task inputs a
IsUntold task inputs (Write f) = ⊥
