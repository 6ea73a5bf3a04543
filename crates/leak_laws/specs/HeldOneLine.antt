-- The texts of the other reports and answers are on one line each.
use Rattle.std.specs.Prelude.{◌≡◌, ℕ, List, length, Option, IfSome}
use Rattle.std.specs.List.{AllByRecursion}
use Rattle.leak_notes.specs.Sets.{sets_of}
use Rattle.leak_notes.specs.Threads.{entries}
use Rattle.leak_blocks.specs.Live.{live_of}
use Rattle.leak_index.specs.Leads.{Distances}
use Rattle.leak_roots.specs.declared.skip.Skip.{Skip}
use Rattle.leak_holders.specs.declared.question.Question.{Question}
use Rattle.leak_growth.specs.declared.growth.Grown.{Grown}
use Rattle.leak_growth.specs.Growth.{FindsGrowth}
use Rattle.leak_growth.specs.Report.{growths_of}
use Rattle.leak_search.specs.declared.why.Why.{Why}
use Rattle.leak_search.specs.Why.{TellsWhy}
use Rattle.leak_holder_search.specs.declared.search.Holding.{Holding}
use Rattle.leak_holder_search.specs.Held.{FindsHeld, both, chosen_with}
use Rattle.leak_holder_search.specs.Holders.{FindsHolders}
use Rattle.leak_laws.specs.HeldTogether.{told_by_holders}
use Rattle.leak_laws.specs.Readable.{Lacks}
use Rattle.leak_laws.specs.ToldAnswers.{ToldAnswer, answer_tells, answer_told}
use Rattle.leak_laws.specs.ToldWhy.{ToldChain, ToldWhy, why_tells, why_told}

-- no row of what grew has a line feed
abbrev pub GrowthIsOfLines : Type 0
GrowthIsOfLines = (log1 log2 : List ℕ) (grown : Grown) → (f : FindsGrowth log1 log2 grown)
    → AllByRecursion (λ g. Lacks 10 g.text) (growths_of log1 (live_of f.before) log2 (live_of f.now) (length f.before))

-- nor does a line of who holds the memory
abbrev pub HoldersAreOfLines : Type 0
HoldersAreOfLines = (core log : List ℕ) (since : Option (List ℕ)) (reading : Distances) (skip : Skip) (found : Holding)
    → (f : FindsHolders core log since reading skip found) → AllByRecursion (λ h. Lacks 10 h.text) (told_by_holders f).rows

-- what an answer about chosen blocks tells
abbrev pub told_by_answer : {core log : List ℕ} {since : Option (List ℕ)} {reading : Distances} {skip : Skip} {question : Question} {found : Holding}
    → FindsHeld core log since reading skip question found → ToldAnswer
told_by_answer {log = log} {question = question} f =
    answer_tells log (live_of f.lines) f.block (both (chosen_with f.numbers f.block question.alone) f.set) f.told f.texts f.parts

-- it has the bytes of these lines, and no text with a line feed
pub record IsAnswerOfLines (found : Holding) (question : Question) (t : ToldAnswer) : Type 0 where
  pub bytes : found.report.items ≡ answer_told question.side t
  pub asked : Lacks 10 t.asked.text
  pub parts : IfSome t.rows (λ r. AllByRecursion (λ p. Lacks 10 p.text) r.parts)

abbrev pub AnswersAreOfLines : Type 0
AnswersAreOfLines = (core log : List ℕ) (since : Option (List ℕ)) (reading : Distances) (skip : Skip) (question : Question) (found : Holding)
    → (f : FindsHeld core log since reading skip question found) → IsAnswerOfLines found question (told_by_answer f)

-- what an answer to why a block is held tells
abbrev pub told_by_why : {core log : List ℕ} {reading : Distances} {skip : Skip} {address : ℕ} {why : Why} → TellsWhy core log reading skip address why → ToldWhy
told_by_why {core = core} {log = log} f = why_tells log (live_of f.lines) (sets_of (entries core)) f.block f.chain

-- the texts of its blocks
pub record AreEntriesOfLines (c : ToldChain) : Type 0 where
  pub first : Lacks 10 c.first.text
  pub steps : AllByRecursion (λ s. Lacks 10 s.entry.text) c.steps

pub record IsWhyOfLines (found : Why) (t : ToldWhy) : Type 0 where
  pub bytes : found.text.items ≡ why_told t
  pub asked : Lacks 10 t.asked.text
  pub chain : IfSome t.chain AreEntriesOfLines

abbrev pub WhyIsOfLines : Type 0
WhyIsOfLines = (core log : List ℕ) (reading : Distances) (skip : Skip) (address : ℕ) (found : Why)
    → (f : TellsWhy core log reading skip address found) → IsWhyOfLines found (told_by_why f)
