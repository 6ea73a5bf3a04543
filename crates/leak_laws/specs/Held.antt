-- Answers about what is held are one: who holds the memory, what chosen blocks hold or who holds them, and why a block is held.
use Rattle.std.specs.Prelude.{◌≡◌, ℕ, false, List, length, Option, option_map}
use Rattle.leak_index.specs.Leads.{Distances}
use Rattle.leak_roots.specs.declared.skip.Skip.{Skip}
use Rattle.leak_holders.specs.declared.question.Question.{Question}
use Rattle.leak_search.specs.declared.why.Why.{Why}
use Rattle.leak_search.specs.Why.{TellsWhy}
use Rattle.leak_holder_search.specs.declared.search.Holding.{Holding}
use Rattle.leak_holder_search.specs.Held.{FindsHeld}
use Rattle.leak_holder_search.specs.Holders.{FindsHolders}

-- two reports of who holds the memory
abbrev pub ReportsOfHoldersAreOne : Type 0
ReportsOfHoldersAreOne =
    (core log : List ℕ) (since : Option (List ℕ)) (reading : Distances) (skip : Skip) (a b : Holding)
    → FindsHolders core log since reading skip a → FindsHolders core log since reading skip b → a.report.items ≡ b.report.items

-- two answers to one question about chosen blocks
abbrev pub AnswersAreOne : Type 0
AnswersAreOne =
    (core log : List ℕ) (since : Option (List ℕ)) (reading : Distances) (skip : Skip) (question : Question) (a b : Holding)
    → FindsHeld core log since reading skip question a → FindsHeld core log since reading skip question b → a.report.items ≡ b.report.items

-- how many links the answer's chain has, if there is one
abbrev pub links_of : {core log : List ℕ} {reading : Distances} {skip : Skip} {address : ℕ} {why : Why}
    → TellsWhy core log reading skip address why → Option ℕ
links_of t = option_map (λ chain. length chain.links.items) t.chain

-- Two answers to why a block is held are of the same block, and as long. Of chains that are as short as any the answer tells one.
pub record AreAsLong (core log : List ℕ) (reading : Distances) (skip : Skip) (address : ℕ) (a b : Why)
    (f : TellsWhy core log reading skip address a) (g : TellsWhy core log reading skip address b) : Type 0 where
  pub block : f.block ≡ g.block
  pub held : a.held ≡ b.held
  pub links : links_of f ≡ links_of g
  -- if the block leaked, the texts are the same
  pub leaked : a.held ≡ false → a.text.items ≡ b.text.items

abbrev pub AnswersOfWhyAreAsLong : Type 0
AnswersOfWhyAreAsLong =
    (core log : List ℕ) (reading : Distances) (skip : Skip) (address : ℕ) (a b : Why)
    → (f : TellsWhy core log reading skip address a) (g : TellsWhy core log reading skip address b)
    → AreAsLong core log reading skip address a b f g
