-- Cores that answers about holders can't tell apart: alike ones, by the same rules as for a search.
use Rattle.std.specs.Prelude.{◌↔◌, ℕ, List, Option}
use Rattle.leak_index.specs.Leads.{Distances}
use Rattle.leak_holders.specs.declared.question.Question.{Question}
use Rattle.leak_roots.specs.declared.skip.Skip.{Skip}
use Rattle.leak_holder_search.specs.Held.{FindsHeld}
use Rattle.leak_holder_search.specs.Holders.{FindsHolders}
use Rattle.leak_holder_search.specs.declared.search.Holding.{Holding}
use Rattle.leak_alike.specs.Alike.{AreAlikeBy}

-- what is found of the one, on who holds the memory, is what is found of the other
abbrev pub HoldersOfAlikeAreOne : Type 0
HoldersOfAlikeAreOne =
    (core other log : List ℕ) (since : Option (List ℕ)) (reading : Distances) (skip : Skip) (found : Holding) → AreAlikeBy log reading skip core other
    → (FindsHolders core log since reading skip found ↔ FindsHolders other log since reading skip found)

-- and so it is of each question about chosen blocks: what they hold, and who holds them
abbrev pub AnswersOfAlikeAreOne : Type 0
AnswersOfAlikeAreOne =
    (core other log : List ℕ) (since : Option (List ℕ)) (reading : Distances) (skip : Skip) (question : Question) (found : Holding)
    → AreAlikeBy log reading skip core other
    → (FindsHeld core log since reading skip question found ↔ FindsHeld other log since reading skip question found)
