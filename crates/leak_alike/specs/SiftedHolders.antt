-- Answers about holders, of cores of which only the words that a sieve keeps are left: those of the whole core, as of a
-- search.
use Rattle.std.specs.Prelude.{◌≡◌, ◌↔◌, ℕ, false, List, ◌++◌, Option}
use Rattle.leak_elf.specs.Head.{IsHead}
use Rattle.leak_mtrace.specs.Log.{IsLog}
use Rattle.leak_mtrace.specs.declared.line.Line.{Line}
use Rattle.leak_index.specs.Leads.{Distances}
use Rattle.leak_sift.specs.Kept.{Rule}
use Rattle.leak_roots.specs.declared.skip.Skip.{Skip}
use Rattle.leak_holders.specs.declared.question.Question.{Question}
use Rattle.leak_search.specs.declared.error.FindError.{FindError}
use Rattle.leak_search.specs.declared.why.WhyError.{WhyError}
use Rattle.leak_holder_search.specs.Held.{FindsHeld, IsHeldFault}
use Rattle.leak_holder_search.specs.Holders.{FindsHolders, IsFaultOfHolders}
use Rattle.leak_holder_search.specs.declared.search.Holding.{Holding}
use Rattle.leak_alike.specs.SiftedCores.{CanBeSifted, rule_of, sifted_core}

-- what is found of the core, on who holds the memory, is what is found of the sifted core;
abbrev pub HoldersOfSiftedAreOne : Type 0
HoldersOfSiftedAreOne =
    (held rest log : List ℕ) (lines : List Line) (since : Option (List ℕ)) (reading : Distances) (skip : Skip) (found : Holding)
    → CanBeSifted held rest → skip.dead ≡ false → IsLog log lines
    → (FindsHolders (held ++ rest) log since reading skip found ↔ FindsHolders (sifted_core (rule_of lines skip) held rest) log since reading skip found)

-- so it is of each question about chosen blocks;
abbrev pub AnswersOfSiftedAreOne : Type 0
AnswersOfSiftedAreOne =
    (held rest log : List ℕ) (lines : List Line) (since : Option (List ℕ)) (reading : Distances) (skip : Skip) (question : Question) (found : Holding)
    → CanBeSifted held rest → skip.dead ≡ false → IsLog log lines
    → (FindsHeld (held ++ rest) log since reading skip question found
    ↔ FindsHeld (sifted_core (rule_of lines skip) held rest) log since reading skip question found)

-- and as the one is refused, so is the other, whatever is kept: by a search for who holds the memory,
abbrev pub RefusedHoldersOfSiftedAreOne : Type 0
RefusedHoldersOfSiftedAreOne =
    (rule : Rule) (held rest log : List ℕ) (since : Option (List ℕ)) (e : FindError) → IsHead held
    → (IsFaultOfHolders (held ++ rest) log since e ↔ IsFaultOfHolders (sifted_core rule held rest) log since e)

-- and by a question about chosen blocks
abbrev pub RefusedAnswersOfSiftedAreOne : Type 0
RefusedAnswersOfSiftedAreOne =
    (rule : Rule) (held rest log : List ℕ) (since : Option (List ℕ)) (address : ℕ) (e : WhyError) → IsHead held
    → (IsHeldFault (held ++ rest) log since address e ↔ IsHeldFault (sifted_core rule held rest) log since address e)
