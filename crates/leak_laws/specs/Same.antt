-- What an answer tells is a function of the files that it is about: two answers to one question over the same bytes are the same,
-- whatever the number of workers.
use Rattle.std.specs.Prelude.{◌≡◌, ℕ, Bool, List}
use Rattle.leak_index.specs.Leads.{Distances}
use Rattle.leak_roots.specs.declared.skip.Skip.{Skip}
use Rattle.leak_report.specs.declared.signs.Signs.{Signs}
use Rattle.leak_search.specs.declared.found.Found.{Found}
use Rattle.leak_search.specs.Signs.{AreSigns}
use Rattle.leak_search.specs.Search.{FindsOne}
use Rattle.leak_search.specs.SearchTwo.{FindsTwo}

-- the same report, byte by byte, and the same number of leaked blocks
pub record IsSameReport (a b : Found) : Type 0 where
  pub report : a.report.items ≡ b.report.items
  pub leaked : a.leaked ≡ b.leaked

-- of two searches of one core
abbrev pub ReportsOfOneAreOne : Type 0
ReportsOfOneAreOne =
    (core log : List ℕ) (reading : Distances) (skip : Skip) (check : Bool) (workers others : ℕ) (a b : Found)
    → FindsOne core log reading skip check workers a → FindsOne core log reading skip check others b → IsSameReport a b

-- of two searches of two cores
abbrev pub ReportsOfTwoAreOne : Type 0
ReportsOfTwoAreOne =
    (core1 log1 core2 log2 : List ℕ) (reading : Distances) (skip : Skip) (check : Bool) (workers others : ℕ) (a b : Found)
    → FindsTwo core1 log1 core2 log2 reading skip check workers a → FindsTwo core1 log1 core2 log2 reading skip check others b → IsSameReport a b

-- the signs of one core and its log, or of two
abbrev pub SignsAreOne : Type 0
SignsAreOne = (other_heap : Bool) (inputs : List (List ℕ)) (a b : List Signs) → AreSigns other_heap inputs a → AreSigns other_heap inputs b → a ≡ b
