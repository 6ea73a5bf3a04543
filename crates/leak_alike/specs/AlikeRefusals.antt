-- Alike cores are refused alike, by whatever blocks they are alike: if the log is refused, it has none.
use Rattle.std.specs.Prelude.{◌↔◌, ℕ, List, Option}
use Rattle.leak_index.specs.Hits.{Index}
use Rattle.leak_roots.specs.declared.skip.Skip.{Skip}
use Rattle.leak_search.specs.Inputs.{IsFaultOfOne}
use Rattle.leak_search.specs.declared.error.FindError.{FindError}
use Rattle.leak_search.specs.declared.why.WhyError.{WhyError}
use Rattle.leak_holder_search.specs.Held.{IsHeldFault}
use Rattle.leak_holder_search.specs.Holders.{IsFaultOfHolders}
use Rattle.leak_alike.specs.Alike.{AreAlikeCores}

-- as the one is refused by a search, so is the other,
abbrev pub RefusedSearchesAreOne : Type 0
RefusedSearchesAreOne =
    (core other log : List ℕ) (index : Index) (skip : Skip) (e : FindError) → AreAlikeCores index skip core other
    → (IsFaultOfOne core log e ↔ IsFaultOfOne other log e)

-- by a search for who holds the memory,
abbrev pub RefusedHoldersAreOne : Type 0
RefusedHoldersAreOne =
    (core other log : List ℕ) (index : Index) (skip : Skip) (since : Option (List ℕ)) (e : FindError) → AreAlikeCores index skip core other
    → (IsFaultOfHolders core log since e ↔ IsFaultOfHolders other log since e)

-- and by a question about chosen blocks
abbrev pub RefusedAnswersAreOne : Type 0
RefusedAnswersAreOne =
    (core other log : List ℕ) (index : Index) (skip : Skip) (since : Option (List ℕ)) (address : ℕ) (e : WhyError) → AreAlikeCores index skip core other
    → (IsHeldFault core log since address e ↔ IsHeldFault other log since address e)
