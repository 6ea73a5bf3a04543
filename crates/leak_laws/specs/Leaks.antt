-- Which blocks leak if less is left out, by another reading, and if there is an earlier core.
use Rattle.std.specs.Prelude.{◌≡◌, ◌≤◌, ◌⊎◌, ⊤, ℕ, Bool, List, [], ◌∷◌, IsTrue, Option, None, Some}
use Rattle.leak_blocks.specs.declared.block.Block.{Block}
use Rattle.leak_blocks.specs.Live.{live_of}
use Rattle.leak_index.specs.Leads.{Distances}
use Rattle.leak_roots.specs.declared.skip.Skip.{Skip}
use Rattle.leak_marks.specs.Lists.{Has}
use Rattle.leak_report.specs.Totals.{leaked_in}
use Rattle.leak_search.specs.declared.found.Found.{Found}
use Rattle.leak_search.specs.Laws.{LeavesOutNoMore}
use Rattle.leak_search.specs.Search.{FindsOne}
use Rattle.leak_search.specs.SearchTwo.{FindsTwo}

-- the first list is the second, or that with some of its elements left out
abbrev pub IsPartOf : {X : Type 0} → List X → List X → Type 0
IsPartOf [] ys = ⊤
IsPartOf (x ∷ xs) [] = ⊥
IsPartOf (x ∷ xs) (y ∷ ys) = ((x ≡ y) × IsPartOf xs ys) ⊎ IsPartOf (x ∷ xs) ys

-- the blocks that the report of one core names as leaked, and that of two
abbrev pub leaked_by_one : {core log : List ℕ} {reading : Distances} {skip : Skip} {check : Bool} {workers : ℕ} {found : Found}
    → FindsOne core log reading skip check workers found → List Block
leaked_by_one f = leaked_in f.set (live_of f.lines)

abbrev pub leaked_by_two : {core1 log1 core2 log2 : List ℕ} {reading : Distances} {skip : Skip} {check : Bool} {workers : ℕ} {found : Found}
    → FindsTwo core1 log1 core2 log2 reading skip check workers found → List Block
leaked_by_two f = leaked_in f.finds.set (live_of f.second.lines)

-- the one report names no block that the other doesn't name
pub record LeakNoMore (fewer all : List Block) (a b : Found) : Type 0 where
  pub blocks : IsPartOf fewer all
  pub number : a.leaked ≤ b.leaked

-- Each displacement of the one list is one of the other; without a list all distances count.
abbrev pub AllowNoMore : Option (List ℕ) → Option (List ℕ) → Type 0
AllowNoMore few None = ⊤
AllowNoMore None (Some many) = ⊥
AllowNoMore (Some few) (Some many) = (d : ℕ) → Has few d → Has many d

-- the one reading has no displacement that the other lacks, and leaves ends out if the other does
pub record LeadsToNoMore (few many : Distances) : Type 0 where
  pub listed : AllowNoMore few.listed many.listed
  pub ends : IsTrue many.skips_ends → IsTrue few.skips_ends

-- What leaks in one core if no more is left out, and by a reading with no fewer displacements, leaks otherwise too.
abbrev pub LeakedInOneStay : Type 0
LeakedInOneStay =
    (core log : List ℕ) (few many : Distances) (less more : Skip) (check other : Bool) (workers others : ℕ) (a b : Found)
    → LeadsToNoMore few many → LeavesOutNoMore less more
    → (f : FindsOne core log many less check workers a) (g : FindsOne core log few more other others b)
    → LeakNoMore (leaked_by_one f) (leaked_by_one g) a b

-- the same in two cores, of which each is searched so
abbrev pub LeakedInTwoStay : Type 0
LeakedInTwoStay =
    (core1 log1 core2 log2 : List ℕ) (few many : Distances) (less more : Skip) (check other : Bool) (workers others : ℕ) (a b : Found)
    → LeadsToNoMore few many → LeavesOutNoMore less more
    → (f : FindsTwo core1 log1 core2 log2 many less check workers a) (g : FindsTwo core1 log1 core2 log2 few more other others b)
    → LeakNoMore (leaked_by_two f) (leaked_by_two g) a b

-- what leaks of two cores leaks of the later core alone
abbrev pub LeakedOfTwoAreOfOne : Type 0
LeakedOfTwoAreOfOne =
    (core1 log1 core2 log2 : List ℕ) (reading : Distances) (skip : Skip) (check other : Bool) (workers others : ℕ) (a b : Found)
    → (f : FindsTwo core1 log1 core2 log2 reading skip check workers a) (g : FindsOne core2 log2 reading skip other others b)
    → LeakNoMore (leaked_by_two f) (leaked_by_one g) a b
