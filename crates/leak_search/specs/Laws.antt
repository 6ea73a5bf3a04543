-- What leaving words out of the roots does to a search.
use Rattle.std.specs.Prelude.{ℕ, Bool, List, IsTrue}
use Rattle.leak_mtrace.specs.declared.line.Line.{Line}
use Rattle.leak_index.specs.Leads.{Distances}
use Rattle.leak_roots.specs.declared.skip.Skip.{Skip}
use Rattle.leak_marks.specs.Reach.{Reach}
use Rattle.leak_search.specs.Search.{graph_of_one}
use Rattle.leak_search.specs.SearchTwo.{IsMarkedEarlier, graph_of_later, kept_blocks, new_blocks}

-- what the one search leaves out, the other leaves out too
pub record LeavesOutNoMore (less more : Skip) : Type 0 where
  pub freed : IsTrue less.freed → IsTrue more.freed
  pub slack : IsTrue less.slack → IsTrue more.slack
  pub dead : IsTrue less.dead → IsTrue more.dead
  pub links : IsTrue less.links → IsTrue more.links
  pub unwritable : IsTrue less.unwritable → IsTrue more.unwritable

-- A block that chains of one core reach if more is left out is reached if less is. The search that leaves nothing out
-- leaves out no more than any other, so it reaches the most.
abbrev pub MarkedWithLess : Type 0
MarkedWithLess =
    (core : List ℕ) (reading : Distances) (less more : Skip) (lines : List Line) (i : ℕ)
    → LeavesOutNoMore less more
    → Reach (graph_of_one core reading more lines) i → Reach (graph_of_one core reading less lines) i

-- the same in two cores, of which the earlier was marked with more left out, and with less
abbrev pub MarkedInTwoWithLess : Type 0
MarkedInTwoWithLess =
    (core1 core2 : List ℕ) (reading : Distances) (less more : Skip) (before now : List Line) (fewer all : List Bool) (i : ℕ)
    → LeavesOutNoMore less more
    → IsMarkedEarlier core1 reading more before fewer → IsMarkedEarlier core1 reading less before all
    → Reach (graph_of_later core2 reading more (kept_blocks before fewer now) (new_blocks before now) now) i
    → Reach (graph_of_later core2 reading less (kept_blocks before all now) (new_blocks before now) now) i
