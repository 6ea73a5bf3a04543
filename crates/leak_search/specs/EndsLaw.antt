-- What leaving ends of blocks out does to a search.
use Rattle.std.specs.Prelude.{ℕ, true, false, Bool, List, Option}
use Rattle.leak_mtrace.specs.declared.line.Line.{Line}
use Rattle.leak_index.specs.Leads.{Distances}
use Rattle.leak_roots.specs.declared.skip.Skip.{Skip}
use Rattle.leak_marks.specs.Reach.{Reach}
use Rattle.leak_search.specs.Search.{graph_of_one}
use Rattle.leak_search.specs.SearchTwo.{IsMarkedEarlier, graph_of_later, kept_blocks, new_blocks}

-- the listed distances, without ends
abbrev pub inner : Option (List ℕ) → Distances
inner listed = record { listed = listed; skips_ends = true }

-- and with them
abbrev pub whole : Option (List ℕ) → Distances
whole listed = record { listed = listed; skips_ends = false }

-- a block that chains of one core reach without ends is reached with them
abbrev pub MarkedWithoutEnds : Type 0
MarkedWithoutEnds =
    (core : List ℕ) (listed : Option (List ℕ)) (skip : Skip) (lines : List Line) (i : ℕ)
    → Reach (graph_of_one core (inner listed) skip lines) i → Reach (graph_of_one core (whole listed) skip lines) i

-- the same in two cores, of which the earlier was marked without ends, and with them
abbrev pub MarkedInTwoWithoutEnds : Type 0
MarkedInTwoWithoutEnds =
    (core1 core2 : List ℕ) (listed : Option (List ℕ)) (skip : Skip) (before now : List Line) (fewer all : List Bool) (i : ℕ)
    → IsMarkedEarlier core1 (inner listed) skip before fewer → IsMarkedEarlier core1 (whole listed) skip before all
    → Reach (graph_of_later core2 (inner listed) skip (kept_blocks before fewer now) (new_blocks before now) now) i
    → Reach (graph_of_later core2 (whole listed) skip (kept_blocks before all now) (new_blocks before now) now) i
