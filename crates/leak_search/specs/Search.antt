-- What a search of one core comes to: the live blocks to which no chain of words leads from the roots.
use Rattle.std.specs.Prelude.{◌≡◌, ℕ, ◌^◌, ◌<◌, Bool, List, [], map, length, None}
use Rattle.leak_elf.specs.Segments.{undumped_of}
use Rattle.leak_elf.specs.Words.{word_of}
use Rattle.leak_mtrace.specs.declared.line.Line.{Line}
use Rattle.leak_mtrace.specs.Log.{IsLog, torn_of}
use Rattle.leak_blocks.specs.Live.{live_of, replay_of}
use Rattle.leak_index.specs.Leads.{Distances}
use Rattle.leak_index.specs.Hits.{Index}
use Rattle.leak_roots.specs.declared.skip.Skip.{Skip}
use Rattle.leak_notes.specs.Threads.{registers_of}
use Rattle.leak_roots.specs.Roots.{root_places}
use Rattle.leak_search.specs.LeftOut.{dead_told, freed_told, left_out}
use Rattle.leak_scan.specs.Heads.{heads_of}
use Rattle.leak_marks.specs.Reach.{Graph, Reach}
use Rattle.leak_marks.specs.Partition.{Partitions}
use Rattle.leak_pool.specs.Marking.{IsSet, graph_of, led_from}
use Rattle.leak_report.specs.declared.head.Head.{Head}
use Rattle.leak_report.specs.Totals.{leaked_in}
use Rattle.leak_report.specs.Report.{text_of}
use Rattle.leak_search.specs.declared.found.Found.{Found}
use Rattle.leak_search.specs.Inputs.{IsCore}
use Rattle.leak_search.specs.Signs.{fits_told}

-- the live blocks of the lines, and the reading
abbrev pub index_of : Distances → List Line → Index
index_of reading lines = record { blocks = live_of lines; reading = reading }

-- the live blocks that the root words of the core lead to, without what is left out
abbrev pub first_of : List ℕ → Index → Skip → List Line → List ℕ
first_of core index skip lines =
    led_from skip.links (word_of core) index (registers_of core)
    (root_places (left_out skip core (live_of lines) lines) core (live_of lines))

-- which live block leads to which, and which of them the root words of the core lead to
abbrev pub graph_of_one : List ℕ → Distances → Skip → List Line → Graph
graph_of_one core reading skip lines =
    let index = index_of reading lines in
    graph_of (word_of core) index (first_of core index skip lines) []

-- the numbers of the report's first lines
abbrev pub head_of_one : List ℕ → List ℕ → Skip → List Line → Head
head_of_one core log skip lines = record {
  undumped = undumped_of core;
  unknown = (replay_of lines).unknown;
  displaced = (replay_of lines).displaced;
  torn = torn_of log;
  freed = freed_told skip core (live_of lines) lines;
  dead = dead_told skip core (live_of lines) lines;
  two = None;
}

-- the lists of claims, worker by worker
abbrev pub claims_of : Found → List (List ℕ)
claims_of found = map (λ v. v.items) found.claims.items

-- Core and log are free of faults, and the blocks are few enough to be numbered. The marked blocks are those that a
-- chain of words reaches from the roots; the report names the others, and tells which of them are heads, and misfits if
-- that is asked for; each marked block is claimed by one worker.
pub record FindsOne (core log : List ℕ) (reading : Distances) (skip : Skip) (check : Bool) (workers : ℕ) (found : Found) : Type 0 where
  pub accepted : IsCore core
  pub lines : List Line
  pub is_log : IsLog log lines
  pub few : length (live_of lines) < 2 ^ 32
  pub set : List Bool
  pub marked : IsSet set (length (live_of lines)) (Reach (graph_of_one core reading skip lines))
  pub report : found.report.items ≡ text_of (head_of_one core log skip lines) (live_of lines) set
      (heads_of (word_of core) (index_of reading lines) set) (fits_told check core lines) log
  pub leaked : found.leaked ≡ length (leaked_in set (live_of lines))
  pub lists : length (claims_of found) ≡ workers
  pub claims : Partitions (claims_of found) (Reach (graph_of_one core reading skip lines))
