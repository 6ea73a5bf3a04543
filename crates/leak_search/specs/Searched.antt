-- What a search of one core comes to before the report is written, of each log of which its input was read.
use Rattle.std.specs.Prelude.{◌≡◌, ℕ, ◌^◌, ◌<◌, Bool, List, map, length, option_map}
use Rattle.leak_elf.specs.Words.{word_of}
use Rattle.leak_mtrace.specs.declared.line.Line.{Line}
use Rattle.leak_blocks.specs.Live.{live_of}
use Rattle.leak_index.specs.Leads.{Distances}
use Rattle.leak_roots.specs.declared.skip.Skip.{Skip}
use Rattle.leak_scan.specs.Heads.{heads_of}
use Rattle.leak_marks.specs.Reach.{Reach}
use Rattle.leak_marks.specs.Partition.{Partitions}
use Rattle.leak_pool.specs.Marking.{IsSet}
use Rattle.leak_search.specs.declared.found.Searched.{Searched}
use Rattle.leak_search.specs.declared.inputs.Input.{Input}
use Rattle.leak_search.specs.Inputs.{IsReadOf}
use Rattle.leak_search.specs.Search.{graph_of_one, head_of_one, index_of}
use Rattle.leak_search.specs.Signs.{fits_told}

-- this is so of each log of which the input was read, and of its lines
abbrev pub OfLogs : Input → (List ℕ → List Line → Type 0) → Type 0
OfLogs input Holds = (log : List ℕ) (lines : List Line) → IsReadOf input.image log lines input → Holds log lines

-- the lists of claims, worker by worker
abbrev pub claims_in : Searched → List (List ℕ)
claims_in searched = map (λ v. v.items) searched.claims.items

-- All that the report of `FindsOne` is made of, but for the blocks, the texts of their callers and which blocks fit: the
-- blocks are few enough to be numbered, and those are marked that a chain of words reaches from the roots.
pub record MarksOne (core log : List ℕ) (lines : List Line) (reading : Distances) (skip : Skip) (workers : ℕ) (searched : Searched) : Type 0 where
  pub few : length (live_of lines) < 2 ^ 32
  pub head : searched.head ≡ head_of_one core log skip lines
  pub marked : IsSet searched.set.items (length (live_of lines)) (Reach (graph_of_one core reading skip lines))
  pub heads : searched.heads.items ≡ heads_of (word_of core) (index_of reading lines) searched.set.items
  pub lists : length (claims_in searched) ≡ workers
  pub claims : Partitions (claims_in searched) (Reach (graph_of_one core reading skip lines))

-- and which blocks fit, if that is told
pub record SearchesOne (core log : List ℕ) (lines : List Line) (reading : Distances) (skip : Skip) (check : Bool) (workers : ℕ) (searched : Searched) : Type 0 where
  pub marks : MarksOne core log lines reading skip workers searched
  pub fits : option_map (λ v. v.items) searched.fits ≡ fits_told check core lines
