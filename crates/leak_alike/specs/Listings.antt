-- What a search of one core goes by, listed: from here on it reads no word.
use Rattle.std.specs.Prelude.{◌≡◌, ℕ, Bool, false, List, ◌++◌, None}
use Rattle.leak_elf.specs.Refusals.{fault_of}
use Rattle.leak_elf.specs.Words.{word_of}
use Rattle.leak_mtrace.specs.Log.{IsLog}
use Rattle.leak_mtrace.specs.declared.line.Line.{Line}
use Rattle.leak_blocks.specs.Live.{live_of}
use Rattle.leak_chunks.specs.Fit.{fits_of}
use Rattle.leak_index.specs.Leads.{Distances}
use Rattle.leak_roots.specs.declared.skip.Skip.{Skip}
use Rattle.leak_report.specs.declared.head.Head.{Head}
use Rattle.leak_search.specs.Search.{graph_of_one, head_of_one}
use Rattle.leak_alike.specs.SiftedCores.{CanBeSifted, rule_of, sifted_core}

pub record Listing : Type 0 where
  -- for each live block those that its words lead to, in the order of its words
  pub edges : List (List ℕ)
  -- those that the root words lead to, without what is left out
  pub led : List ℕ
  -- which live blocks fit
  pub fits : List Bool
  -- the numbers of the report's first lines
  pub head : Head

-- that of a core and its log with these lines
abbrev pub listing_of : List ℕ → List ℕ → List Line → Distances → Skip → Listing
listing_of core log lines reading skip = record {
  edges = (graph_of_one core reading skip lines).targets;
  led = (graph_of_one core reading skip lines).first;
  fits = fits_of (word_of core) (live_of lines);
  head = head_of_one core log skip lines;
}

-- of a core that is held and of the same core sifted it is one
abbrev pub ListingsAreOne : Type 0
ListingsAreOne =
    (held rest log : List ℕ) (lines : List Line) (reading : Distances) (skip : Skip) → CanBeSifted held rest → fault_of (held ++ rest) ≡ None
    → skip.dead ≡ false → IsLog log lines
    → listing_of (held ++ rest) log lines reading skip ≡ listing_of (sifted_core (rule_of lines skip) held rest) log lines reading skip
