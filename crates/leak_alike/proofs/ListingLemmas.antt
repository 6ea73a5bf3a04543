-- What is listed of alike cores is the same.
use Rattle.std.proofs.Common.{◌≡◌, ℕ, Bool, false, List, ◌++◌, None, ap, ap₂, ◌∙◌}
use Rattle.leak_elf.specs.Refusals.{fault_of}
use Rattle.leak_elf.specs.Words.{word_of}
use Rattle.leak_mtrace.specs.Log.{IsLog}
use Rattle.leak_mtrace.specs.declared.line.Line.{Line}
use Rattle.leak_blocks.specs.Live.{live_of}
use Rattle.leak_chunks.specs.Fit.{fits_of}
use Rattle.leak_index.specs.Leads.{Distances}
use Rattle.leak_marks.specs.Reach.{Graph}
use Rattle.leak_roots.specs.declared.skip.Skip.{Skip}
use Rattle.leak_report.specs.declared.head.Head.{Head}
use Rattle.leak_search.specs.Search.{graph_of_one, head_of_one, index_of}
use Rattle.leak_alike.specs.Alike.{AreAlikeCores}
use Rattle.leak_alike.specs.Listings.{Listing, listing_of}
use Rattle.leak_alike.specs.SiftedCores.{CanBeSifted, rule_of, sifted_core}
use Rattle.leak_alike.proofs.AlikeCores.{fits_of_same, graph_same, head_same}
use Rattle.leak_alike.proofs.SiftedLemmas.{alike_cores}

listed : Graph → List Bool → Head → Listing
listed graph fits head = record { edges = graph.targets; led = graph.first; fits = fits; head = head }

listings_alike : (core other log : List ℕ) (lines : List Line) (reading : Distances) (skip : Skip) → AreAlikeCores (index_of reading lines) skip core other
    → listing_of core log lines reading skip ≡ listing_of other log lines reading skip
unfolding listed
listings_alike core other log lines reading skip alike =
    ap₂ (λ (graph : Graph) (fits : List Bool). listed graph fits (head_of_one core log skip lines)) (graph_same reading lines skip core other alike) (fits_of_same reading lines skip core other alike)
    ∙ ap (λ (head : Head). listed (graph_of_one other reading skip lines) (fits_of (word_of other) (live_of lines)) head) (head_same reading lines skip core other alike log)

pub listings_of_sifted : (held rest log : List ℕ) (lines : List Line) (reading : Distances) (skip : Skip) → CanBeSifted held rest → fault_of (held ++ rest) ≡ None
    → skip.dead ≡ false → IsLog log lines
    → listing_of (held ++ rest) log lines reading skip ≡ listing_of (sifted_core (rule_of lines skip) held rest) log lines reading skip
listings_of_sifted held rest log lines reading skip can accepted live is =
    listings_alike (held ++ rest) (sifted_core (rule_of lines skip) held rest) log lines reading skip (alike_cores held rest log lines reading skip can accepted live is)
