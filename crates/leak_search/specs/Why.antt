-- Why a live block is held: a shortest chain of words that leads to it, or that none does.
use Rattle.std.specs.Prelude.{◌≡◌, ◌↔◌, ℕ, List, length, Option, IsSome, is_some}
use Rattle.leak_elf.specs.Words.{word_of}
use Rattle.leak_notes.specs.Threads.{entries}
use Rattle.leak_notes.specs.Sets.{sets_of}
use Rattle.leak_mtrace.specs.declared.line.Line.{Line}
use Rattle.leak_mtrace.specs.Log.{IsLog}
use Rattle.leak_blocks.specs.Live.{live_of}
use Rattle.leak_index.specs.Leads.{Distances}
use Rattle.leak_roots.specs.Places.{Places}
use Rattle.leak_roots.specs.Roots.{AreRootsOf}
use Rattle.leak_search.specs.LeftOut.{left_out}
use Rattle.leak_roots.specs.declared.skip.Skip.{Skip}
use Rattle.leak_marks.specs.Reach.{Reach}
use Rattle.leak_why.specs.declared.chain.Chain.{Chain}
use Rattle.leak_why.specs.Asked.{IsAsked, AreNotAsked}
use Rattle.leak_why.specs.Chains.{IsWhy}
use Rattle.leak_why.specs.Text.{text_of}
use Rattle.leak_search.specs.declared.why.Why.{Why}
use Rattle.leak_search.specs.declared.why.WhyError.{WhyError}
use Rattle.leak_search.specs.declared.why.WhyError.TheVariants.{Find, NoBlock}
use Rattle.leak_search.specs.Inputs.{IsCore, IsInputFault}
use Rattle.leak_search.specs.Search.{index_of, graph_of_one}

-- Core and log are free of faults, and the address asks for the block. The chain to it from the places of the core's root
-- words is a shortest one, or, exactly if the search does not reach the block, there is none; and the text tells this.
pub record TellsWhy (core log : List ℕ) (reading : Distances) (skip : Skip) (address : ℕ) (found : Why) : Type 0 where
  pub accepted : IsCore core
  pub lines : List Line
  pub is_log : IsLog log lines
  pub block : ℕ
  pub asked : IsAsked (live_of lines) address block
  pub places : Places
  pub are_places : AreRootsOf (left_out skip core (live_of lines) lines) core (live_of lines) places
  pub links : places.skips_links ≡ skip.links
  pub chain : Option Chain
  pub why : IsWhy (word_of core) (index_of reading lines) places block chain
  pub reached : IsSome chain ↔ Reach (graph_of_one core reading skip lines) block
  pub text : found.text.items ≡ text_of log (live_of lines) (sets_of (entries core)) block chain
  pub held : found.held ≡ is_some chain

-- the core or the log has a fault, the first; or both are free of faults, and no live block is asked for
abbrev pub IsWhyFault : List ℕ → List ℕ → ℕ → WhyError → Type 0
IsWhyFault core log address (Find e) = IsInputFault 1 core log e
IsWhyFault core log address (NoBlock a) =
    (a ≡ address) × IsCore core × ((lines : List Line) × IsLog log lines × AreNotAsked (live_of lines) address (length (live_of lines)))
