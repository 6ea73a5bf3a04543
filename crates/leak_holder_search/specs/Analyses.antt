-- What a question knows of an input: what is marked, the texts of callers, and which blocks are counted.
use Rattle.std.specs.Prelude.{◌≡◌, ℕ, ◌^◌, ◌<◌, List, length}
use Rattle.leak_blocks.specs.declared.block.Block.{Block}
use Rattle.leak_blocks.specs.Live.{Replay}
use Rattle.leak_marks.specs.Reach.{Graph}
use Rattle.leak_without.specs.Without.{graph_of}
use Rattle.leak_pool.specs.Listing.{targets_in}
use Rattle.leak_report.specs.Numbered.{AreTexts, bytes_each}
use Rattle.leak_report.specs.Totals.{HaveCallersIn}
use Rattle.leak_holders.specs.Holders.{AreReached}
use Rattle.leak_holders.specs.declared.block_table.BlockTable.{BlockTable}
use Rattle.leak_holders.specs.declared.holder.Holder.{Holder}
use Rattle.leak_search.specs.declared.listed.ListedInput.{ListedInput}
use Rattle.leak_holder_search.specs.declared.analysis.Analysis.{Analysis}
use Rattle.leak_holder_search.specs.declared.logs.Logs.{Logs}
use Rattle.leak_holder_search.specs.Rows.{AreKnown, AreRows}
use Rattle.leak_holder_search.specs.Since.{counted_of, earlier}

-- its live blocks, what leads to what among them by the lists, and the texts of their callers
abbrev pub blocks_in : Analysis → List Block
blocks_in a = a.live.now.blocks

abbrev pub graph_in : Analysis → Graph
graph_in a = graph_of a.listed.listing.first.items (targets_in a.listed.listing)

abbrev pub texts_in : Analysis → List (List ℕ)
texts_in a = bytes_each a.texts.texts.items

-- there is a list for each block, the log has the callers' texts, and all else is what the lists and the logs say of the blocks
pub record IsAnalysis (a : Analysis) : Type 0 where
  pub one_each : length (targets_in a.listed.listing) ≡ length (blocks_in a)
  pub callers : HaveCallersIn a.logs.log.now (blocks_in a)
  pub few : length (blocks_in a) < 2 ^ 32
  pub reached : AreReached (graph_in a) a.set.items
  pub numbered : AreTexts a.logs.log.now (blocks_in a) (texts_in a) a.texts.numbers.items
  pub counted : a.counted.items ≡ counted_of (earlier a.logs.since) (blocks_in a)

-- it is that of these blocks, lists and logs
pub record IsAnalysisOf (live : Replay) (listed : ListedInput) (logs : Logs) (a : Analysis) : Type 0 where
  pub is : IsAnalysis a
  pub live_is : a.live.now ≡ live
  pub listed_is : a.listed ≡ listed
  pub logs_are : a.logs ≡ logs

-- this is the table of its blocks
abbrev pub IsTableOf : Analysis → BlockTable → Type 0
IsTableOf a table = AreKnown (blocks_in a) a.texts.numbers.items a.set.items a.counted.items table

-- these are the rows of its texts
abbrev pub AreRowsIn : Analysis → List Holder → Type 0
AreRowsIn a rows = AreRows (graph_in a) (blocks_in a) a.texts.numbers.items a.set.items a.counted.items (length (texts_in a)) rows
