-- The answer about chosen blocks, by what is known of an input.
use Rattle.std.specs.Prelude.{◌≡◌, length, slice_index}
use Rattle.leak_holders.specs.declared.block_table.BlockTable.{BlockTable}
use Rattle.leak_holders.specs.declared.question.Side.{Side}
use Rattle.leak_why.specs.Asked.{IsAsked}
use Rattle.leak_holder_search.specs.declared.analysis.Analysis.{Analysis}
use Rattle.leak_holder_search.specs.declared.choosing.Choice.{Choice}
use Rattle.leak_holder_search.specs.declared.held.Held.{Held}
use Rattle.leak_holder_search.specs.Held.{AreHeld, both, chosen_with}
use Rattle.leak_holder_search.specs.Analyses.{IsTableOf, blocks_in, graph_in, texts_in}

-- the address of the question asks for the block, and the blocks are those that the question is about
pub record IsChoice (a : Analysis) (choice : Choice) : Type 0 where
  pub asked : IsAsked (blocks_in a) choice.question.address choice.block
  pub set : choice.set.items ≡ chosen_with a.texts.numbers.items choice.block choice.question.alone
  pub own : choice.own.items ≡ both choice.set.items a.set.items

-- this is what they hold, or who holds them
pub record IsHeld (a : Analysis) (choice : Choice) (side : Side) (held : Held) : Type 0 where
  pub table : BlockTable
  pub of : IsTableOf a table
  pub each : length held.told.items ≡ length (blocks_in a)
  pub are : AreHeld side (graph_in a) table (length (texts_in a)) choice.set.items
      (slice_index a.texts.numbers.items choice.block) held.told.items held.parts.items
