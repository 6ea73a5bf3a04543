-- The rows of holders, by what is known of blocks.
use Rattle.std.specs.Prelude.{◌≡◌, ℕ, ◌^◌, ◌<◌, Bool, List, length, slice_index}
use Rattle.leak_blocks.specs.declared.block.Block.{Block}
use Rattle.leak_marks.specs.Reach.{Graph}
use Rattle.leak_holders.specs.declared.block_table.BlockTable.{BlockTable}
use Rattle.leak_holders.specs.declared.holder.Holder.{Holder}
use Rattle.leak_holders.specs.Holders.{AreHolders}

-- there is a number for each of `blocks` blocks, of one of `texts` texts
pub record AreNumbers (blocks texts : ℕ) (numbers : List ℕ) : Type 0 where
  pub one_each : length numbers ≡ blocks
  pub of_texts : (b : ℕ) → b < blocks → slice_index numbers b < texts
  pub few : texts < 2 ^ 32

-- this is known of the blocks: the number of each one's text, whether a chain reaches it, and whether it is counted
pub record AreKnown (blocks : List Block) (numbers : List ℕ) (set counted : List Bool) (table : BlockTable) : Type 0 where
  pub of_blocks : table.blocks.now ≡ blocks
  pub of_texts : table.numbers.now ≡ numbers
  pub reached : table.reached.now ≡ set
  pub counts : table.counted.now ≡ counted

-- the rows are those of this many texts, by what each holds in the graph
pub record AreRows (graph : Graph) (blocks : List Block) (numbers : List ℕ) (set counted : List Bool)
    (texts : ℕ) (rows : List Holder) : Type 0 where
  pub table : BlockTable
  pub known : AreKnown blocks numbers set counted table
  pub holders : AreHolders graph table texts rows
