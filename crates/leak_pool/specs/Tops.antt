-- Blocks that are scanned several at once.
use Rattle.std.specs.Prelude.{◌≡◌, ℕ, ◌-◌, ◌<◌, List, ◌++◌, length, flat_map, take, drop}
use Rattle.leak_marks.specs.Lists.{Has}
use Rattle.leak_marks.specs.Rounds.{IsKeptInRounds}
use Rattle.leak_marks.specs.Seats.{Held}
use Rattle.leak_pool.specs.Items.{targets_of_block}
use Rattle.leak_pool.specs.declared.hand.Hand.{Hand}

-- what some blocks lead to, one block's after another's
abbrev pub targets_of_blocks : List (List ℕ) → List ℕ → List ℕ
targets_of_blocks targets blocks = flat_map (targets_of_block targets) blocks

-- Blocks on top of the stack were scanned: what they lead to is seen, and they are on the stack no more. The blocks claimed
-- for them are put away as those of an item are.
pub record IsTopScanned (targets : List (List ℕ)) (limit : ℕ) (before after : Held) (hand later : Hand)
    : Type 0 where
  pub rest : List ℕ
  pub top : List ℕ
  pub stack_was : hand.stack.items ≡ rest ++ top
  pub some : 0 < length top
  pub more : List ℕ
  pub claims_are : after.claims ≡ before.claims ++ more
  pub list_is : later.list.items ≡ hand.list.items ++ more
  pub stack_is : later.stack.items ≡ rest ++ take (limit - length rest) more
  pub left_is : later.left.items ≡ hand.left.items ++ drop (limit - length rest) more
  pub kept : IsKeptInRounds (Has (targets_of_blocks targets top)) before.seen after.seen more
