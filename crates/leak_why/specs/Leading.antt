-- Words of a range of addresses that lead to a block.
use Rattle.std.specs.Prelude.{◌≡◌, ℕ, ◌+◌, ◌<◌, ◌≤◌, Bool, true, false, List, Option, Some}
use Rattle.leak_index.specs.Hits.{Index, hits_of}
use Rattle.leak_scan.specs.RootWords.{held_by}
use Rattle.leak_marks.specs.Lists.{Has}

-- the blocks that the word at the address leads to, with malloc's links to free chunks or without
abbrev pub led_by : Bool → (ℕ → Option ℕ) → Index → ℕ → ℕ → List ℕ
led_by false word_at index address word = hits_of index word
led_by true word_at index address word = held_by word_at index address word

-- the word at the address, whose 8 bytes all lie from `from` on and before `to`, leads to the block
pub record IsLeading (skips_links : Bool) (word_at : ℕ → Option ℕ) (index : Index)
    (from to block address word : ℕ) : Type 0 where
  pub from_start : from ≤ address
  pub to_end : address + 8 ≤ to
  pub word_is : word_at address ≡ Some word
  pub leads : Has (led_by skips_links word_at index address word) block

-- none of those at addresses below the limit does
abbrev pub NoneLeads : Bool → (ℕ → Option ℕ) → Index → ℕ → ℕ → ℕ → ℕ → Type 0
NoneLeads skips_links word_at index from to limit block =
    (a w : ℕ) → a < limit → IsLeading skips_links word_at index from to block a w → ⊥
