-- What a line of holders says of the blocks of its text.
use Rattle.std.specs.Prelude.{◌≡◌, ◌↔◌, ℕ, ◌≤◌, Bool, false, List, length, sum_by, slice_index_or, Option, IsTrue}
use Rattle.std.specs.List.{AllByRecursion, Contains}
use Rattle.std.specs.List.Sorted.{IsStrictlySortedBy}
use Rattle.std.specs.Cmp.Lexicographic.{slice_cmp}
use Rattle.std.specs.Ordering.{nat_cmp}
use Rattle.leak_blocks.specs.declared.block.Block.{Block}
use Rattle.leak_blocks.specs.Live.{live_of}
use Rattle.leak_index.specs.Leads.{Distances}
use Rattle.leak_roots.specs.declared.skip.Skip.{Skip}
use Rattle.leak_marks.specs.Lists.{Has}
use Rattle.leak_marks.specs.Reach.{Graph}
use Rattle.leak_without.specs.Without.{AreHeldBy, IsHeldBy}
use Rattle.leak_search.specs.Search.{graph_of_one}
use Rattle.leak_holder_search.specs.declared.search.Holding.{Holding}
use Rattle.leak_holder_search.specs.Holders.{FindsHolders}
use Rattle.leak_holder_search.specs.Since.{counted_of}
use Rattle.leak_laws.specs.HeldTogether.{told_by_holders}
use Rattle.leak_laws.specs.HolderLines.{blocks_with_text}
use Rattle.leak_laws.specs.ToldHolders.{ToldHolder}

-- the numbers of which something holds, ascending
pub record Numbers (P : ℕ → Type 0) : Type 0 where
  pub list : List ℕ
  pub ascending : IsStrictlySortedBy nat_cmp list
  pub each : (n : ℕ) → Has list n ↔ P n

-- the texts of which something holds, in the order of their bytes
pub record Texts (P : List ℕ → Type 0) : Type 0 where
  pub list : List (List ℕ)
  pub ascending : IsStrictlySortedBy (slice_cmp nat_cmp) list
  pub each : (text : List ℕ) → Contains list text ↔ P text

-- the live block with the number
abbrev pub block_at : List Block → ℕ → Block
block_at live b = slice_index_or live b (record { start = 0; size = 0; line = 0; caller = (0, 0) })

abbrev pub sizes_of : List Block → List ℕ → ℕ
sizes_of live numbers = sum_by (λ b. (block_at live b).size) numbers

-- the block is marked, and of the line's text
abbrev pub IsOwn : List ℕ → List Block → List Bool → ToldHolder → ℕ → Type 0
IsOwn log live set h b = IsTrue (slice_index_or set b false) × Has (blocks_with_text log live h.text) b

pub record IsSaid (graph : Graph) (log : List ℕ) (live : List Block) (set counted : List Bool) (h : ToldHolder) : Type 0 where
  -- the counted blocks that the text holds
  pub held : Numbers (λ b. IsTrue (slice_index_or counted b false) × IsHeldBy graph (blocks_with_text log live h.text) b)
  pub blocks : h.blocks ≡ length held.list
  pub bytes : h.bytes ≡ sizes_of live held.list
  -- the counted ones of its own
  pub owned : Numbers (λ b. IsTrue (slice_index_or counted b false) × IsOwn log live set h b)
  pub own : h.own ≡ length owned.list
  pub own_bytes : h.own_bytes ≡ sizes_of live owned.list
  -- the other texts that hold each of its own, counted or not
  pub others : Texts (λ text. (text ≡ h.text → ⊥) × AreHeldBy graph (blocks_with_text log live h.text) (blocks_with_text log live text))
  pub within : h.within ≡ length others.list
  -- the first of its own by address
  pub first : ℕ
  pub first_own : IsOwn log live set h first
  pub start : h.start ≡ (block_at live first).start
  pub least : (b : ℕ) → IsOwn log live set h b → h.start ≤ (block_at live b).start

abbrev pub LinesAreSaid : Type 0
LinesAreSaid = (core log : List ℕ) (since : Option (List ℕ)) (reading : Distances) (skip : Skip) (found : Holding)
    → (f : FindsHolders core log since reading skip found)
    → AllByRecursion (IsSaid (graph_of_one core reading skip f.lines) log (live_of f.lines) f.set (counted_of since (live_of f.lines))) (told_by_holders f).rows
