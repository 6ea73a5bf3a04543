-- Worked chains if some distances alone keep a block, or if ends are left out, and a long one.
use Rattle.std.specs.Prelude.{ℕ, ◌+◌, ◌-◌, ◌*◌, true, false, List, [], ◌∷◌, map, Option, Some, None}
use Rattle.std.specs.List.{range_with_len}
use Rattle.leak_blocks.specs.declared.block.Block.{Block}
use Rattle.leak_index.specs.Laws.{index_by}
use Rattle.leak_roots.specs.Places.{Places}
use Rattle.leak_why.specs.declared.chain.Link.{Link}
use Rattle.leak_examples.specs.Chains.{IsHeldBy, IsLost, Sample, around_one, around_two, at, before_all, block, link, neighbors, one_block, places, sample, two_blocks, zero_registers}

-- blocks that the listed distances alone lead to
abbrev pub displaced_sample : List ℕ → List (ℕ × ℕ) → List Block → Places → Sample
displaced_sample listed words blocks places = record { words = words; index = index_by false (Some listed) blocks; places = places }

-- blocks that no word at their ends leads to
abbrev pub inner_sample : Option (List ℕ) → List (ℕ × ℕ) → List Block → Places → Sample
inner_sample listed words blocks places = record { words = words; index = index_by true listed blocks; places = places }

-- a word leads to a block of 32 bytes, if only the start and what is 8 bytes after it count
abbrev pub by_eight : ℕ → Sample
by_eight word = displaced_sample (8 ∷ []) ((0x10008, word) ∷ []) one_block (places around_one zero_registers)

-- a root word 8 bytes after the first block's start, and in this a word with a distance from the second's
abbrev pub two_by_eight : ℕ → Sample
two_by_eight distance = displaced_sample (8 ∷ []) ((0x10008, 0x10108) ∷ (0x10100, 0x10200 + distance) ∷ []) two_blocks (places around_two zero_registers)

-- which distances of words keep a block, and which ends
pub record AreWorkedDistances : Type 0 where
  pub listed : IsHeldBy (by_eight 0x10108) 0 (at 0x10008 0x10108) []
  pub start : IsHeldBy (by_eight 0x10100) 0 (at 0x10008 0x10100) []
  pub not_listed : IsLost (by_eight 0x10110) 0
  pub end_not_listed : IsLost (by_eight 0x10120) 0
  pub in_a_block : IsHeldBy (two_by_eight 8) 1 (at 0x10008 0x10108) (link 0 0x10100 0x10208 ∷ [])
  pub not_listed_in_a_block : IsLost (two_by_eight 4) 1
  pub end_left_out : IsLost (inner_sample None ((0x10008, 0x10120) ∷ []) one_block before_all) 0
  pub last_byte : IsHeldBy (inner_sample None ((0x10008, 0x1011f) ∷ []) one_block before_all) 0 (at 0x10008 0x1011f) []
  pub end_before_a_neighbor : IsLost (inner_sample None ((0x10008, 0x10120) ∷ []) (neighbors 0x10) before_all) 0
  pub start_of_a_neighbor : IsHeldBy (inner_sample None ((0x10008, 0x10120) ∷ []) (neighbors 0x10) before_all) 1 (at 0x10008 0x10120) []
  pub empty : IsHeldBy (inner_sample None ((0x10008, 0x10200) ∷ []) (block 0x10200 0 1 ∷ []) before_all) 0 (at 0x10008 0x10200) []
  pub listed_end : IsLost (inner_sample (Some (32 ∷ [])) ((0x10008, 0x10120) ∷ []) (neighbors 0) before_all) 0
  pub empty_neighbor : IsHeldBy (inner_sample (Some (32 ∷ [])) ((0x10008, 0x10120) ∷ []) (neighbors 0) before_all) 1 (at 0x10008 0x10120) []
  pub end_in_a_block : IsLost (inner_sample None ((0x10008, 0x10100) ∷ (0x10100, 0x10210) ∷ []) two_blocks before_all) 1

-- this many blocks of 16 bytes, each holding the start of the next in its first word
abbrev pub row_of : ℕ → Sample
row_of n = sample ((0x10008, 0x10200) ∷ map (λ i. (0x10200 + 0x20 * i, 0x10220 + 0x20 * i)) (range_with_len 0 n))
    (map (λ i. block (0x10200 + 0x20 * i) 0x10 (i + 1)) (range_with_len 0 n)) before_all

-- its links, from the last block back to the first
abbrev pub row_links : ℕ → List Link
row_links n = map (λ i. link (n - 2 - i) (0x10200 + 0x20 * (n - 2 - i)) (0x10220 + 0x20 * (n - 2 - i))) (range_with_len 0 (n - 1))

-- each of a hundred blocks is further from the root than the one before
pub record IsWorkedRow : Type 0 where
  pub last : IsHeldBy (row_of 100) 99 (at 0x10008 0x10200) (row_links 100)
  pub first : IsHeldBy (row_of 100) 0 (at 0x10008 0x10200) []
  pub second : IsHeldBy (row_of 100) 1 (at 0x10008 0x10200) (link 0 0x10200 0x10220 ∷ [])
