-- Worked words: four blocks, two of which another begins right after, in two readings, with ends and without. Then one or
-- two blocks at a time.
use Rattle.std.specs.Prelude.{◌≡◌, ℕ, true, false, List, [], ◌∷◌, Option, Some, None}
use Rattle.leak_blocks.specs.declared.block.Block.{Block}
use Rattle.leak_index.specs.Hits.{hits_of}
use Rattle.leak_index.specs.Laws.{index_by}

abbrev pub block : ℕ → ℕ → ℕ → Block
block start size number = record { start = start; size = size; line = number; caller = (0, 0) }

abbrev pub four : List Block
four = block 0x100 16 1 ∷ block 0x110 0 2 ∷ block 0x111 15 3 ∷ block 0x130 16 4 ∷ []

-- by the listed distances
abbrev pub hits : Option (List ℕ) → ℕ → List ℕ
hits listed word = hits_of (index_by false listed four) word

-- without ends
abbrev pub inner : Option (List ℕ) → ℕ → List ℕ
inner listed word = hits_of (index_by true listed four) word

abbrev pub by_eight : Option (List ℕ)
by_eight = Some (8 ∷ [])

pub record AreWorkedWords : Type 0 where
  pub before : hits None 0xff ≡ []
  pub start : hits None 0x100 ≡ 0 ∷ []
  pub inside : hits None 0x108 ≡ 0 ∷ []
  pub both : hits None 0x110 ≡ 0 ∷ 1 ∷ []
  pub third : hits None 0x111 ≡ 2 ∷ []
  pub third_inside : hits None 0x119 ≡ 2 ∷ []
  pub third_end : hits None 0x120 ≡ 2 ∷ []
  pub between : hits None 0x121 ≡ []
  pub last_end : hits None 0x140 ≡ 3 ∷ []
  pub far : hits None 0xffff_ffff_ffff_ffff ≡ []
  pub by_before : hits by_eight 0xff ≡ []
  pub by_first : hits by_eight 0x100 ≡ 0 ∷ []
  pub by_inside : hits by_eight 0x108 ≡ 0 ∷ []
  pub by_start : hits by_eight 0x110 ≡ 1 ∷ []
  pub by_third_start : hits by_eight 0x111 ≡ 2 ∷ []
  pub by_third : hits by_eight 0x119 ≡ 2 ∷ []
  pub by_end : hits by_eight 0x120 ≡ []
  pub by_between : hits by_eight 0x121 ≡ []
  pub by_last_end : hits by_eight 0x140 ≡ []
  pub by_far : hits by_eight 0xffff_ffff_ffff_ffff ≡ []

pub record AreWorkedInner : Type 0 where
  pub before : inner None 0xff ≡ []
  pub start : inner None 0x100 ≡ 0 ∷ []
  pub inside : inner None 0x108 ≡ 0 ∷ []
  pub both : inner None 0x110 ≡ 1 ∷ []
  pub third : inner None 0x111 ≡ 2 ∷ []
  pub third_inside : inner None 0x119 ≡ 2 ∷ []
  pub third_end : inner None 0x120 ≡ []
  pub between : inner None 0x121 ≡ []
  pub last_end : inner None 0x140 ≡ []
  pub far : inner None 0xffff_ffff_ffff_ffff ≡ []
  pub by_before : inner by_eight 0xff ≡ []
  pub by_first : inner by_eight 0x100 ≡ 0 ∷ []
  pub by_inside : inner by_eight 0x108 ≡ 0 ∷ []
  pub by_start : inner by_eight 0x110 ≡ 1 ∷ []
  pub by_third_start : inner by_eight 0x111 ≡ 2 ∷ []
  pub by_third : inner by_eight 0x119 ≡ 2 ∷ []
  pub by_end : inner by_eight 0x120 ≡ []
  pub by_between : inner by_eight 0x121 ≡ []
  pub by_last_end : inner by_eight 0x140 ≡ []
  pub by_far : inner by_eight 0xffff_ffff_ffff_ffff ≡ []

-- the hits of a word with ends, and without
abbrev pub both_ways : Option (List ℕ) → List Block → ℕ → List ℕ → List ℕ → Type 0
both_ways listed blocks word with_ends without =
    (hits_of (index_by false listed blocks) word ≡ with_ends) × (hits_of (index_by true listed blocks) word ≡ without)

abbrev pub by_32 : Option (List ℕ)
by_32 = Some (32 ∷ [])

-- a block's end and its last byte; the end of one block that is the start of another, which may be empty
pub record AreWorkedEnds : Type 0 where
  pub end : both_ways None (block 0x10100 0x20 1 ∷ []) 0x10120 (0 ∷ []) []
  pub last : both_ways None (block 0x10100 0x20 1 ∷ []) 0x1011f (0 ∷ []) (0 ∷ [])
  pub neighbors : both_ways None (block 0x10100 0x20 1 ∷ block 0x10120 0x10 2 ∷ []) 0x10120 (0 ∷ 1 ∷ []) (1 ∷ [])
  pub empty : both_ways None (block 0x10200 0 1 ∷ []) 0x10200 (0 ∷ []) (0 ∷ [])
  pub past_empty : both_ways None (block 0x10200 0 1 ∷ []) 0x10201 [] []
  pub listed : both_ways by_32 (block 0x10100 0x20 1 ∷ block 0x10120 0 2 ∷ []) 0x10120 (0 ∷ 1 ∷ []) (1 ∷ [])
  pub listed_last : both_ways (Some (31 ∷ [])) (block 0x10100 0x20 1 ∷ []) 0x1011f (0 ∷ []) (0 ∷ [])
  pub unlisted : both_ways by_32 (block 0x10100 0x20 1 ∷ []) 0x1011f [] []
