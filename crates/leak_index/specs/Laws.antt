-- What leaving ends out does to a lookup.
use Rattle.std.specs.Prelude.{ℕ, ◌≤◌, Bool, true, false, List, length, Option}
use Rattle.std.specs.List.{Contains}
use Rattle.leak_blocks.specs.declared.block.Block.{Block}
use Rattle.leak_blocks.specs.Span.{AreDisjoint}
use Rattle.leak_index.specs.Hits.{Index, hits_of}

-- the blocks, read by the listed distances, with ends or without
abbrev pub index_by : Bool → Option (List ℕ) → List Block → Index
index_by skips_ends listed blocks = record { blocks = blocks; reading = record { listed = listed; skips_ends = skips_ends } }

-- a word leads to one block at most if ends are left out
abbrev pub OneAtMost : Type 0
OneAtMost = (listed : Option (List ℕ)) (blocks : List Block) (word : ℕ)
    → AreDisjoint blocks → length (hits_of (index_by true listed blocks) word) ≤ 1

-- and to no block to which it doesn't lead otherwise
abbrev pub FewerHits : Type 0
FewerHits = (listed : Option (List ℕ)) (blocks : List Block) (word block : ℕ)
    → Contains (hits_of (index_by true listed blocks) word) block
    → Contains (hits_of (index_by false listed blocks) word) block
