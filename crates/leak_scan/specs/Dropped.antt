-- Entries of blocks, as blocks and their targets are gone over.
use Rattle.std.specs.Prelude.{ℕ, Bool, false, not, ◌&&◌, List, slice_index_or, ◌==◌, Option}
use Rattle.std.specs.List.{list_any, enumerate_from}
use Rattle.leak_blocks.specs.declared.block.Block.{Block}
use Rattle.leak_index.specs.Hits.{Index}
use Rattle.leak_scan.specs.Heads.{holds}

-- the entry of the block b, dropped if one of the targets of the block `own` is b, and b is not `own`
abbrev pub after_targets : List Bool → ℕ → List ℕ → ℕ → Bool
after_targets entries own targets b = slice_index_or entries b false && not (not (own == b) && list_any (λ target. target == b) targets)

-- the entry of the block b, dropped if one of the blocks holds b; the first of them has the number n
abbrev pub after_blocks : (ℕ → Option ℕ) → Index → List Bool → List Bool → ℕ → List Block → ℕ → Bool
after_blocks word_at index set entries n blocks b =
    slice_index_or entries b false && not (list_any (holds word_at index set b) (enumerate_from n blocks))
