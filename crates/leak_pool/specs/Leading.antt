-- The ranges of root words that lead to blocks.
use Rattle.std.specs.Prelude.{ℕ, Bool, length, filter, nat_lt, Option}
use Rattle.leak_index.specs.Hits.{Index}
use Rattle.leak_roots.specs.Places.{Places, addresses_in}
use Rattle.leak_pool.specs.Marking.{led_in_memory}

-- a word of the range leads to a block
abbrev pub leads : Bool → (ℕ → Option ℕ) → Index → ℕ × ℕ → Bool
leads skips_links word_at index range =
    nat_lt 0 (length (led_in_memory skips_links word_at index (addresses_in range)))

-- the same root words without the ranges that lead to no block
unfoldable pub leading : (ℕ → Option ℕ) → Index → Places → Places
leading word_at index places =
    record places { memory = filter (leads places.skips_links word_at index) places.memory }
