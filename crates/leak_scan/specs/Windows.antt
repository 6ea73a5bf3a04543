-- The first addresses on listed pages.
use Rattle.std.specs.Prelude.{◌≡◌, ℕ, ◌+◌, ◌%◌, ◌^◌, ◌⊎◌, length, slice_index_or, ◌<◌, ◌≤◌, false, true, List, Option, Some, None}
use Rattle.leak_scan.specs.Targets.{is_on}

-- no address from the first up to the second, which is excluded, is on a listed page
abbrev pub NoneListed : List ℕ → ℕ → ℕ → Type 0
NoneListed pages from to = (a : ℕ) → from ≤ a → a < to → is_on pages a ≡ false

-- `count` addresses from the start on are the first from `from` on that are on a listed page: none before them
-- is, and of them each multiple of 8 is. The start itself is, or it is the last address of all, which stands for a
-- page after it.
pub record IsWindowAt (pages : List ℕ) (from start count : ℕ) : Type 0 where
  pub behind : from ≤ start
  pub here : (is_on pages start ≡ true) ⊎ (start + 1 ≡ 2 ^ 64)
  pub none : NoneListed pages from start
  pub some : 0 < count
  pub all : (a : ℕ) → start ≤ a → a < start + count → a % 8 ≡ 0 → is_on pages a ≡ true

abbrev pub IsWindow : List ℕ → ℕ → Option (ℕ × ℕ) → Type 0
IsWindow pages from None = (a : ℕ) → from ≤ a → is_on pages a ≡ false
IsWindow pages from (Some window) = IsWindowAt pages from window.0 window.1

-- `count` of the numbers, which ascend, are below the page, and the others are not
pub record IsCountBelow (numbers : List ℕ) (page count : ℕ) : Type 0 where
  pub bound : count ≤ length numbers
  pub below : (k : ℕ) (d : ℕ) → k < count → slice_index_or numbers k d < page
  pub others : (k : ℕ) (d : ℕ) → count ≤ k → k < length numbers → page ≤ slice_index_or numbers k d
