-- Root words by their places: the register words, and addresses in memory as ranges of multiples of 8.
use Rattle.std.specs.Prelude.{◌≡◌, ℕ, ◌<◌, ◌≤◌, ◌%◌, ◌+◌, ◌-◌, ◌/◌, ◌*◌, Bool, List, [], ◌∷◌, ◌++◌, map, filter, flat_map, filter_map, ◌==◌, Option, ⊤}
use Rattle.std.specs.List.{range_with_len, AllByRecursion}
use Rattle.leak_elf.specs.Words.{places}

-- the register words, ranges of addresses, each with its end excluded, how many freed places and how many dead places are
-- not among them, and whether malloc's links to free chunks are left out of what the words in memory lead to
pub record Places : Type 0 where
  pub registers : List ℕ
  pub memory : List (ℕ × ℕ)
  pub freed : ℕ
  pub dead : ℕ
  pub skips_links : Bool

-- each eighth address of a range
abbrev pub addresses_in : ℕ × ℕ → List ℕ
addresses_in range = map (λ i. range.0 + 8 * i) (range_with_len 0 ((range.1 - range.0) / 8))

-- the places in memory, in order
abbrev pub memory_places : List (ℕ × ℕ) → List ℕ
memory_places ranges = flat_map addresses_in ranges

-- a range of multiples of 8, not empty
pub record IsRange (range : ℕ × ℕ) : Type 0 where
  pub some : range.0 < range.1
  pub from_multiple : range.0 % 8 ≡ 0
  pub to_multiple : range.1 % 8 ≡ 0

-- such ranges, each after the one before
abbrev pub AreRanges : List (ℕ × ℕ) → Type 0
AreRanges [] = ⊤
AreRanges (r ∷ rs) = IsRange r × AllByRecursion (λ s. r.1 ≤ s.0) rs × AreRanges rs

-- ranges that begin at the address or after it
abbrev pub BeginFrom : ℕ → List (ℕ × ℕ) → Type 0
BeginFrom addr ranges = AllByRecursion (λ r. addr ≤ r.0) ranges

-- ranges that end at the address or before it
abbrev pub EndBy : ℕ → List (ℕ × ℕ) → Type 0
EndBy addr ranges = AllByRecursion (λ r. r.1 ≤ addr) ranges

-- the multiples of 8 from `from` on whose 8 bytes end at `to` or before it
abbrev pub aligned_places : ℕ → ℕ → List ℕ
aligned_places from to = filter (λ a. a % 8 == 0) (places from to)

-- the root words at the places, in a map from addresses to words
unfoldable pub words_at : (ℕ → Option ℕ) → Places → List ℕ
words_at word_at places = places.registers ++ filter_map word_at (memory_places places.memory)
