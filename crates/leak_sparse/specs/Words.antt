-- Words that aren't 0, in a list, and room for more words.
use Rattle.std.specs.Prelude.{◌≡◌, ◌≢◌, ℕ, ◌+◌, ◌/◌, ◌*◌, ◌^◌, ◌<◌, ◌≤◌, ◌==◌, ◌&&◌, if◌then◌else◌, Bool, min, nat_le, not, List, length, slice_index, filter, take, drop}
use Rattle.std.specs.List.{count_by}

-- how many words aren't 0
abbrev pub kept_of : List ℕ → ℕ
kept_of words = count_by (λ word. not (word == 0)) words

-- of so many words from a place on, those that aren't 0
abbrev pub kept_from : List ℕ → ℕ → ℕ → List ℕ
kept_from words from count = filter (λ word. not (word == 0)) (take count (drop from words))

-- whether the word is neither below nor above
abbrev pub is_between : ℕ → ℕ → ℕ → Bool
is_between low high word = nat_le low word && nat_le word high

-- the word, or 0 if it is below or above
abbrev pub between : ℕ → ℕ → ℕ → ℕ
between low high word = if is_between low high word then word else 0

-- each word from a place on is 0
pub record NoneKeptFrom (words : List ℕ) (from : ℕ) : Type 0 where
  pub each : (k : ℕ) → from ≤ k → slice_index words k ≡ 0

-- the place's word isn't 0, and each from `from` on before it is 0
pub record IsNextKept (words : List ℕ) (from place : ℕ) : Type 0 where
  pub at_or_after : from ≤ place
  pub inside : place < length words
  pub kept : slice_index words place ≢ 0
  pub least : (k : ℕ) → from ≤ k → k < place → slice_index words k ≡ 0

-- where the group of 64 places ends that has the place, or the list
abbrev pub group_end : List ℕ → ℕ → ℕ
group_end words place = min (length words) (64 * (place / 64) + 64)

-- each word from `from` on before the place is 0. The place's word isn't 0, or the group or the list ends there.
pub record AreZerosTo (words : List ℕ) (from place : ℕ) : Type 0 where
  pub at_or_after : from ≤ place
  pub within : place ≤ group_end words from
  pub each : (k : ℕ) → from ≤ k → k < place → slice_index words k ≡ 0
  pub kept : place < group_end words from → slice_index words place ≢ 0

-- the groups of 64 places that the words take have room for this many more
pub record HasRoom (words : List ℕ) (count : ℕ) : Type 0 where
  pub same : (length words + count + 63) / 64 ≡ (length words + 63) / 64
  pub fits : length words + count < 2 ^ 64
