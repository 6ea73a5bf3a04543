-- The words of a group that are pushed at once.
use Rattle.std.specs.Prelude.{◌≡◌, ◌≢◌, ℕ, ◌%◌, ◌^◌, ◌<◌, ◌==◌, not, if◌then◌else◌, List, [], ◌++◌, length, map, slice_index, slice_index_or, count_ones}
use Rattle.std.specs.Int.{bit_at, w64, from_le_bytes}
use Rattle.std.specs.List.{range_with_len}

-- the word with the number, of 8 bytes each
abbrev pub word_of : List (List ℕ) → ℕ → ℕ
word_of words k = from_le_bytes w64 (slice_index_or words k [])

-- 64 words: each whose bit is set, and 0 for each other
abbrev pub group_of : ℕ → List (List ℕ) → List ℕ
group_of bits words = map (λ k. if bit_at bits k == 1 then word_of words k else 0) (range_with_len 0 64)

-- those of the bits whose words aren't 0
pub record AreNonzeroBits (bits : ℕ) (words : List (List ℕ)) (nonzero : ℕ) : Type 0 where
  pub narrow : nonzero < 2 ^ 64
  pub each : (k : ℕ) → k < 64 → bit_at nonzero k ≡ (if not (word_of words k == 0) then bit_at bits k else 0)

-- behind the words before are those whose bits are set, in order
pub record ArePushed (bits : ℕ) (words : List (List ℕ)) (before now : List ℕ) : Type 0 where
  pub more : List ℕ
  pub behind : now ≡ before ++ more
  pub count : length more ≡ count_ones bits
  pub each : (k : ℕ) → k < 64 → bit_at bits k ≡ 1 → slice_index more (count_ones (bits % 2 ^ k)) ≡ word_of words k
  pub nonzero : (k : ℕ) → k < length more → slice_index more k ≢ 0
