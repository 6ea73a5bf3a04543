-- Lists of block numbers, and the mark bits of a list of words.
use Rattle.std.specs.Prelude.{ℕ, ◌+◌, ◌/◌, ◌%◌, ◌<◌, ◌≤◌, Bool, List, [], ◌∷◌, ◌==◌, if◌then◌else◌, max, slice_index}
use Rattle.std.specs.Int.{bit_at}
use Rattle.std.specs.List.{list_any}

-- how often x is in the list
abbrev pub times : ℕ → List ℕ → ℕ
times x [] = 0
times x (y ∷ ys) = (if y == x then 1 else 0) + times x ys

-- x is in the list
abbrev pub Has : List ℕ → ℕ → Type 0
Has xs x = 0 < times x xs

-- the same as a test, for definitions that compute
abbrev pub has : List ℕ → ℕ → Bool
has xs x = list_any (λ y. y == x) xs

-- no number is in the list twice
abbrev pub IsDistinct : List ℕ → Type 0
IsDistinct xs = (x : ℕ) → times x xs ≤ 1

-- each number of the first list is in the second
abbrev pub Within : List ℕ → List ℕ → Type 0
Within xs ys = (x : ℕ) → Has xs x → Has ys x

-- the mark of a block is bit b % 64 of word b / 64: 1 or 0
abbrev pub mark_of : List ℕ → ℕ → ℕ
mark_of words b = bit_at (slice_index words (b / 64)) (b % 64)

-- how many words hold the marks of this many blocks: at least one
abbrev pub word_count : ℕ → ℕ
word_count blocks = max 1 ((blocks + 63) / 64)
