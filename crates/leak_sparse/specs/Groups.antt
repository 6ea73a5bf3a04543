-- Groups of 64 places, and the words of a list that they keep.
use Rattle.std.specs.Prelude.{◌≡◌, ◌≢◌, ℕ, ◌+◌, ◌-◌, ◌*◌, ◌/◌, ◌%◌, ◌^◌, ◌<◌, ◌≤◌, ◌==◌, if◌then◌else◌, List, ◌++◌, length, map, filter, replicate, take, slice_index, slice_index_or, count_ones}
use Rattle.std.specs.Int.{bit_at}
use Rattle.std.specs.List.{range_with_len, sum_by}
use Rattle.leak_sparse.specs.declared.group.Group.{Group}
use Rattle.leak_sparse.specs.Words.{is_between}

-- a group of which no word is kept
abbrev pub empty : ℕ → Group
empty before = record { bits = 0; before = before }

-- the word at a place of a group. If the place's bit is set, it is kept, after the words before the group and one for
-- each lower bit that is set. Otherwise it is 0
abbrev pub word_in : Group → List ℕ → ℕ → ℕ
word_in group kept bit =
    if bit_at group.bits bit == 1 then slice_index kept (group.before + count_ones (group.bits % 2 ^ bit)) else 0

-- the word at a place of the list. Past the last group it is 0
abbrev pub word_at : List Group → List ℕ → ℕ → ℕ
word_at groups kept place = word_in (slice_index_or groups (place / 64) (empty 0)) kept (place % 64)

-- the words of all places
abbrev pub words_of : List Group → List ℕ → ℕ → List ℕ
words_of groups kept len = map (word_at groups kept) (range_with_len 0 len)

-- how many words are kept of all places of these groups
abbrev pub kept_in : List Group → ℕ
kept_in groups = sum_by (λ group. count_ones group.bits) groups

-- the groups of a list of this many words, and its kept words in order. A group past the last word may be there, empty
pub record AreGroups (groups : List Group) (kept : List ℕ) (len : ℕ) : Type 0 where
  pub enough : len ≤ 64 * length groups
  pub spare : 64 * length groups ≤ len + 64
  pub narrow : (g : ℕ) → (slice_index_or groups g (empty 0)).bits < 2 ^ 64
  pub clear : (slice_index_or groups (len / 64) (empty 0)).bits < 2 ^ (len % 64)
  pub before : (g : ℕ) → g < length groups → (slice_index_or groups g (empty 0)).before ≡ kept_in (take g groups)
  pub whole : length kept ≡ kept_in groups
  pub nonzero : (k : ℕ) → k < length kept → slice_index kept k ≢ 0

-- how many groups this many places take
abbrev pub group_count : ℕ → ℕ
group_count places = (places + 63) / 64

-- with empty groups at the end, until there are so many
abbrev pub padded : List Group → ℕ → ℕ → List Group
padded groups count before = groups ++ replicate (count - length groups) (empty before)

-- with empty groups at the end, until there are enough for this many places
abbrev pub covered : List Group → ℕ → ℕ → List Group
covered groups places before = padded groups (group_count places) before

-- a group before which this many words more are kept
abbrev pub moved : ℕ → Group → Group
moved count group = record { bits = group.bits; before = count + group.before }

-- the bits of those words of a group that are neither below nor above
pub record AreBitsBetween (low high : ℕ) (kept : List ℕ) (group : Group) (bits : ℕ) : Type 0 where
  pub narrow : bits < 2 ^ 64
  pub each : (k : ℕ) → k < 64 → bit_at bits k ≡ (if is_between low high (word_in group kept k) then bit_at group.bits k else 0)

-- the groups with those bits alone, and with as many words before each as are left
pub record AreGroupsBetween (low high : ℕ) (kept : List ℕ) (groups now : List Group) : Type 0 where
  pub long : length now ≡ length groups
  pub bits : (g : ℕ) → g < length groups → AreBitsBetween low high kept (slice_index_or groups g (empty 0)) (slice_index_or now g (empty 0)).bits
  pub before : (g : ℕ) → g < length groups → (slice_index_or now g (empty 0)).before ≡ kept_in (take g now)

-- of the words before this rank those that are neither below nor above are in front, and the others from it on are as they were
pub record AreMoved (low high : ℕ) (kept now : List ℕ) (front rank : ℕ) : Type 0 where
  pub within : front ≤ rank
  pub long : length now ≡ length kept
  pub front_words : take front now ≡ filter (is_between low high) (take rank kept)
  pub rest : (k : ℕ) → rank ≤ k → slice_index now k ≡ slice_index kept k
