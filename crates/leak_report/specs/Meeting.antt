-- Texts in the order in which they are met, as a map from keys to numbers has them.
use Rattle.std.specs.Prelude.{◌≡◌, ℕ, ◌-◌, ◌<◌, ◌≤◌, ◌⊎◌, List, [], ◌∷◌, ◌++◌, length, drop, map, nat_lt, if◌then◌else◌, Some, All, Contains}
use Rattle.std.specs.Int.{w64, from_le_bytes}
use Rattle.std.specs.List.Sorted.{IsPermutation, IsSorted}
use Rattle.std.specs.Cmp.Lexicographic.{slice_cmp}
use Rattle.std.specs.Ordering.{nat_cmp}
use Rattle.std.specs.BTreeMap.{BTreeMap, get}
use denote.Ref.{Bor}
use Rattle.leak_report.specs.Groups.{Key, order_of_keys}
use Rattle.leak_report.specs.Numbered.{text_with}

-- the last 8 bytes as a number, or how many there are
abbrev pub tail_of : List ℕ → ℕ
tail_of text = if nat_lt (length text) 8 then length text else from_le_bytes w64 (drop (length text - 8) text)

-- the map has the place of each text at its key, which is its tail with it, and nothing else
pub record AreMet (numbers : BTreeMap Key ℕ) (texts : List (List ℕ)) : Type 0 where
  pub found : (k : Key) (n : ℕ) → get order_of_keys numbers k ≡ Some n → (n < length texts) × (text_with texts n ≡ k.1.now)
  pub each : (k : Key) (n : ℕ) → n < length texts → k.1.now ≡ text_with texts n → k.0 ≡ tail_of k.1.now → get order_of_keys numbers k ≡ Some n

-- the text has this number among the new ones, which are the old ones, or it is added to them
pub record IsMet (old new : List (List ℕ)) (text : List ℕ) (n : ℕ) : Type 0 where
  pub adds : (new ≡ old) ⊎ (new ≡ old ++ text ∷ [])
  pub below : n < length new
  pub is : text_with new n ≡ text

-- the texts differ, each is one of the given, and each given text has its place among them as its number
pub record AreNumberedAsMet (given texts : List (List ℕ)) (numbers : List ℕ) : Type 0 where
  pub apart : (i j : ℕ) → i < length texts → j < length texts → text_with texts i ≡ text_with texts j → i ≡ j
  pub few : length texts ≤ length given
  pub each : All (Contains given) texts
  pub below : All (λ n. n < length texts) numbers
  pub same : map (text_with texts) numbers ≡ given

-- the same slices, by the ascending order of their bytes
pub record IsSortOf (texts sorted : List (Bor (List ℕ))) : Type 0 where
  pub permutation : IsPermutation texts sorted
  pub ordered : IsSorted (λ x y. slice_cmp nat_cmp x.now y.now) sorted
