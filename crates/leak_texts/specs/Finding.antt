-- How the number of a text is found.
use Rattle.std.specs.Prelude.{◌≡◌, ℕ, ◌-◌, ◌^◌, ◌<◌, List, length, drop, nat_lt, if◌then◌else◌, Option, Some, All, Vec}
use Rattle.std.specs.Int.{w64, from_le_bytes}
use Rattle.std.specs.BTreeMap.{BTreeMap, get_by}
use Rattle.std.specs.Cmp.Lexicographic.{slice_cmp}
use Rattle.std.specs.Ordering.{nat_cmp, ordering_then}
use Rattle.std.specs.declared.alloc.Global.{Global}
use Rattle.std.specs.declared.cmp.Ordering.{Ordering}
use Rattle.leak_texts.specs.Texts.{IsWithin, text_with, texts_at}

-- the last 8 bytes as a number, or how many there are
abbrev pub tail_of : List ℕ → ℕ
tail_of text = if nat_lt (length text) 8 then length text else from_le_bytes w64 (drop (length text - 8) text)

-- a key is a text, after its tail. Keys go by the tail, and then by the text.
abbrev pub Key : Type 0
Key = ℕ × Vec ℕ Global

pub record IsKeyOf (key : Key) (text : List ℕ) : Type 0 where
  pub tail : key.0 ≡ tail_of text
  pub bytes : key.1.items ≡ text

abbrev pub order_at : ℕ → List ℕ → Key → Ordering
order_at tail text key = ordering_then (nat_cmp tail key.0) (slice_cmp nat_cmp text key.1.items)

-- what the map has at the text's key
abbrev pub number_in : BTreeMap Key ℕ → List ℕ → Option ℕ
number_in numbers text = get_by (order_at (tail_of text) text) numbers

-- it finds each of the texts by its number, and no other
pub record Finds (find : List ℕ → Option ℕ) (texts : List (List ℕ)) : Type 0 where
  pub found : (text : List ℕ) (n : ℕ) → find text ≡ Some n → (n < length texts) × (text_with texts n ≡ text)
  pub each : (n : ℕ) → n < length texts → find (text_with texts n) ≡ Some n

-- the places are ranges of the bytes, the texts there are found, and each has a number of 32 bits
pub record IsTable (bytes : List ℕ) (places : List (ℕ × ℕ)) (find : List ℕ → Option ℕ) : Type 0 where
  pub inside : All (IsWithin bytes) places
  pub finds : Finds find (texts_at bytes places)
  pub few : length places < 2 ^ 32
