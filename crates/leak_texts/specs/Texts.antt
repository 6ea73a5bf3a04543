-- Texts by number, and texts that stand one after another.
use Rattle.std.specs.Prelude.{◌≡◌, ◌≢◌, ℕ, ◌<◌, ◌≤◌, ◌⊎◌, List, [], ◌∷◌, ◌++◌, length, map, slice_index_or, slice_range, All}

-- the text with the number
abbrev pub text_with : List (List ℕ) → ℕ → List ℕ
text_with texts n = slice_index_or texts n []

-- none of the texts is this one
abbrev pub IsNew : List (List ℕ) → List ℕ → Type 0
IsNew texts text = (i : ℕ) → i < length texts → text_with texts i ≢ text

-- the text is added behind the others, and has the next number
pub record IsNext (texts : List (List ℕ)) (text : List ℕ) (later : List (List ℕ)) (n : ℕ) : Type 0 where
  pub added : later ≡ texts ++ text ∷ []
  pub last : n ≡ length texts

-- the number is the text's among the later texts, and none before is; and these are the texts so far, or the text is the next
pub record IsNumbered (texts : List (List ℕ)) (text : List ℕ) (later : List (List ℕ)) (n : ℕ) : Type 0 where
  pub below : n < length later
  pub is : text_with later n ≡ text
  pub first : (i : ℕ) → i < n → text_with later i ≢ text
  pub adds : (later ≡ texts) ⊎ IsNext texts text later n

-- the bytes at a place, whose end is excluded
abbrev pub bytes_at : List ℕ → ℕ × ℕ → List ℕ
bytes_at bytes place = slice_range bytes place.0 place.1

abbrev pub texts_at : List ℕ → List (ℕ × ℕ) → List (List ℕ)
texts_at bytes places = map (bytes_at bytes) places

-- the place is a range of the bytes
pub record IsWithin (bytes : List ℕ) (place : ℕ × ℕ) : Type 0 where
  pub order : place.0 ≤ place.1
  pub within : place.1 ≤ length bytes

-- each text has a place, in order, which is a range of the bytes with the text in it
pub record StandAt (bytes : List ℕ) (places : List (ℕ × ℕ)) (texts : List (List ℕ)) : Type 0 where
  pub inside : All (IsWithin bytes) places
  pub are : texts_at bytes places ≡ texts
