-- Where the place of a call ends.
use Rattle.std.specs.Prelude.{◌≡◌, ◌≢◌, ℕ, ◌+◌, Bool, ◌&&◌, ◌||◌, ◌==◌, ◌⊎◌, List, [], ◌∷◌, ◌++◌, Option, Some, length, MatchOption, slice_index, codes, IsTrue, not, true}
use Rattle.std.specs.List.{list_any}
use Rattle.memchr.specs.Find.{IsLast, IsLastByte, is_byte}
use Rattle.leak_mtrace.specs.declared.line.Line.{Line}
use Rattle.leak_mtrace.specs.Line.{IsCall, IsPlaced}

-- one of + - < > !
abbrev pub is_sign : ℕ → Bool
is_sign b = b == 43 || b == 45 || b == 60 || b == 62 || b == 33

-- a space is there, and a sign and a space follow it
abbrev pub is_spot : List ℕ → ℕ → Bool
is_spot text k = slice_index text k == 32 && (is_sign (slice_index text (k + 1)) && slice_index text (k + 2) == 32)

-- the last space that a sign and a space follow
abbrev pub IsLastSpot : List ℕ → Option ℕ → Type 0
IsLastSpot text r = IsLast (λ k. is_spot text k ≡ true) 0 (length text) r

-- after the last ']', or else at the last space that a sign and a space follow
abbrev pub IsPlaceEnd : List ℕ → Option ℕ → Type 0
IsPlaceEnd text r = (bracket : Option ℕ) × IsLastByte (is_byte 93) text bracket
    × MatchOption bracket (IsLastSpot text r) (λ at. r ≡ Some (at + 1))

-- ---- the rule in full, over lists

abbrev pub has_bracket : List ℕ → Bool
has_bracket text = list_any (λ b. b == 93) text

-- a sign and a space
abbrev pub BeginsCall : List ℕ → Type 0
BeginsCall text = (sign : ℕ) × (more : List ℕ) × (text ≡ sign ∷ 32 ∷ more) × IsTrue (is_sign sign)

-- the text up to its last ']', that byte included, or, if it has none, up to the last space that a sign
-- and a space follow
abbrev pub IsWhere : List ℕ → List ℕ → Type 0
IsWhere text place =
    ((front : List ℕ) × (back : List ℕ) × (place ≡ front ++ 93 ∷ []) × (text ≡ place ++ back)
    × IsTrue (not (has_bracket back)))
    ⊎ (IsTrue (not (has_bracket text)) × (rest : List ℕ) × (text ≡ place ++ 32 ∷ rest) × BeginsCall rest
    × ((q r : List ℕ) → rest ≡ q ++ 32 ∷ r → BeginsCall r → ⊥))

-- a call after its place, by that rule
abbrev pub IsPlacedByRule : List ℕ → Line → Type 0
IsPlacedByRule text x = (place : List ℕ) × (rest : List ℕ) × (text ≡ codes "@ " ++ place ++ codes " " ++ rest)
    × ((place ≢ []) × IsWhere (place ++ 32 ∷ rest) place)
    × IsCall x.kind rest x.addr x.size × (x.caller ≡ (2, 2 + length place))

-- the short rule and the full one are one
abbrev pub PlacesAreOne : Type 0
PlacesAreOne = (text : List ℕ) (x : Line)
    → (IsPlaced text x → IsPlacedByRule text x) × (IsPlacedByRule text x → IsPlaced text x)
