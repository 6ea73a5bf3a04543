-- The place of a text among others, as a number (own rule).
use Rattle.std.specs.Prelude.{ℕ, ◌+◌, ◌*◌, suc, zero, List, [], ◌∷◌, nat_lt, slice_index_or, if◌then◌else◌}

-- 256 to the n
abbrev pub weight : ℕ → ℕ
weight zero = 1
weight (suc n) = 256 * weight n

-- n bytes from place i on as a number, the first the highest. After the text's end there are zeros.
abbrev pub number_of : ℕ → ℕ → List ℕ → ℕ
number_of zero i text = 0
number_of (suc n) i text = slice_index_or text i 0 * weight n + number_of n (suc i) text

-- among texts with the prefix by the 8 bytes after it, else below or above them
abbrev pub place_of : List ℕ → List ℕ → ℕ
place_of [] text = number_of 8 0 text
place_of (p ∷ prefix) [] = 0
place_of (p ∷ prefix) (x ∷ text) =
    if nat_lt x p then 0 else if nat_lt p x then 18446744073709551615 else place_of prefix text
