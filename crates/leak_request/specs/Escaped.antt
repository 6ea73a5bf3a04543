-- Text from outside, as one line of a message shows it. Own rule, after the escapes of Rust: each byte below 32, 127 and the
-- backslash are written by a backslash and what follows it, so that the text can be read back; all others stay as they are.
use Rattle.std.specs.Prelude.{◌≡◌, ℕ, ◌+◌, ◌-◌, ◌/◌, ◌%◌, Bool, not, true, ◌==◌, ◌||◌, List, [], ◌∷◌, flat_map, nat_lt, if◌then◌else◌}
use Rattle.std.specs.List.{list_all}

-- a hexadecimal digit, in lower case
abbrev pub hex_digit : ℕ → ℕ
hex_digit n = if nat_lt n 10 then 48 + n else 97 + (n - 10)

-- the byte is a control character
abbrev pub is_control : ℕ → Bool
is_control byte = nat_lt byte 32 || byte == 127

-- what stands for the byte: \\, \n, \r, \t, or \x and two hexadecimal digits
abbrev pub escape_of : ℕ → List ℕ
escape_of byte =
    if byte == 92 then 92 ∷ 92 ∷ []
    else (if byte == 10 then 92 ∷ 110 ∷ []
    else (if byte == 13 then 92 ∷ 114 ∷ []
    else (if byte == 9 then 92 ∷ 116 ∷ []
    else (if is_control byte then 92 ∷ 120 ∷ hex_digit (byte / 16) ∷ hex_digit (byte % 16) ∷ []
    else byte ∷ []))))

-- each byte by what stands for it
abbrev pub escaped : List ℕ → List ℕ
escaped text = flat_map escape_of text

-- the text has no control character, and so no line end
abbrev pub AreShown : List ℕ → Type 0
AreShown text = list_all (λ byte. not (is_control byte)) text ≡ true

-- escaped text has none
abbrev pub EscapedIsShown : Type 0
EscapedIsShown = (text : List ℕ) → AreShown (escaped text)
