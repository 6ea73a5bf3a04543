-- The words of bytes that are made of words, and how large a word of bytes is.
use Rattle.std.proofs.Common.{◌≡◌, ℕ, zero, suc, ◌+◌, ◌-◌, ◌*◌, ◌^◌, ◌<◌, ◌≤◌, List, [], ◌∷◌, ◌++◌, length, take, drop, replicate, get_or, flat_map, refl, sym, ap, subst, ◌∙◌, length-append, arith}
use Rattle.std.specs.Int.{w64, from_le_bytes, to_le_bytes}
use Rattle.std.proofs.lemmas.List.{get_or-drop, get_or-take, length-replicate}
use Rattle.std.proofs.lemmas.Nat.{from_le_bytes-to_le_bytes_8}
use Rattle.leak_elf.specs.Fields.{number_at}
use Rattle.leak_elf.proofs.Heads.{number_behind}
use Rattle.leak_sift.specs.Behind.{bytes_behind}
use Rattle.leak_alike.specs.SiftedCores.{AreBytes}

-- ---- bytes of words

words_long : (words : List ℕ) → length (flat_map (to_le_bytes w64) words) ≡ 8 * length words
words_long [] = refl
words_long (w ∷ ws) = let rest = words_long ws in omega arith

pub behind_long : (words : List ℕ) (len : ℕ) → 8 * length words ≤ len → length (bytes_behind words len) ≡ len
behind_long words len h =
    omega (arith, length-append (flat_map (to_le_bytes w64) words) (replicate (len - 8 * length words) 0), words_long words, length-replicate {A = ℕ} (len - 8 * length words) 0)

first_word : (word : ℕ) (rest : List ℕ) → word < 2 ^ 64 → number_at w64 (to_le_bytes w64 word ++ rest) 0 ≡ word
unfolding number_at
first_word word rest small = from_le_bytes-to_le_bytes_8 word small

pub word_at : (words rest : List ℕ) (k : ℕ) → k < length words → get_or words k 0 < 2 ^ 64
    → number_at w64 (flat_map (to_le_bytes w64) words ++ rest) (8 * k) ≡ get_or words k 0
word_at [] rest k h small = absurd (omega arith)
word_at (w ∷ ws) rest zero h small = first_word w (flat_map (to_le_bytes w64) ws ++ rest) small
word_at (w ∷ ws) rest (suc k) h small =
    let at : 8 * suc k - length (to_le_bytes w64 w) ≡ 8 * k = omega arith in
    number_behind (to_le_bytes w64 w) (flat_map (to_le_bytes w64) ws ++ rest) (8 * suc k) (omega arith)
    ∙ ap (number_at w64 (flat_map (to_le_bytes w64) ws ++ rest)) at ∙ word_at ws rest k (omega arith) small

-- ---- a word of bytes

small_number : (a b c d e f g h : ℕ) → a < 256 → b < 256 → c < 256 → d < 256 → e < 256 → f < 256 → g < 256 → h < 256
    → a + b * 256 + c * 65536 + d * 16777216 + e * 4294967296 + f * 1099511627776 + g * 281474976710656 + h * 72057594037927936 < 2 ^ 64
small_number a b c d e f g h a' b' c' d' e' f' g' h' = omega arith

pub small_word : (bytes : List ℕ) (at : ℕ) → AreBytes bytes → number_at w64 bytes at < 2 ^ 64
unfolding number_at
small_word bytes at are =
    let size : at + 8 - at ≡ 8 = omega arith in
    subst (λ (n : ℕ). from_le_bytes w64 (take n (drop at bytes)) < 2 ^ 64) (sym size)
    (small_number (byte 0) (byte 1) (byte 2) (byte 3) (byte 4) (byte 5) (byte 6) (byte 7)
    (small 0 (omega arith)) (small 1 (omega arith)) (small 2 (omega arith)) (small 3 (omega arith))
    (small 4 (omega arith)) (small 5 (omega arith)) (small 6 (omega arith)) (small 7 (omega arith)))
  where
    byte : ℕ → ℕ
    byte i = get_or (take 8 (drop at bytes)) i 0

    small : (i : ℕ) → i < 8 → get_or (take 8 (drop at bytes)) i 0 < 256
    small i h = subst (λ (b : ℕ). b < 256) (sym (get_or-take 8 (drop at bytes) i 0 h ∙ get_or-drop at bytes i 0)) (are (at + i))
