-- Words of the bytes behind a head.
use Rattle.std.proofs.Common.{◌≡◌, ◌∙◌, ℕ, zero, suc, ◌+◌, ◌-◌, ◌*◌, ◌/◌, ◌%◌, ◌^◌, ◌<◌, ◌≤◌, List, [], ◌∷◌, ◌++◌, length, Option, Some, None, refl, sym, ap, IfSome, inl, inr, subst, append_assoc, length-append, arith, eq-eqb}
use Rattle.std.specs.Prelude.{flat_map, replicate, slice_get, slice_index}
use Rattle.std.specs.Int.{w64, to_le_bytes, from_le_bytes}
use Rattle.std.proofs.lemmas.Bool.{cases_eq, le-leb, lt-leb, ne_eqb}
use Rattle.std.proofs.lemmas.List.{length-replicate}
use Rattle.std.proofs.lemmas.Option.{slice_get_within}
use Rattle.std.proofs.lemmas.Nat.{from_le_bytes-to_le_bytes_8}
use Rattle.leak_elf.specs.Fields.{number_at}
use Rattle.leak_elf.specs.Head.{aligned_number_at, AreZerosUpTo}
use Rattle.leak_elf.proofs.Heads.{number_behind}
use Rattle.leak_sparse.specs.Words.{AreZerosTo}
use denote.Ref.{Bor}
use Rattle.leak_sift.specs.Behind.{HasWords, IsBehind, bytes_behind, words_behind}

abbrev bytes_of : List ℕ → List ℕ
bytes_of words = flat_map (to_le_bytes w64) words

bytes_long : (words : List ℕ) → length (bytes_of words) ≡ 8 * length words
bytes_long [] = refl
bytes_long (x ∷ xs) = length-append (to_le_bytes w64 x) (bytes_of xs) ∙ omega (arith, bytes_long xs)

-- how many bytes there are
pub length_behind : (words : List ℕ) (len : ℕ) → 8 * length words ≤ len → length (bytes_behind words len) ≡ len
length_behind words len within =
    length-append (bytes_of words) (replicate (len - 8 * length words) 0)
    ∙ omega (arith, bytes_long words, length-replicate {A = ℕ} (len - 8 * length words) 0)

-- the number of a word's bytes
number_of : (words zeros : List ℕ) (k w : ℕ) → slice_get words k ≡ Some w → w < 2 ^ 64 → number_at w64 (bytes_of words ++ zeros) (8 * k) ≡ w
unfolding number_at
number_of [] zeros k w is fits = absurd cc
number_of (x ∷ xs) zeros zero w is fits =
    let same : x ≡ w = cc in
    ap (λ (n : ℕ). from_le_bytes w64 (to_le_bytes w64 n)) same ∙ from_le_bytes-to_le_bytes_8 w fits
number_of (x ∷ xs) zeros (suc k) w is fits =
    let rest = bytes_of xs ++ zeros in
    let eight : 8 * suc k - length (to_le_bytes w64 x) ≡ 8 * k = omega arith in
    ap (λ (file : List ℕ). number_at w64 file (8 * suc k)) (append_assoc (to_le_bytes w64 x) (bytes_of xs) zeros)
    ∙ number_behind (to_le_bytes w64 x) rest (8 * suc k) (omega arith)
    ∙ ap (number_at w64 rest) eight
    ∙ number_of xs zeros k w is fits

past : (words : List ℕ) (k : ℕ) → slice_get words k ≡ None → length words ≤ k
past [] k none = omega arith
past (x ∷ xs) zero none = absurd cc
past (x ∷ xs) (suc k) none = let l = past xs k none in omega arith

-- where there are words, they are those
pub behind_some : (kept : Option (Bor (List ℕ))) (words : Bor (List ℕ)) (len : ℕ) (bytes : List ℕ) → kept ≡ Some words → IsBehind (words_behind kept) len → bytes_behind (words_behind kept) len ≡ bytes
    → HasWords words.now len × (bytes_behind words.now len ≡ bytes)
behind_some kept words len bytes some is view =
    let same : words_behind kept ≡ words.now = ap words_behind some in
    (subst (λ (l : List ℕ). HasWords l len) same is.words_of, sym (ap (λ (l : List ℕ). bytes_behind l len) same) ∙ view)

-- the word at an offset that is a multiple of 8
pub word_at : (words : List ℕ) (len at : ℕ) (found : Option ℕ) → HasWords words len → at % 8 ≡ 0 → found ≡ slice_get words (at / 8) → IfSome found (λ w. w < 2 ^ 64)
    → found ≡ aligned_number_at (bytes_behind words len) at
unfolding aligned_number_at
word_at words len at None has even none fits =
    let p = past words (at / 8) (sym none) in
    let l = length_behind words len has.within in
    let n = has.all in
    rw (eq-eqb _ _ even, lt-leb (at + 8) (length (bytes_behind words len)) (omega arith)) refl
word_at words len at (Some w) has even some fits =
    let inside = slice_get_within words (at / 8) w (sym some) in
    let l = length_behind words len has.within in
    let n = has.within in
    let place : 8 * (at / 8) ≡ at = omega arith in
    rw (eq-eqb _ _ even, le-leb (at + 8) (length (bytes_behind words len)) (omega arith))
    (ap (λ (x : ℕ). Some x) (sym (number_of words (replicate (len - 8 * length words) 0) (at / 8) w (sym some) fits) ∙ ap (number_at w64 (bytes_behind words len)) place))

odd_zero : (words : List ℕ) (len k : ℕ) → (k % 8 ≡ 0 → ⊥) → IfSome (aligned_number_at (bytes_behind words len) k) (λ w. w ≡ 0)
unfolding aligned_number_at
odd_zero words len k odd = rw (ne_eqb (k % 8) 0 odd) tt

is_zero : (words : List ℕ) (place : ℕ) → place < length words → slice_index words place ≡ 0 → Some 0 ≡ slice_get words place
is_zero [] place inside is = absurd (omega arith)
is_zero (x ∷ xs) zero inside is = ap (λ (w : ℕ). Some w) (sym is)
is_zero (x ∷ xs) (suc place) inside is = is_zero xs place (omega arith) is

-- zeros of the list are words that are 0
pub zeros_to : (words : List ℕ) (len at place : ℕ) → HasWords words len → at % 8 ≡ 0 → at / 8 < length words → AreZerosTo words (at / 8) place → AreZerosUpTo (bytes_behind words len) at (8 * place)
zeros_to words len at place has even inside zeros =
    let on = zeros.at_or_after in
    let end = zeros.within in record {
      at_or_after = omega arith;
      multiple = omega arith;
      each = λ k l m. elim (cases_eq (k % 8) 0) [
        | inr odd ↦ odd_zero words len k odd
        | inl e ↦
            let low : k / 8 < place = omega arith in
            let here : k / 8 < length words = omega arith in
            let is = zeros.each (k / 8) (omega arith) low in
            let some : Some 0 ≡ slice_get words (k / 8) = is_zero words (k / 8) here is in
            subst (λ (word : Option ℕ). IfSome word (λ w. w ≡ 0)) (word_at words len k (Some 0) has e some (omega arith)) refl
      ];
    }
