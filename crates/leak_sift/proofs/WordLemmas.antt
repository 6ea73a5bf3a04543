-- Words of bytes, part by part.
use Rattle.std.proofs.Common.{◌≡◌, ℕ, ◌+◌, ◌-◌, ◌*◌, ◌/◌, ◌<◌, ◌≤◌, zero, suc, List, [], ◌∷◌, ◌++◌, length, map, take, drop, replicate, get_or, refl, sym, ap, ◌∙◌, arith}
use Rattle.std.specs.Int.{w64, from_le_bytes}
use Rattle.std.specs.List.{range_with_len}
use Rattle.std.specs.Simd.{first_chunks}
use Rattle.std.proofs.lemmas.List.{drop-append-le, drop-drop, take-append-le, length-append, length-drop, same_lists, get_or_append_left, get_or-append_right, get_or-replicate, length-replicate}
use Rattle.std.proofs.lemmas.List.FromFn.{length-map-range_with_len, get_or-map-range_with_len}
use Rattle.std.proofs.Math.Seq.{drop-append-add}
use Rattle.leak_elf.specs.Fields.{number_at}
use Rattle.leak_index.proofs.Near.{either}
use Rattle.leak_sift.specs.Sifted.{by_words}

-- ---- numbers

number_left : (xs ys : List ℕ) (at : ℕ) → at + 8 ≤ length xs → number_at w64 (xs ++ ys) at ≡ number_at w64 xs at
unfolding number_at
number_left xs ys at h =
    let cut = drop-append-le at xs ys (omega arith) in
    let front = take-append-le (at + 8 - at) (drop at xs) ys (omega (arith, length-drop at xs)) in
    ap (λ (l : List ℕ). from_le_bytes w64 (take (at + 8 - at) l)) cut ∙ ap (from_le_bytes w64) front

number_right : (xs ys : List ℕ) (at : ℕ) → number_at w64 (xs ++ ys) (length xs + at) ≡ number_at w64 ys at
unfolding number_at
number_right xs ys at =
    let w : length xs + at + 8 - (length xs + at) ≡ at + 8 - at = omega arith in
    ap (λ (l : List ℕ). from_le_bytes w64 (take (length xs + at + 8 - (length xs + at)) l)) (drop-append-add xs ys at)
    ∙ ap (λ (n : ℕ). from_le_bytes w64 (take n (drop at ys))) w

chunk_number : (bytes : List ℕ) (n k : ℕ) (d : List ℕ) → k < n → from_le_bytes w64 (get_or (first_chunks 8 n bytes) k d) ≡ number_at w64 bytes (8 * k)
unfolding number_at
chunk_number bytes zero k d h = elim h [ ]
chunk_number bytes (suc n) zero d h = refl
chunk_number bytes (suc n) (suc k) d h =
    let at : 8 + 8 * k ≡ 8 * suc k = omega arith in
    let width : 8 * k + 8 - 8 * k ≡ 8 * suc k + 8 - 8 * suc k = omega arith in
    chunk_number (drop 8 bytes) n k d (omega arith)
    ∙ ap (λ (l : List ℕ). from_le_bytes w64 (take (8 * k + 8 - 8 * k) l)) (drop-drop (8 * k) 8 bytes ∙ ap (λ (m : ℕ). drop m bytes) at)
    ∙ ap (λ (m : ℕ). from_le_bytes w64 (take m (drop (8 * suc k) bytes))) width

-- one of the groups of 8 bytes that bytes are
pub number_of_chunk : (bytes : List ℕ) (chunks : List (List ℕ)) (k : ℕ) (d : List ℕ) → chunks ≡ first_chunks 8 (length bytes / 8) bytes → k < length bytes / 8
    → from_le_bytes w64 (get_or chunks k d) ≡ number_at w64 bytes (8 * k)
number_of_chunk bytes chunks k d e h = ap (λ (c : List (List ℕ)). from_le_bytes w64 (get_or c k d)) e ∙ chunk_number bytes (length bytes / 8) k d h

-- ---- words

pub length-by_words : (f : ℕ → ℕ → ℕ) (bytes : List ℕ) → length (by_words f bytes) ≡ length bytes / 8
unfolding by_words
length-by_words f bytes = length-map-range_with_len (λ k. f (8 * k) (number_at w64 bytes (8 * k))) 0 (length bytes / 8)

pub get-by_words : (f : ℕ → ℕ → ℕ) (bytes : List ℕ) (k d : ℕ) → k < length bytes / 8 → get_or (by_words f bytes) k d ≡ f (8 * k) (number_at w64 bytes (8 * k))
unfolding by_words
get-by_words f bytes k d h = get_or-map-range_with_len (λ k. f (8 * k) (number_at w64 bytes (8 * k))) 0 (length bytes / 8) k k d h (omega arith)

-- those of fewer bytes than 8
pub by_words-few : (f : ℕ → ℕ → ℕ) (bytes : List ℕ) → length bytes < 8 → by_words f bytes ≡ []
unfolding by_words
by_words-few f bytes h = let none : length bytes / 8 ≡ 0 = omega arith in ap (λ (n : ℕ). map (λ k. f (8 * k) (number_at w64 bytes (8 * k))) (range_with_len 0 n)) none

-- those of 8 bytes
pub by_words-one : (f : ℕ → ℕ → ℕ) (bytes : List ℕ) → length bytes ≡ 8 → by_words f bytes ≡ f 0 (number_at w64 bytes 0) ∷ []
unfolding by_words
by_words-one f bytes h = let one : length bytes / 8 ≡ 1 = omega (arith, h) in ap (λ (n : ℕ). map (λ k. f (8 * k) (number_at w64 bytes (8 * k))) (range_with_len 0 n)) one

-- by two functions that agree at each group
pub by_words-same : (f g : ℕ → ℕ → ℕ) (bytes : List ℕ) → ((k word : ℕ) → 8 * k + 8 ≤ length bytes → f (8 * k) word ≡ g (8 * k) word) → by_words f bytes ≡ by_words g bytes
by_words-same f g bytes h = same_lists (by_words f bytes) (by_words g bytes) (length-by_words f bytes ∙ sym (length-by_words g bytes)) (λ k d l.
    let inside : k < length bytes / 8 = omega (arith, length-by_words f bytes) in
    get-by_words f bytes k d inside ∙ h k (number_at w64 bytes (8 * k)) (omega arith) ∙ sym (get-by_words g bytes k d inside))

-- by one that gives 0 at each group
pub by_words-zeros : (f : ℕ → ℕ → ℕ) (bytes : List ℕ) → ((k word : ℕ) → 8 * k + 8 ≤ length bytes → f (8 * k) word ≡ 0) → by_words f bytes ≡ replicate (length bytes / 8) 0
by_words-zeros f bytes h = same_lists (by_words f bytes) (replicate (length bytes / 8) 0) (length-by_words f bytes ∙ sym (length-replicate (length bytes / 8) 0)) (λ k d l.
    let inside : k < length bytes / 8 = omega (arith, length-by_words f bytes) in
    get-by_words f bytes k d inside ∙ h k (number_at w64 bytes (8 * k)) (omega arith) ∙ sym (get_or-replicate (length bytes / 8) k 0 d inside))

-- by a function of the place after the first m groups
abbrev pub later : (ℕ → ℕ → ℕ) → ℕ → ℕ → ℕ → ℕ
later f m distance word = f (8 * m + distance) word

module _ (f : ℕ → ℕ → ℕ) (xs ys : List ℕ) (m : ℕ) (whole : length xs ≡ 8 * m) where
  lengths : length (by_words f (xs ++ ys)) ≡ length (by_words f xs ++ by_words (later f m) ys)
  lengths = omega (arith, whole, length-by_words f (xs ++ ys), length-append xs ys, length-append (by_words f xs) (by_words (later f m) ys), length-by_words f xs, length-by_words (later f m) ys)

  left : (k d : ℕ) → k < m → get_or (by_words f (xs ++ ys)) k d ≡ get_or (by_words f xs ++ by_words (later f m) ys) k d
  left k d h =
      let number = number_left xs ys (8 * k) (omega arith) in
      let inside : k < length (by_words f xs) = omega (arith, length-by_words f xs) in
      get-by_words f (xs ++ ys) k d (omega (arith, length-append xs ys)) ∙ ap (f (8 * k)) number ∙ sym (get-by_words f xs k d (omega arith))
      ∙ sym (get_or_append_left (by_words f xs) (by_words (later f m) ys) d k inside)

  right : (k d : ℕ) → m ≤ k → k < (length xs + length ys) / 8 → get_or (by_words f (xs ++ ys)) k d ≡ get_or (by_words f xs ++ by_words (later f m) ys) k d
  right k d h l =
      let at : 8 * k ≡ length xs + 8 * (k - m) = omega arith in
      let distance : 8 * k ≡ 8 * m + 8 * (k - m) = omega arith in
      let number : number_at w64 (xs ++ ys) (8 * k) ≡ number_at w64 ys (8 * (k - m)) = ap (number_at w64 (xs ++ ys)) at ∙ number_right xs ys (8 * (k - m)) in
      get-by_words f (xs ++ ys) k d (omega (arith, length-append xs ys)) ∙ ap (f (8 * k)) number ∙ ap (λ (n : ℕ). f n (number_at w64 ys (8 * (k - m)))) distance
      ∙ sym (get-by_words (later f m) ys (k - m) d (omega arith))
      ∙ sym (get_or-append_right (by_words f xs) (by_words (later f m) ys) m k d (omega (arith, length-by_words f xs)) h)

  -- those of complete groups, and then those of the bytes after them
  pub by_words-append : by_words f (xs ++ ys) ≡ by_words f xs ++ by_words (later f m) ys
  by_words-append = same_lists (by_words f (xs ++ ys)) (by_words f xs ++ by_words (later f m) ys) lengths (λ k d l.
      either k m (get_or (by_words f (xs ++ ys)) k d ≡ get_or (by_words f xs ++ by_words (later f m) ys) k d) (left k d)
      (λ h. right k d h (omega (arith, length-by_words f (xs ++ ys), length-append xs ys))))
