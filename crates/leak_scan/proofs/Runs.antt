-- Words in runs of bytes.
use Rattle.std.proofs.Common.{◌≡◌, ℕ, zero, suc, ◌+◌, ◌-◌, ◌*◌, ◌/◌, ◌<◌, ◌≤◌, refl, ap, sym, ◌∙◌, subst, List, [], ◌∷◌, length, take, drop, Option, Some, arith}
use Rattle.std.proofs.lemmas.List.{drop-drop, drop-take, take-take, length-drop, length-take-le}
use Rattle.std.specs.Int.{w64, from_le_bytes}
use Rattle.leak_elf.specs.Fields.{number_at}
use Rattle.leak_elf.specs.Words.{IsRun}
use Rattle.leak_scan.specs.Positions.{first_words, words_in, words_from}
use Rattle.leak_scan.proofs.Ranges.{IsAligned, one_word, no_addresses, same_range}

-- a number after dropped bytes
pub number_drop : (bytes : List ℕ) (m at : ℕ) → number_at w64 (drop m bytes) at ≡ number_at w64 bytes (m + at)
unfolding number_at
number_drop bytes m at =
    let w : at + 8 - at ≡ m + at + 8 - (m + at) = omega arith in
    ap (from_le_bytes w64) (ap (take {A = ℕ} (at + 8 - at)) (drop-drop at m bytes) ∙ ap (λ (j : ℕ). take j (drop (m + at) bytes)) w)

-- a number in the first bytes
number_take : (bytes : List ℕ) (m at : ℕ) → at + 8 ≤ m → number_at w64 (take m bytes) at ≡ number_at w64 bytes at
unfolding number_at
number_take bytes m at h =
    let e : m ≡ at + (m - at) = omega arith in
    ap (from_le_bytes w64)
    (ap (λ (j : ℕ). take (at + 8 - at) (drop at (take j bytes))) e ∙ ap (take {A = ℕ} (at + 8 - at)) (drop-take at (m - at) bytes)
    ∙ take-take (at + 8 - at) (m - at) (drop at bytes) (omega arith))

-- 8 bytes or more begin with a word
pub words_more : (bytes : List ℕ) → 8 ≤ length bytes → words_in bytes ≡ number_at w64 bytes 0 ∷ words_in (drop 8 bytes)
unfolding words_in
words_more bytes h =
    let n : length bytes / 8 ≡ suc (length (drop 8 bytes) / 8) = rw (length-drop 8 bytes) (omega arith) in
    ap (λ k. first_words k bytes) n

-- fewer have none
pub words_none : (bytes : List ℕ) → length bytes < 8 → words_in bytes ≡ []
unfolding words_in
words_none bytes h = let n : length bytes / 8 ≡ 0 = omega arith in ap (λ k. first_words k bytes) n

-- the first n words in the bytes are those at each eighth address
pub run_words : (f : ℕ → Option ℕ) (n from count : ℕ) (bytes : List ℕ) → IsAligned f → ((k : ℕ) → k < n → f (from + 8 * k) ≡ Some (number_at w64 bytes (8 * k))) → 8 * n ≤ count + 7 → count ≤ 8 * n →
    words_from f from count ≡ first_words n bytes
run_words f zero from count bytes aligned h l u = same_range f from from count 0 refl (omega arith) ∙ no_addresses f from
run_words f (suc n) from count bytes aligned h l u =
    let here : f from ≡ Some (number_at w64 bytes 0) = subst (λ (a : ℕ). f a ≡ Some (number_at w64 bytes 0)) (omega arith) (h 0 (omega arith)) in
    one_word f from count (number_at w64 bytes 0) aligned here (omega arith)
    ∙ ap (λ ws. number_at w64 bytes 0 ∷ ws) (run_words f n (from + 8) (count - 8) (drop 8 bytes) aligned (λ k z. next k z) (omega arith) (omega arith))
  where
    next : (k : ℕ) → k < n → f (from + 8 + 8 * k) ≡ Some (number_at w64 (drop 8 bytes) (8 * k))
    next k z =
        let place : from + 8 * (k + 1) ≡ from + 8 + 8 * k = omega arith in
        let at : 8 * (k + 1) ≡ 8 + 8 * k = omega arith in
        subst (λ (a : ℕ). f a ≡ Some (number_at w64 (drop 8 bytes) (8 * k))) place
        (h (k + 1) (omega (arith, z)) ∙ ap (λ (j : ℕ). Some (number_at w64 bytes j)) at ∙ ap (λ (x : ℕ). Some x) (sym (number_drop bytes 8 (8 * k))))

-- the first words of a run
pub run_taken : (f : ℕ → Option ℕ) (n from count : ℕ) (bytes : List ℕ) → IsAligned f → IsRun f from bytes → 8 * n ≤ length bytes → 8 * n ≤ count + 7 → count ≤ 8 * n → words_from f from count ≡ words_in (take (8 * n) bytes)
unfolding words_in
run_taken f n from count bytes aligned run fits l u =
    let len : n ≡ length (take (8 * n) bytes) / 8 = rw (length-take-le (8 * n) bytes fits) (omega arith) in
    run_words f n from count (take (8 * n) bytes) aligned (λ k z. run k (omega (arith, z)) ∙ ap (λ (x : ℕ). Some x) (sym (number_take bytes (8 * n) (8 * k) (omega (arith, z))))) l u
    ∙ ap (λ k. first_words k (take (8 * n) bytes)) len
