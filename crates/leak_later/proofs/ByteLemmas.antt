-- Bytes of pages and their words.
use Rattle.std.proofs.Common.{◌≡◌, ◌≢◌, ℕ, zero, suc, ◌+◌, ◌-◌, ◌*◌, ◌<◌, ◌≤◌, ◌⊎◌, inl, inr, ⊎_elim, refl, sym, subst, ap, ◌∙◌, List, ◌++◌, length, take, drop, Option, Some, Bool, true, false, not, true≢false, arith}
use mathlib.Core.Logic.{dite}
use native.Mathlib.Decide.{ℕ_discrete}
use Rattle.std.proofs.Math.Decide.{dec_lt}
use Rattle.std.proofs.Math.Seq.{take-add}
use Rattle.std.proofs.lemmas.List.{drop-take, take-take, take_rest, length-drop, length-take-le, get_or-take, get_or-drop, get_or_past}
use Rattle.std.proofs.lemmas.Nat.{le_bytes_8}
use Rattle.std.specs.Str.{bytes_eq}
use Rattle.std.proofs.lemmas.Slice.Eq.{bytes_eq-Decides}
use Rattle.std.specs.Int.{w64, from_le_bytes}
use Rattle.leak_lemmas.proofs.Bytes.{AreBytes}
use Rattle.leak_elf.specs.Fields.{number_at}
use Rattle.leak_elf.specs.Words.{IsRun}
use Rattle.leak_scan.proofs.Runs.{number_drop}

-- ---- 8 bytes and their number

module _ (xs : List ℕ) (at : ℕ) (bytes : AreBytes xs) (fits : at + 8 ≤ length xs) where
  eight_long : length (take 8 (drop at xs)) ≡ 8
  eight_long = length-take-le 8 (drop at xs) (omega (arith, length-drop at xs))

  eight_bytes : AreBytes (take 8 (drop at xs))
  eight_bytes i = dite (dec_lt i 8)
      (λ low. subst (λ (b : ℕ). b < 256) (sym (get_or-take 8 (drop at xs) i 0 low ∙ get_or-drop at xs i 0)) (bytes (at + i)))
      (λ high. let past : length (take 8 (drop at xs)) ≤ i = omega (arith, eight_long) in
      subst (λ (b : ℕ). b < 256) (sym (get_or_past (take 8 (drop at xs)) i 0 past)) (omega arith))

number_of_eight : (xs : List ℕ) (at : ℕ) → number_at w64 xs at ≡ from_le_bytes w64 (take 8 (drop at xs))
unfolding number_at
number_of_eight xs at = let e : at + 8 - at ≡ 8 = omega arith in ap (λ (n : ℕ). from_le_bytes w64 (take n (drop at xs))) e

same_eight : (xs ys : List ℕ) (at : ℕ) → AreBytes xs → AreBytes ys → at + 8 ≤ length xs → at + 8 ≤ length ys → number_at w64 xs at ≡ number_at w64 ys at →
    take 8 (drop at xs) ≡ take 8 (drop at ys)
same_eight xs ys at bx by lx ly e =
    sym (le_bytes_8 (take 8 (drop at xs)) (number_at w64 xs at) (eight_long xs at bx lx) (eight_bytes xs at bx lx) (number_of_eight xs at))
    ∙ le_bytes_8 (take 8 (drop at ys)) (number_at w64 xs at) (eight_long ys at by ly) (eight_bytes ys at by ly) (e ∙ number_of_eight ys at)

-- ---- bytes are the same if their words are

pub same_bytes : (n : ℕ) (xs ys : List ℕ) → AreBytes xs → AreBytes ys → 8 * n ≤ length xs → 8 * n ≤ length ys →
    ((k : ℕ) → k < n → number_at w64 xs (8 * k) ≡ number_at w64 ys (8 * k)) → take (8 * n) xs ≡ take (8 * n) ys
same_bytes zero xs ys bx by lx ly h = refl
same_bytes (suc n) xs ys bx by lx ly h =
    let e : 8 * suc n ≡ 8 * n + 8 = omega arith in
    ap (λ (m : ℕ). take m xs) e ∙ take-add (8 * n) 8 xs
    ∙ ap (λ (zs : List ℕ). zs ++ take 8 (drop (8 * n) xs)) (same_bytes n xs ys bx by (omega arith) (omega arith) (λ k l. h k (omega arith)))
    ∙ ap (λ (zs : List ℕ). take (8 * n) ys ++ zs) (same_eight xs ys (8 * n) bx by (omega arith) (omega arith) (h n (omega arith)))
    ∙ sym (take-add (8 * n) 8 ys) ∙ ap (λ (m : ℕ). take m ys) (sym e)

number_in_front : (bytes : List ℕ) (n at : ℕ) → at + 8 ≤ n → number_at w64 (take n bytes) at ≡ number_at w64 bytes at
unfolding number_at
number_in_front bytes n at h =
    let e : n ≡ at + (n - at) = omega arith in
    ap (from_le_bytes w64)
    (ap (λ (j : ℕ). take (at + 8 - at) (drop at (take j bytes))) e ∙ ap (take {A = ℕ} (at + 8 - at)) (drop-take at (n - at) bytes)
    ∙ take-take (at + 8 - at) (n - at) (drop at bytes) (omega arith))

-- a word in the first bytes
pub word_in_front : (xs ys : List ℕ) (n at : ℕ) → at + 8 ≤ n → take n xs ≡ take n ys → number_at w64 xs at ≡ number_at w64 ys at
word_in_front xs ys n at h e = sym (number_in_front xs n at h) ∙ ap (λ (zs : List ℕ). number_at w64 zs at) e ∙ number_in_front ys n at h

-- ---- numbers below n at which two lists of numbers are not the same

pub alike : (n : ℕ) (f g : ℕ → ℕ) → ((k : ℕ) → k < n → f k ≡ g k) ⊎ ((k : ℕ) × (k < n) × (f k ≢ g k))
alike zero f g = inl (λ k h. absurd (omega (arith, h)))
alike (suc n) f g = ⊎_elim
    (λ same. dite (ℕ_discrete (f n) (g n))
    (λ e. inl (λ k h. dite (ℕ_discrete k n) (λ z. ap f z ∙ e ∙ ap g (sym z)) (λ nz. same k (omega arith))))
    (λ ne. inr (n, omega arith, ne)))
    (λ r. let low = r.1 in inr (r.0, omega arith, r.2))
    (alike n f g)

not_false : (t : Bool) → not t ≡ false → t ≡ true
not_false true e = refl
not_false false e = sym e

-- ---- what the comparison of pages as bytes says of their words

module _ (xs ys : List ℕ) (r : Bool) (bytes_x : AreBytes xs) (bytes_y : AreBytes ys) (long_x : 4096 ≤ length xs) (long_y : 4096 ≤ length ys) (is : r ≡ not (bytes_eq (take 4096 xs) (take 4096 ys))) where
  pub words_same : r ≡ false → (k : ℕ) → k < 512 → number_at w64 xs (8 * k) ≡ number_at w64 ys (8 * k)
  words_same false_r k h = word_in_front xs ys 4096 (8 * k) (omega (arith, h)) ((bytes_eq-Decides (take 4096 xs) (take 4096 ys)).0 (not_false (bytes_eq (take 4096 xs) (take 4096 ys)) (sym is ∙ false_r)))

  pub word_differs : r ≡ true → (k : ℕ) × (k < 512) × (number_at w64 xs (8 * k) ≢ number_at w64 ys (8 * k))
  word_differs true_r = ⊎_elim
      (λ same. absurd (true≢false (sym true_r ∙ is ∙ ap not ((bytes_eq-Decides (take 4096 xs) (take 4096 ys)).1 (same_bytes 512 xs ys bytes_x bytes_y long_x long_y same)))))
      (λ other. other)
      (alike 512 (λ k. number_at w64 xs (8 * k)) (λ k. number_at w64 ys (8 * k)))

-- ---- the rest of a run

run_behind : (f : ℕ → Option ℕ) (from m : ℕ) (bytes : List ℕ) → IsRun f from bytes → IsRun f (from + 8 * m) (drop (8 * m) bytes)
run_behind f from m bytes run k fits =
    let long : 8 * (m + k) + 8 ≤ length bytes = omega (arith, length-drop (8 * m) bytes) in
    let place : from + 8 * (m + k) ≡ from + 8 * m + 8 * k = omega arith in
    let at : 8 * (m + k) ≡ 8 * m + 8 * k = omega arith in
    subst (λ (a : ℕ). f a ≡ Some (number_at w64 (drop (8 * m) bytes) (8 * k))) place
    (run (m + k) long ∙ ap (λ (j : ℕ). Some (number_at w64 bytes j)) at ∙ ap (λ (x : ℕ). Some x) (sym (number_drop bytes (8 * m) (8 * k))))

-- the bytes of a run from a page of it on
pub page_in_run : (f : ℕ → Option ℕ) (page k : ℕ) (bytes : List ℕ) → IsRun f (4096 * page) bytes → IsRun f (4096 * (page + k)) (take (length bytes - 4096 * k) (drop (4096 * k) bytes))
page_in_run f page k bytes run =
    let start : 4096 * page + 8 * (512 * k) ≡ 4096 * (page + k) = omega arith in
    let behind : 8 * (512 * k) ≡ 4096 * k = omega arith in
    subst (λ (xs : List ℕ). IsRun f (4096 * (page + k)) xs) (sym (take_rest bytes (4096 * k)))
    (subst (λ (n : ℕ). IsRun f (4096 * (page + k)) (drop n bytes)) behind
    (subst (λ (a : ℕ). IsRun f a (drop (8 * (512 * k)) bytes)) start (run_behind f (4096 * page) (512 * k) bytes run)))

pub page_in_run_long : (k : ℕ) (bytes : List ℕ) → 4096 * k + 4096 ≤ length bytes → 4096 ≤ length (take (length bytes - 4096 * k) (drop (4096 * k) bytes))
page_in_run_long k bytes h = subst (λ (xs : List ℕ). 4096 ≤ length xs) (sym (take_rest bytes (4096 * k))) (omega (arith, length-drop (4096 * k) bytes))
