-- Words that aren't 0, of a file whose first bytes are held.
use Rattle.std.proofs.Common.{◌≡◌, ◌∙◌, ℕ, zero, suc, ◌+◌, ◌*◌, ◌-◌, ◌%◌, ◌<◌, ◌≤◌, List, ◌++◌, length, get_or, Option, Some, refl, sym, ap, ap₂, arith, eq-eqb}
use Rattle.leak_elf.specs.declared.segment.Segment.{Segment}
use Rattle.std.specs.Int.{w64}
use Rattle.leak_elf.specs.Fields.{number_at}
use Rattle.leak_elf.specs.Head.{aligned_number_at, AreSplit}
use Rattle.leak_elf.specs.Words.{kept_words, nonzero, word_in}
use Rattle.leak_elf.proofs.Held.{word_some}
use Rattle.leak_elf.proofs.Split.{BeginsAt, word_behind}

-- the same words are kept of two maps that have the same ones
pub kept_alike : (f g : ℕ → Option ℕ) (a b n : ℕ) → ((k : ℕ) → k < n → f (a + 8 * k) ≡ g (b + 8 * k)) → kept_words f a n ≡ kept_words g b n
kept_alike f g a b zero same = refl
kept_alike f g a b (suc n) same =
    let here : f a ≡ g b =
    let p : a + 8 * 0 ≡ a = omega arith in
    let q : b + 8 * 0 ≡ b = omega arith in
    ap f (sym p) ∙ same 0 (omega arith) ∙ ap g q in
    let later = kept_alike f g (a + 8) (b + 8) n (λ k h.
    let p : a + 8 + 8 * k ≡ a + 8 * (k + 1) = omega arith in
    let q : b + 8 * (k + 1) ≡ b + 8 + 8 * k = omega arith in
    ap f p ∙ same (k + 1) (omega (arith, h)) ∙ ap g q) in
    ap₂ (λ (first others : List ℕ). first ++ others) (ap nonzero here) later

-- those behind the bytes that are held, of one segment
pub kept_behind : (held rest : List ℕ) (segs : List Segment) (i : ℕ) (d : Segment) (from at count : ℕ) → AreSplit held rest segs → from % 8 ≡ 0 → i < length segs
    → (get_or segs i d).vaddr ≤ from → from + 8 * count ≤ (get_or segs i d).vaddr + (get_or segs i d).filesz → at ≡ (get_or segs i d).offset + (from - (get_or segs i d).vaddr) → length held ≤ at
    → kept_words (aligned_number_at rest) (at - length held) count ≡ kept_words (word_in (held ++ rest) segs) from count
kept_behind held rest segs i d from at count split m l low high is behind =
    kept_alike (aligned_number_at rest) (word_in (held ++ rest) segs) (at - length held) from count (λ k h.
    let s = get_or segs i d in
    let addr = from + 8 * k in
    let place = at + 8 * k in
    let low' : s.vaddr ≤ addr = omega (arith, low) in
    let high' : addr + 8 ≤ s.vaddr + s.filesz = omega (arith, h, high) in
    let begins : BeginsAt s addr place = (low', high', omega (arith, low, is)) in
    let multiple : addr % 8 ≡ 0 = omega (arith, m) in
    let back : at - length held + 8 * k ≡ place - length held = omega (arith, behind) in
    ap (aligned_number_at rest) back
    ∙ word_behind held rest segs i d addr place split multiple l begins (omega (arith, behind))
    ∙ ap (λ (p : ℕ). Some (number_at w64 (held ++ rest) p)) begins.2
    ∙ sym (word_some (held ++ rest) segs addr i d split.of_file.kept (eq-eqb _ _ multiple) l low' high'))
