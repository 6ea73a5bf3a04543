-- Words that are given without those that are 0.
use Rattle.std.proofs.Common.{◌≡◌, ℕ, zero, suc, ◌+◌, ◌-◌, ◌*◌, ◌/◌, ◌%◌, ◌<◌, ◌≤◌, refl, ap, sym, ◌∙◌, List, [], ◌++◌, Option, Some, None, Bor, arith}
use Rattle.std.specs.List.{cons_option}
use Rattle.std.proofs.lemmas.List.{append-nil}
use Rattle.leak_elf.specs.Words.{kept_words, nonzero, words_between}
use Rattle.leak_index.specs.Hits.{Index, hits_of}
use Rattle.leak_scan.specs.declared.reading.ReadWords.TheVariants.{Kept}
use Rattle.leak_scan.specs.Targets.{targets_of}
use Rattle.leak_scan.specs.Positions.{words_from, IsRead}
use Rattle.leak_scan.proofs.Ahead.{targets_skip, targets_more}
use Rattle.leak_scan.proofs.Ranges.{IsAligned, no_addresses, none_between, same_range, skip, split, step}
use Rattle.leak_scan.proofs.Reached.{apart}

-- the first of 8 addresses and more from a multiple of 8 on, and those after the 8
step_8 : (f : ℕ → Option ℕ) (from count : ℕ) → IsAligned f → from % 8 ≡ 0 → words_from f from (8 * suc count) ≡ cons_option (f from) (words_from f (from + 8) (8 * count))
step_8 f from count aligned at =
    same_range f from from (8 * suc count) (suc (7 + 8 * count)) refl (omega arith)
    ∙ step f from (7 + 8 * count)
    ∙ ap (λ ws. cons_option (f from) ws) (skip f 7 (from + 1) (7 + 8 * count) (from + 8) (8 * count) (omega arith) (omega arith)
    (λ a l u. none_between f a aligned (λ z. omega (arith, at, z, l, u))))

-- a word that is 0 may be left out
without_zero : (index : Index) (x : Option ℕ) (words others : List ℕ) → [] ≡ hits_of index 0 → targets_of index words ≡ targets_of index others → targets_of index (cons_option x words) ≡ targets_of index (nonzero x ++ others)
without_zero index None words others none e = e
without_zero index (Some zero) words others none e = targets_skip index 0 words none ∙ e
without_zero index (Some (suc n)) words others none e =
    targets_more index (suc n) words ∙ ap (λ ts. hits_of index (suc n) ++ ts) e ∙ sym (targets_more index (suc n) others)

-- so may all of them
kept_lead : (index : Index) (f : ℕ → Option ℕ) (from count : ℕ) → IsAligned f → from % 8 ≡ 0 → [] ≡ hits_of index 0 → targets_of index (words_from f from (8 * count)) ≡ targets_of index (kept_words f from count)
kept_lead index f from zero aligned at none = ap (targets_of index) (same_range f from from (8 * 0) 0 refl (omega arith) ∙ no_addresses f from)
kept_lead index f from (suc count) aligned at none =
    ap (targets_of index) (step_8 f from count aligned at)
    ∙ without_zero index (f from) (words_from f (from + 8) (8 * count)) (kept_words f (from + 8) count) none
    (kept_lead index f (from + 8) count aligned (omega (arith, at)) none)

-- the words of so many bytes are those at each eighth address
whole_words : (f : ℕ → Option ℕ) (from size : ℕ) → IsAligned f → from % 8 ≡ 0 → words_between f from (from + size) ≡ words_from f from (8 * (size / 8))
unfolding words_between words_from
whole_words f from size aligned at =
    let n : ℕ = size / 8 in
    let bytes : 8 * n ≤ size = omega arith in
    let short : size < 8 * n + 8 = omega arith in
    let count : ℕ = from + size - 7 - from in
    let all = split f (8 * n) from count (from + 8 * n) refl (λ a l u. none_between f a aligned (λ z. omega (arith, at, z, l, u, bytes, short))) in
    all ∙ ap (λ ws. words_from f from (8 * n) ++ ws) (same_range f (from + 8 * n) (from + 8 * n) (count - 8 * n) 0 refl (omega (arith, bytes, short)) ∙ no_addresses f (from + 8 * n))
    ∙ append-nil (words_from f from (8 * n))

-- they lead to the same without those that are 0
pub kept_of_bytes : (index : Index) (f : ℕ → Option ℕ) (from size : ℕ) (kept : List ℕ) → IsAligned f → from % 8 ≡ 0 → [] ≡ hits_of index 0 → kept ≡ kept_words f from (size / 8)
    → targets_of index kept ≡ targets_of index (words_between f from (from + size))
kept_of_bytes index f from size kept aligned at none is =
    ap (targets_of index) is ∙ sym (kept_lead index f from (size / 8) aligned at none) ∙ ap (targets_of index) (sym (whole_words f from size aligned at))

-- the same words, by the size of the range
pub by_size : (f : ℕ → Option ℕ) (from to size : ℕ) → size ≡ to - from → words_between f from (from + size) ≡ words_between f from to
unfolding words_between words_from
by_size f from to size e = same_range f from from (from + size - 7 - from) (to - 7 - from) refl (omega arith)

-- the words of a window
pub read_kept : (index : Index) (f : ℕ → Option ℕ) (from window count : ℕ) (kept : Bor (List ℕ)) → IsAligned f → from % 8 ≡ 0 → [] ≡ hits_of index 0 → kept.now ≡ kept_words f from count
    → 0 < count → 8 * count < window + 8 → window ≤ 8 * count → IsRead f index from window (Kept kept) (from + 8 * count)
read_kept index f from window count kept aligned at none is some near far = record {
  on = omega (arith, some);
  words =
      ap (targets_of index) (same_range f from from (from + 8 * count - from) (8 * count) refl (omega arith))
      ∙ kept_lead index f from count aligned at none ∙ ap (targets_of index) (sym is);
  outside = λ a low up. apart index f a aligned (λ z. omega (arith, at, z, low, up, near));
}
