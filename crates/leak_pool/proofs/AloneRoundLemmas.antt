-- The rounds of marking by one thread: they end where the blocks of one length of chains end.
use Rattle.std.proofs.Common.{◌≡◌, ℕ, zero, suc, ◌+◌, ◌-◌, ◌<◌, ◌≤◌, List, [], ◌∷◌, length, get_or, refl, sym, ap, ◌∙◌, subst, inl, inr, ⊎_elim, arith, length-append}
use Rattle.std.proofs.lemmas.List.{get_or_append_left}
use mathlib.Core.Logic.{dite}
use native.Mathlib.Decide.{dec_lt}
use Rattle.leak_marks.specs.Lists.{Has, IsDistinct, Within}
use Rattle.leak_marks.specs.Reach.{Graph, IsChain, targets_of}
use Rattle.leak_marks.proofs.ListLemmas.{here, distinct_apart, distinct_back}
use Rattle.leak_pool.specs.Alone.{AreTaken, IsFollowed, IsInRounds, EndsBelow}
use Rattle.leak_pool.specs.Depth.{AreByDepth}
use Rattle.leak_pool.proofs.CountLemmas.{has_at, at_has}
use Rattle.leak_pool.proofs.AloneLemmas.{listed_of}

-- no number stands at two places
two_places : (list : List ℕ) (j k : ℕ) → IsDistinct list → j < k → k < length list → get_or list j 0 ≡ get_or list k 0 → ⊥
two_places [] j k once less inside same = absurd (omega arith)
two_places (x ∷ xs) zero zero once less inside same = absurd (omega arith)
two_places (x ∷ xs) zero (suc k) once less inside same = distinct_apart (x ∷ []) xs once x (here x []) (subst (λ (y : ℕ). Has xs y) (sym same) (at_has xs k (omega arith)))
two_places (x ∷ xs) (suc j) zero once less inside same = absurd (omega arith)
two_places (x ∷ xs) (suc j) (suc k) once less inside same = two_places xs j k (distinct_back (x ∷ []) xs once) (omega arith) (omega arith) same

-- before the first block is scanned
pub in_rounds_none : (g : Graph) (list : List ℕ) → ((b : ℕ) → ¬ Has g.given b) → Within list g.first → IsInRounds g list 0 0 1
in_rounds_none g list free first = record {
  some = omega arith;
  scanned_are = omega arith;
  inside = omega arith;
  early = λ k h. absurd (omega arith);
  late = λ b h. ([], (free b, first b h), omega arith);
  short = λ b e. absurd (let l : length (b ∷ e.0) < 1 = e.2 in omega arith);
  last = inl (refl, refl);
}

-- a round more begins
in_rounds_next : (g : Graph) (list : List ℕ) (scanned end rounds : ℕ) → scanned ≡ end → scanned < length list → IsFollowed g list scanned → IsDistinct list → IsInRounds g list scanned end rounds
    → IsInRounds g list scanned (length list) (rounds + 1)
in_rounds_next g list scanned end rounds at_end more f once i = record {
  some = omega arith;
  scanned_are = omega arith;
  inside = omega arith;
  early = λ k h. i.late (get_or list k 0) (at_has list k h);
  late = λ b h. let e = i.late b h in let l : length (b ∷ e.0) < rounds + 1 = e.2 in (e.0, e.1, omega arith);
  short = λ b e. has_at list b (listed b e.0 e.1 e.2);
  last = inr (
    scanned,
    more,
    λ before chain. dite (dec_lt (length (get_or list scanned 0 ∷ before)) rounds)
        (λ lt. let p : (k : ℕ) × (k < end) × (get_or list k 0 ≡ get_or list scanned 0) = i.short (get_or list scanned 0) (before, chain, lt) in let low : p.0 < end = p.1 in absurd (two_places list p.0 scanned once (omega arith) more p.2))
        (λ ge. omega arith),
  );
}
  where
    listed : (b : ℕ) (before : List ℕ) → IsChain g (b ∷ before) → length (b ∷ before) < rounds + 1 → Has list b
    listed b [] chain le = f.first b chain.1
    listed b (s ∷ before) chain le =
        let p : (k : ℕ) × (k < end) × (get_or list k 0 ≡ s) = i.short s (before, chain.2, omega arith) in let low : p.0 < end = p.1 in
        f.followed p.0 b (omega arith) (omega arith) (subst (λ (y : ℕ). Has (targets_of g y) b) (sym p.2) chain.1)

-- a block more is scanned
in_rounds_more : (g : Graph) (list after : List ℕ) (scanned end rounds : ℕ) → ((b : ℕ) → ¬ Has g.given b) → scanned < end → AreTaken (targets_of g (get_or list scanned 0)) list after → IsInRounds g list scanned end rounds
    → IsInRounds g after (scanned + 1) end rounds
in_rounds_more g list after scanned end rounds free low t i = record {
  some = i.some;
  scanned_are = omega arith;
  inside = let l = longer in let e = i.inside in omega arith;
  early = λ k h. subst (λ (b : ℕ). EndsBelow g rounds b) (sym (same k h)) (i.early k h);
  late = λ b h. ⊎_elim (λ old. i.late b old)
      (λ new. let e : EndsBelow g rounds (get_or list scanned 0) = i.early scanned low in let l : length (get_or list scanned 0 ∷ e.0) < rounds = e.2 in
      (get_or list scanned 0 ∷ e.0, (free b, new, e.1), omega arith)) (t.gains b h);
  short = λ b e. let p : (k : ℕ) × (k < end) × (get_or list k 0 ≡ b) = i.short b e in (p.0, p.1, same p.0 p.1 ∙ p.2);
  last = ⊎_elim (λ z. absurd (let n : end ≡ 0 = z.0 in omega arith))
      (λ l. inr (l.0, l.1, subst (λ (b : ℕ). (before : List ℕ) → IsChain g (b ∷ before) → rounds ≤ length (b ∷ before) + 1) (sym (same l.0 l.1)) l.2)) i.last;
}
  where
    longer : length list ≤ length after
    longer = let e = ap (λ (l : List ℕ). length l) t.grown.1 in let l = length-append list t.grown.0 in omega arith

    same : (k : ℕ) → k < end → get_or after k 0 ≡ get_or list k 0
    same k h = ap (λ (l : List ℕ). get_or l k 0) t.grown.1 ∙ get_or_append_left list t.grown.0 0 k (let e = i.inside in omega arith)

-- at the end of a round, and within one
pub in_rounds_then : (g : Graph) (list after : List ℕ) (scanned end rounds end' rounds' : ℕ) → ((b : ℕ) → ¬ Has g.given b) → end' ≡ length list → rounds' ≡ rounds + 1 → scanned ≡ end → scanned < length list → IsFollowed g list scanned → IsDistinct list
    → AreTaken (targets_of g (get_or list scanned 0)) list after → IsInRounds g list scanned end rounds → IsInRounds g after (scanned + 1) end' rounds'
in_rounds_then g list after scanned end rounds end' rounds' free end_is rounds_are at_end more f once t i =
    subst (λ (n : ℕ). IsInRounds g after (scanned + 1) n rounds') (sym end_is)
    (subst (λ (n : ℕ). IsInRounds g after (scanned + 1) (length list) n) (sym rounds_are)
    (in_rounds_more g list after scanned (length list) (rounds + 1) free more t (in_rounds_next g list scanned end rounds at_end more f once i)))

pub in_rounds_else : (g : Graph) (list after : List ℕ) (scanned end rounds end' rounds' : ℕ) → ((b : ℕ) → ¬ Has g.given b) → end' ≡ end → rounds' ≡ rounds → scanned < end
    → AreTaken (targets_of g (get_or list scanned 0)) list after → IsInRounds g list scanned end rounds → IsInRounds g after (scanned + 1) end' rounds'
in_rounds_else g list after scanned end rounds end' rounds' free end_is rounds_are low t i =
    subst (λ (n : ℕ). IsInRounds g after (scanned + 1) n rounds') (sym end_is)
    (subst (λ (n : ℕ). IsInRounds g after (scanned + 1) end n) (sym rounds_are) (in_rounds_more g list after scanned end rounds free low t i))

-- all is scanned
pub rounds_alone : (g : Graph) (list : List ℕ) (scanned end rounds : ℕ) → length list ≤ scanned → IsFollowed g list scanned → IsInRounds g list scanned end rounds → AreByDepth g rounds
rounds_alone g list scanned end rounds done f i = (
  rounds - 1,
  let s = i.some in omega arith,
  record {
    at_most = λ b reach. let m : (k : ℕ) × (k < length list) × (get_or list k 0 ≡ b) = has_at list b (listed_of g list scanned done f b reach.0 reach.1) in let low : m.0 < length list = m.1 in
        let e : EndsBelow g rounds b = subst (λ (x : ℕ). EndsBelow g rounds x) m.2 (i.early m.0 (let s = i.scanned_are in omega arith)) in
        let l : length (b ∷ e.0) < rounds = e.2 in (e.0, e.1, omega arith);
    least = ⊎_elim (λ z. inl (let r : rounds ≡ 1 = z.1 in omega arith))
        (λ l. let low : l.0 < end = l.1 in let s = i.inside in
        inr (get_or list l.0 0, f.reached (get_or list l.0 0) (at_has list l.0 (omega arith)), λ before chain. let far : rounds ≤ length (get_or list l.0 0 ∷ before) + 1 = l.2 before chain in omega arith)) i.last;
  },
)
