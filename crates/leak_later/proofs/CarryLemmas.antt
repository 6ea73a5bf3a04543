-- Kept and absent blocks.
use Rattle.std.proofs.Common.{◌≡◌, ℕ, zero, suc, ◌<◌, Bool, true, false, not, ◌||◌, ◌==◌, inl, inr, refl, sym, subst, ap, ◌∙◌, true≢false, List, [], ◌∷◌, Some, slice_get, length, arith, eq-eqb}
use Rattle.std.proofs.lemmas.Option.{same_Some, none-some}
use Rattle.std.specs.List.Sorted.{IsStrictlyIncreasing}
use Rattle.leak_blocks.specs.declared.block.Block.{Block}
use Rattle.leak_blocks.specs.Laws.{IsIn}
use Rattle.leak_blocks.proofs.LiveLemmas.{place_of}
use Rattle.leak_marks.specs.Lists.{Has}
use Rattle.leak_marks.proofs.BoolLemmas.{same_number}
use Rattle.leak_later.specs.declared.kept.Carry.{Carry}
use Rattle.leak_later.specs.Kept.{numbers_from, has_line, has_marked_line, kept_of, absent_of, IsCarry}
use Rattle.leak_later.proofs.NumberLemmas.{Numbered, MarkedAt, of_numbers, of_marked, inside, numbers_rise, increasing}

pub has_its_line : (blocks : List Block) (n : ℕ) (b : Block) → slice_get blocks n ≡ Some b → has_line blocks b.line ≡ true
has_its_line [] n b e = absurd (none-some b e)
has_its_line (c ∷ blocks) zero b e = ap (λ (t : Bool). t || has_line blocks b.line) (ap (λ (x : Block). x.line == b.line) (same_Some c b e) ∙ eq-eqb b.line b.line refl)
has_its_line (c ∷ blocks) (suc n) b e = go (c.line == b.line) (has_its_line blocks n b e)
  where
    go : (t : Bool) → has_line blocks b.line ≡ true → (t || has_line blocks b.line) ≡ true
    go true h = refl
    go false h = h

-- a marked line is a line
pub marked_has_line : (set : List Bool) (blocks : List Block) (line : ℕ) → has_marked_line set blocks line ≡ true → has_line blocks line ≡ true
marked_has_line set blocks line h =
    let m : MarkedAt set blocks line = of_marked set blocks line h in
    subst (λ (n : ℕ). has_line blocks n ≡ true) m.is_line (has_its_line blocks m.place m.block m.at)

module _ (test : Block → Bool) (blocks : List Block) where
  pub numbers_inside : (j : ℕ) → Has (numbers_from 0 test blocks) j → j < length blocks
  numbers_inside j h = let r : Numbered 0 test blocks j = of_numbers 0 test blocks j h in omega (arith, r.1, inside blocks r.0 r.2.block r.2.at)

-- no block passes both of two tests that exclude each other
pub numbers_apart : (p q : Block → Bool) (blocks : List Block) → ((b : Block) → p b ≡ true → q b ≡ true → ⊥) → (j : ℕ) → Has (numbers_from 0 p blocks) j → ¬ Has (numbers_from 0 q blocks) j
numbers_apart p q blocks apart j h k =
    let r : Numbered 0 p blocks j = of_numbers 0 p blocks j h in
    let s : Numbered 0 q blocks j = of_numbers 0 q blocks j k in
    let same : s.0 ≡ r.0 = omega (arith, r.1, s.1) in
    let one : s.2.block ≡ r.2.block = same_Some s.2.block r.2.block (sym s.2.at ∙ ap (slice_get blocks) same ∙ r.2.at) in
    apart r.2.block r.2.passes (subst (λ (b : Block). q b ≡ true) one s.2.passes)

pub is_carry : (before : List Block) (set : List Bool) (now : List Block) (c : Carry) → c.kept.items ≡ kept_of before set now → c.fresh.items ≡ absent_of before now → IsCarry (length now) c
unfolding kept_of absent_of
is_carry before set now c kept fresh =
    let p : Block → Bool = λ b. has_marked_line set before b.line in
    let q : Block → Bool = λ b. not (has_line before b.line) in
    record {
      kept_ascend = subst IsStrictlyIncreasing (sym kept) (increasing 0 (numbers_from 0 p now) (numbers_rise 0 p now));
      fresh_ascend = subst IsStrictlyIncreasing (sym fresh) (increasing 0 (numbers_from 0 q now) (numbers_rise 0 q now));
      kept_inside = λ b h. numbers_inside p now b (subst (λ (xs : List ℕ). Has xs b) kept h);
      fresh_inside = λ b h. numbers_inside q now b (subst (λ (xs : List ℕ). Has xs b) fresh h);
      apart = λ b h k. numbers_apart p q now (λ x m a. true≢false (sym a ∙ ap not (marked_has_line set before x.line m))) b (subst (λ (xs : List ℕ). Has xs b) kept h) (subst (λ (xs : List ℕ). Has xs b) fresh k);
    }

-- ---- by block

pub of_line : (blocks : List Block) (line : ℕ) → has_line blocks line ≡ true → (b : Block) × IsIn b blocks × (b.line ≡ line)
of_line [] line h = absurd (true≢false (sym h))
of_line (b ∷ blocks) line h = go (b.line == line) refl h (λ k. of_line blocks line k)
  where
    go : (t : Bool) → (b.line == line) ≡ t → (t || has_line blocks line) ≡ true → (has_line blocks line ≡ true → (c : Block) × IsIn c blocks × (c.line ≡ line)) → (c : Block) × IsIn c (b ∷ blocks) × (c.line ≡ line)
    go true e k rest = (b, inl refl, same_number b.line line e)
    go false e k rest = let r : (c : Block) × IsIn c blocks × (c.line ≡ line) = rest k in (r.0, inr r.1, r.2)

pub to_line : (blocks : List Block) (b : Block) → IsIn b blocks → has_line blocks b.line ≡ true
to_line blocks b h = let p : (n : ℕ) × (slice_get blocks n ≡ Some b) = place_of b blocks h in has_its_line blocks p.0 b p.1
