-- Up to the next size word no place is near a block, if it is near neither of the last two that were passed, or of the last
-- one alone, far behind whose start it is.
use Rattle.std.proofs.Common.{◌≡◌, ℕ, ◌+◌, ◌-◌, ◌<◌, ◌≤◌, Bool, false, List, length, subst, sym, arith}
use Rattle.leak_blocks.specs.declared.block.Block.{Block}
use Rattle.leak_blocks.specs.Span.{AreDisjoint}
use Rattle.leak_index.specs.Ranks.{none}
use Rattle.leak_index.proofs.Near.{either}
use Rattle.leak_sift.specs.Kept.{is_near_block}
use Rattle.leak_sift.specs.Passed.{AreBehind, AreCalm}
use Rattle.leak_sift.proofs.NearLemmas.{AreFar, ahead, at, far_before, far_next, none_near}

module _ (blocks : List Block) (links : Bool) (place end : ℕ) where
  pub calm_ahead : AreBehind blocks 0 end → AreCalm blocks links place end
  calm_ahead behind = record {
    none = λ p h l. sym (none_near blocks links p (record { each = λ k z i. let e = behind.each k none z i in ahead links p (at blocks k) (omega arith) }));
  }

  -- the places are not near the block with the number
  abbrev pub AreOff : ℕ → Type 0
  AreOff k = (p : ℕ) → place ≤ p → p < end → is_near_block links p (at blocks k) ≡ false

  after : (count : ℕ) → AreBehind blocks count end → (p : ℕ) → p < end → AreFar blocks links p count
  after count behind p l = record { each = λ k m i. let e = behind.each k none m i in ahead links p (at blocks k) (omega arith) }

  before : (count p : ℕ) → 0 < count → AreFar blocks links p count → is_near_block links p (at blocks (count - 1)) ≡ false → AreFar blocks links p (count - 1)
  before count p some far off =
      let same : count ≡ count - 1 + 1 = omega arith in
      far_next blocks links p (count - 1) (subst (AreFar blocks links p) same far) off

  -- the last block that was passed is the first of all, or the places are far behind its start
  pub calm_last : (count : ℕ) → AreDisjoint blocks → 0 < count → count ≤ length blocks → AreBehind blocks count end
      → (1 < count → (at blocks (count - 1)).start + 56 ≤ place) → AreOff (count - 1) → AreCalm blocks links place end
  calm_last count apart some bound behind far off = record {
    none = λ p h l.
        let from : AreFar blocks links p (count - 1) = before count p some (after count behind p l) (off p h l) in
        sym (none_near blocks links p (either 1 count (AreFar blocks links p 0)
        (λ more. far_before blocks links p (count - 1) apart (omega arith) (omega (arith, far more)) from)
        (λ one. let first : count - 1 ≡ 0 = omega arith in subst (AreFar blocks links p) first from)));
  }

  -- they are far behind the start of the last but one
  pub calm_two : (count : ℕ) → AreDisjoint blocks → 1 < count → count ≤ length blocks → AreBehind blocks count end
      → (at blocks (count - 2)).start + 56 ≤ place → AreOff (count - 1) → AreOff (count - 2) → AreCalm blocks links place end
  calm_two count apart some bound behind far off earlier = record {
    none = λ p h l.
        let from : AreFar blocks links p (count - 1) = before count p (omega arith) (after count behind p l) (off p h l) in
        let two : count - 1 - 1 ≡ count - 2 = omega arith in
        let here : is_near_block links p (at blocks (count - 1 - 1)) ≡ false = subst (λ (k : ℕ). is_near_block links p (at blocks k) ≡ false) (sym two) (earlier p h l) in
        let rest : AreFar blocks links p (count - 2) = subst (AreFar blocks links p) two (before (count - 1) p (omega arith) from here) in
        sym (none_near blocks links p (far_before blocks links p (count - 2) apart (omega arith) (omega arith) rest));
  }
