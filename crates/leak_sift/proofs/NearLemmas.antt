-- A place far behind the start of a block is near no earlier one, and a place before the size word of a block is not near it.
use Rattle.std.proofs.Common.{◌≡◌, ℕ, ◌+◌, ◌-◌, ◌<◌, ◌≤◌, Bool, true, false, ◌==◌, List, length, slice_index_or, refl, ap, sym, subst, arith}
use Rattle.std.proofs.lemmas.Bool.{ne_eqb}
use Rattle.std.proofs.lemmas.List.Elements.{All-from_get_or}
use Rattle.std.proofs.lemmas.List.Folds.{list_any_at, list_any_none}
use Rattle.std.specs.List.{list_any}
use Rattle.std.specs.List.Sorted.{IsNonDecreasingBy}
use Rattle.leak_lemmas.proofs.Lists.{any_default}
use Rattle.leak_blocks.specs.declared.block.Block.{Block}
use Rattle.leak_blocks.specs.Span.{AreDisjoint, span_end}
use Rattle.leak_chunks.specs.Fit.{least_chunk}
use Rattle.leak_index.specs.Ranks.{none}
use Rattle.leak_index.proofs.Near.{ascending, either, ends_before}
use Rattle.leak_sift.specs.Kept.{distances, is_near, is_near_block}
use Rattle.leak_sift.specs.Passed.{IsPassed}

-- the block with the number, and where it starts
abbrev pub at : List Block → ℕ → Block
at blocks k = slice_index_or blocks k none

-- the place is at none of the distances
no_distance : (links : Bool) (place b : ℕ) → ((d : ℕ) → d ≤ 32 → ¬ (place ≡ b + d)) → list_any (λ d. place == b + d) (distances links) ≡ false
no_distance true place b h = rw (ne_eqb place (b + 0) (h 0 (omega arith)), ne_eqb place (b + 8) (h 8 (omega arith)), ne_eqb place (b + 16) (h 16 (omega arith)), ne_eqb place (b + 32) (h 32 (omega arith))) refl
no_distance false place b h = rw (ne_eqb place (b + 0) (h 0 (omega arith)), ne_eqb place (b + 16) (h 16 (omega arith)), ne_eqb place (b + 32) (h 32 (omega arith))) refl

pub not_near : (links : Bool) (place : ℕ) (b : Block) → ¬ (place ≡ b.start - 8) → ((d : ℕ) → d ≤ 32 → ¬ (place ≡ b.start + least_chunk b.size - 8 + d)) → is_near_block links place b ≡ false
not_near links place b own past = rw (ne_eqb place (b.start - 8) own) (no_distance links place (b.start + least_chunk b.size - 8) past)

pub far_behind : (links : Bool) (place : ℕ) (b c : Block) → span_end b ≤ c.start → c.start + 56 ≤ place → is_near_block links place b ≡ false
far_behind links place b c apart far = not_near links place b (λ e. omega arith) (λ d h e. omega arith)

pub ahead : (links : Bool) (place : ℕ) (b : Block) → place < b.start - 8 → is_near_block links place b ≡ false
ahead links place b h = not_near links place b (λ e. omega arith) (λ d l e. omega arith)

-- the blocks from the number on are not near the place
pub record AreFar (blocks : List Block) (links : Bool) (place left : ℕ) : Type 0 where
  pub each : (k : ℕ) → left ≤ k → k < length blocks → is_near_block links place (at blocks k) ≡ false

module _ (blocks : List Block) (links : Bool) (place : ℕ) where
  pub far_first : (count : ℕ) → IsPassed blocks place count → AreFar blocks links place count
  far_first count passed = record { each = λ k h l. ahead links place (at blocks k) (passed.after k none h l) }

  pub far_next : (left : ℕ) → AreFar blocks links place (left + 1) → is_near_block links place (at blocks left) ≡ false → AreFar blocks links place left
  far_next left far here = record {
    each = λ k h l. either left k (is_near_block links place (at blocks k) ≡ false)
        (λ more. far.each k (omega arith) l)
        (λ less. let same : left ≡ k = omega arith in subst (λ (j : ℕ). is_near_block links place (at blocks j) ≡ false) same here);
  }

  pub none_near : AreFar blocks links place 0 → false ≡ is_near blocks links place
  none_near far = sym (list_any_none (is_near_block links place) blocks (All-from_get_or (λ b. is_near_block links place b ≡ false) blocks none (λ k l. far.each k (omega arith) l)))

  -- each block before one that the place is far behind
  pub far_before : (left : ℕ) → AreDisjoint blocks → left < length blocks → (at blocks left).start + 56 ≤ place → AreFar blocks links place left → AreFar blocks links place 0
  far_before left apart inside behind far = record {
    each = λ k h l. either k left (is_near_block links place (at blocks k) ≡ false)
        (λ before. far_behind links place (at blocks k) (at blocks left) (ends_before blocks k left none apart before inside) behind)
        (λ after. far.each k after l);
  }

  pub one_near : (k : ℕ) → k < length blocks → is_near_block links place (at blocks k) ≡ true → true ≡ is_near blocks links place
  one_near k l here = sym (list_any_at (is_near_block links place) blocks k none l here)

-- ---- how many have their size word at the place or before it

-- size words ascend with the blocks
pub rising : (blocks : List Block) → AreDisjoint blocks → IsNonDecreasingBy (λ (b : Block). b.start - 8) blocks
rising blocks apart i j d h l = let up = ascending blocks apart i j d h l in omega arith

pub record AreBefore (blocks : List Block) (place count : ℕ) : Type 0 where
  pub bound : count ≤ length blocks
  pub each : (k : ℕ) (d : Block) → k < count → (slice_index_or blocks k d).start - 8 ≤ place

module _ (blocks : List Block) (place : ℕ) (apart : AreDisjoint blocks) where
  -- each before one that has it
  pub before_last : (count : ℕ) → count ≤ length blocks → (0 < count → (at blocks (count - 1)).start - 8 ≤ place) → AreBefore blocks place count
  before_last count bound last = record {
    bound = bound;
    each = λ k d h. let up = ascending blocks apart k (count - 1) d (omega arith) (omega arith) in omega (arith, last (omega arith), ap (λ (b : Block). b.start) (any_default blocks (count - 1) d none (omega arith)));
  }

  -- each after one that hasn't
  pub after_first : (count : ℕ) → AreBefore blocks place count → (count < length blocks → place < (at blocks count).start - 8) → IsPassed blocks place count
  after_first count before first = record {
    bound = before.bound;
    before = before.each;
    after = λ k d h l. let up = ascending blocks apart count k d h l in omega (arith, first (omega arith), ap (λ (b : Block). b.start) (any_default blocks count d none (omega arith)));
  }
