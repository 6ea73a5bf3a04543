-- Places that are added by ascending address: those outside the spans make ranges, of which a test keeps some, and the others
-- are counted.
use Rattle.std.specs.Prelude.{◌≡◌, ℕ, ◌+◌, ◌*◌, ◌≤◌, Bool, List, ◌++◌, length, filter, not}
use Rattle.leak_blocks.specs.Small.{AreApart}
use Rattle.leak_roots.specs.declared.inside.Kept.{Kept}
use Rattle.leak_roots.specs.Places.{AreRanges, BeginFrom, EndBy, memory_places}
use Rattle.leak_roots.specs.Roots.{is_inside}

-- of the ranges of these places, those that the test keeps
pub record AreRangesKept (keeps : ℕ × ℕ → Bool) (places : List ℕ) (kept : List (ℕ × ℕ))
    : Type 0 where
  pub all : List (ℕ × ℕ)
  pub ranges : AreRanges all
  pub whole : memory_places all ≡ places
  pub memory : kept ≡ filter keeps all

-- these places, from one address up to another, are added to the old ones
pub record Adds (keeps : ℕ × ℕ → Bool) (from to : ℕ) (places : List ℕ) (old new : Kept)
    : Type 0 where
  pub spans : new.spans.now ≡ old.spans.now
  pub all : List (ℕ × ℕ)
  pub ranges : AreRanges all
  pub begins : BeginFrom from all
  pub ends : EndBy to all
  pub outside : memory_places all ≡ filter (λ a. not (is_inside old.spans.now a)) places
  pub memory : new.memory.items ≡ old.memory.items ++ filter keeps all
  pub inside : new.inside ≡ old.inside + length (filter (is_inside old.spans.now) places)

-- the spans are apart, and the counted places, of 8 bytes each, fit below the address
pub record FitsBelow (addr : ℕ) (kept : Kept) : Type 0 where
  pub apart : AreApart kept.spans.now
  pub room : 8 * kept.inside ≤ addr
