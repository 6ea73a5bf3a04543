-- A word leads to two disjoint blocks at most.
use Rattle.std.proofs.Common.{◌≡◌, ℕ, suc, ◌+◌, ◌-◌, ◌<◌, ◌≤◌, Bool, true, false, ◌&&◌, refl, List, [], ◌∷◌, length, arith, nat_le, leb→le, ltb→lt, if◌then◌else◌}
use Rattle.std.specs.Bool.{passes}
use Rattle.std.specs.List.{AllByRecursion}
use Rattle.leak_lemmas.proofs.Bools.{and_right, and_left}
use Rattle.leak_blocks.specs.declared.block.Block.{Block}
use Rattle.leak_blocks.specs.Span.{AreDisjoint, span_end}
use Rattle.leak_index.specs.Hits.{hits_from}
use Rattle.leak_index.specs.Leads.{Distances, leads, allows, is_up_to_end}

pub led_part : (r : Distances) (w : ℕ) (b : Block) → leads r w b ≡ true → (nat_le b.start w && is_up_to_end r.skips_ends w b) ≡ true
led_part r w b h = and_left (nat_le b.start w && is_up_to_end r.skips_ends w b) (allows r.listed (w - b.start)) h

pub from_start : (r : Distances) (w : ℕ) (b : Block) → leads r w b ≡ true → b.start ≤ w
from_start r w b h = leb→le _ _ (passes _ (and_left (nat_le b.start w) (is_up_to_end r.skips_ends w b) (led_part r w b h)))

pub ended : (r : Distances) (w : ℕ) (b : Block) → leads r w b ≡ true → is_up_to_end r.skips_ends w b ≡ true
ended r w b h = and_right (nat_le b.start w) (is_up_to_end r.skips_ends w b) (led_part r w b h)

pub before_end : (w : ℕ) (b : Block) → is_up_to_end true w b ≡ true → w < span_end b
before_end w b h = ltb→lt _ _ (passes _ h)

up_to_end : (s : Bool) (w : ℕ) (b : Block) → is_up_to_end s w b ≡ true → w ≤ span_end b
up_to_end false w b h = let e : w ≤ b.start + b.size = leb→le _ _ (passes _ h) in omega arith
up_to_end true w b h = omega (arith, before_end w b h)

to_end : (r : Distances) (w : ℕ) (b : Block) → leads r w b ≡ true → w ≤ span_end b
to_end r w b h = up_to_end r.skips_ends w b (ended r w b h)

pub hit_or : (P : ℕ → Type 0) (n : ℕ) (xs : List ℕ) (t : Bool) → (t ≡ true → P (suc (length xs))) → (t ≡ false → P (length xs)) → P (length (if t then n ∷ xs else xs))
hit_or P n xs true led not_led = led refl
hit_or P n xs false led not_led = not_led refl

pub none_above : (n : ℕ) (r : Distances) (blocks : List Block) (w e : ℕ) → w < e → AllByRecursion (λ c. e ≤ c.start) blocks → length (hits_from n r blocks w) ≤ 0
none_above n r [] w e low above = omega arith
none_above n r (b ∷ blocks) w e low above =
    hit_or (λ k. k ≤ 0) n (hits_from (n + 1) r blocks w) (leads r w b)
    (λ led. absurd (omega (arith, from_start r w b led, above.0)))
    (λ not_led. none_above (n + 1) r blocks w e low above.1)

weaken : (e f : ℕ) (blocks : List Block) → e ≤ f → AllByRecursion (λ c. f ≤ c.start) blocks → AllByRecursion (λ c. e ≤ c.start) blocks
weaken e f [] h above = tt
weaken e f (b ∷ blocks) h above = (omega (arith, above.0), weaken e f blocks h above.1)

one_at_start : (n : ℕ) (r : Distances) (blocks : List Block) (w e : ℕ) → w ≤ e → AllByRecursion (λ c. e ≤ c.start) blocks → AreDisjoint blocks → length (hits_from n r blocks w) ≤ 1
one_at_start n r [] w e low above apart = omega arith
one_at_start n r (b ∷ blocks) w e low above apart =
    hit_or (λ k. k ≤ 1) n (hits_from (n + 1) r blocks w) (leads r w b)
    (λ led. omega (arith, none_above (n + 1) r blocks w (span_end b) (omega (arith, from_start r w b led, above.0)) apart.0))
    (λ not_led. one_at_start (n + 1) r blocks w e low above.1 apart.1)

pub two_at_most : (n : ℕ) (r : Distances) (blocks : List Block) (w : ℕ) → AreDisjoint blocks → length (hits_from n r blocks w) ≤ 2
two_at_most n r [] w apart = omega arith
two_at_most n r (b ∷ blocks) w apart =
    hit_or (λ k. k ≤ 2) n (hits_from (n + 1) r blocks w) (leads r w b)
    (λ led. omega (arith, one_at_start (n + 1) r blocks w (span_end b) (to_end r w b led) apart.0 apart.1))
    (λ not_led. two_at_most (n + 1) r blocks w apart.1)

-- the numbers are below any bound that the last block's number is below
pub hits_below : (n m : ℕ) (r : Distances) (blocks : List Block) (w : ℕ) → n + length blocks ≤ m → AllByRecursion (λ i. i < m) (hits_from n r blocks w)
hits_below n m r [] w h = tt
hits_below n m r (b ∷ blocks) w h = go (leads r w b) (hits_below (n + 1) m r blocks w (omega arith))
  where
    go : (t : Bool) → AllByRecursion (λ i. i < m) (hits_from (n + 1) r blocks w) → AllByRecursion (λ i. i < m) (if t then n ∷ hits_from (n + 1) r blocks w else hits_from (n + 1) r blocks w)
    go true rest = (omega arith, rest)
    go false rest = rest
