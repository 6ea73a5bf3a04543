-- If ends are left out, a word leads to fewer blocks.
use Rattle.std.proofs.Common.{◌≡◌, ℕ, ◌+◌, ◌-◌, ◌<◌, ◌≤◌, Bool, true, false, ◌&&◌, refl, inl, inr, List, [], ◌∷◌, length, arith, nat_le, if◌then◌else◌, Option}
use Rattle.std.proofs.lemmas.Bool.{le-leb}
use Rattle.std.proofs.lemmas.List.Elements.{Contains-append_left, Contains-append_right, Contains-append_cases}
use Rattle.std.specs.List.{Contains}
use Rattle.leak_lemmas.proofs.Bools.{and_right}
use Rattle.leak_blocks.specs.declared.block.Block.{Block}
use Rattle.leak_blocks.specs.Span.{AreDisjoint, span_end}
use Rattle.leak_index.specs.Hits.{hits_from}
use Rattle.leak_index.specs.Leads.{Distances, leads, allows, is_up_to_end}
use Rattle.leak_index.proofs.Few.{before_end, ended, from_start, hit_or, none_above}

abbrev pub by : Bool → Option (List ℕ) → Distances
by skips_ends listed = record { listed = listed; skips_ends = skips_ends }

pub one_at_most : (n : ℕ) (listed : Option (List ℕ)) (blocks : List Block) (w : ℕ) → AreDisjoint blocks → length (hits_from n (by true listed) blocks w) ≤ 1
one_at_most n listed [] w apart = omega arith
one_at_most n listed (b ∷ blocks) w apart =
    hit_or (λ k. k ≤ 1) n (hits_from (n + 1) (by true listed) blocks w) (leads (by true listed) w b)
    (λ led. omega (arith, none_above (n + 1) (by true listed) blocks w (span_end b) (before_end w b (ended (by true listed) w b led)) apart.0))
    (λ not_led. one_at_most (n + 1) listed blocks w apart.1)

-- ---- fewer

both_true : (x y : Bool) → x ≡ true → y ≡ true → (x && y) ≡ true
both_true true y e f = f
both_true false y e f = absurd cc

-- a block to which a word leads without ends it leads to with them
pub leads_more : (listed : Option (List ℕ)) (w : ℕ) (b : Block) → leads (by true listed) w b ≡ true → leads (by false listed) w b ≡ true
leads_more listed w b led =
    let low : b.start ≤ w = from_start (by true listed) w b led in
    let end : w < span_end b = before_end w b (ended (by true listed) w b led) in
    both_true (nat_le b.start w && is_up_to_end false w b) (allows listed (w - b.start))
    (both_true (nat_le b.start w) (is_up_to_end false w b) (le-leb b.start w low) (le-leb w (b.start + b.size) (omega arith)))
    (and_right (nat_le b.start w && is_up_to_end true w b) (allows listed (w - b.start)) led)

pub fewer_hits : (n : ℕ) (listed : Option (List ℕ)) (blocks : List Block) (w i : ℕ) → Contains (hits_from n (by true listed) blocks w) i → Contains (hits_from n (by false listed) blocks w) i
fewer_hits n listed [] w i h = h
fewer_hits n listed (b ∷ blocks) w i h = go (leads (by true listed) w b) (leads (by false listed) w b) (leads_more listed w b) (fewer_hits (n + 1) listed blocks w i) h
  where
    few : List ℕ
    few = hits_from (n + 1) (by true listed) blocks w

    more : List ℕ
    more = hits_from (n + 1) (by false listed) blocks w

    go : (s t : Bool) → (s ≡ true → t ≡ true) → (Contains few i → Contains more i) → Contains (if s then n ∷ few else few) i → Contains (if t then n ∷ more else more) i
    go true true led rest k = elim (Contains-append_cases (n ∷ []) few i k) [
      | inl l ↦ Contains-append_left (n ∷ []) more i l
      | inr r ↦ Contains-append_right (n ∷ []) more i (rest r)
    ]
    go true false led rest k = absurd (let e = led refl in cc)
    go false true led rest k = Contains-append_right (n ∷ []) more i (rest k)
    go false false led rest k = rest k
