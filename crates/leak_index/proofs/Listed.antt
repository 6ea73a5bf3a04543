-- What a list of displacements allows, and the first value that is too large.
use Rattle.std.proofs.Common.{◌≡◌, ℕ, ◌+◌, ◌<◌, ◌≤◌, suc, Bool, true, false, ◌||◌, refl, ap, sym, ◌∙◌, true≢false, List, take, drop, length, slice_index_or, if◌then◌else◌, ◌==◌, cond, nat_lt, Some, None, eqb→eq, arith}
use Rattle.std.proofs.Math.Seq.{drop-cons}
use Rattle.std.proofs.lemmas.Bool.{le-ltb}
use Rattle.std.specs.Bool.{passes}
use Rattle.std.specs.List.{list_any, position_from}
use Rattle.leak_index.specs.declared.reading.Reading.{Reading}
use Rattle.leak_index.specs.Leads.{allows}
use Rattle.leak_index.specs.Readings.{listed_by}

pub listed_allows : (r : Reading) (distance : ℕ) → r.interior ≡ false → (distance ≡ 0 → ⊥) → allows (listed_by r) distance ≡ list_any (λ d. d == distance) (take r.count r.values)
listed_allows r distance h away = go r.interior h
  where
    behind : (u x : Bool) → (distance == 0) ≡ u → (u || x) ≡ x
    behind true x e = absurd (away (eqb→eq _ _ (passes _ e)))
    behind false x e = refl

    go : (t : Bool) → t ≡ false → allows (if t then None else Some (take r.count r.values)) distance ≡ list_any (λ d. d == distance) (take r.count r.values)
    go true e = absurd (true≢false e)
    go false e = behind (distance == 0) (list_any (λ d. d == distance) (take r.count r.values)) refl

-- one more value is none that the test finds
pub position_more : (values : List ℕ) (i : ℕ) → i < length values → slice_index_or values i 0 ≤ 65535 → position_from (nat_lt 65535) (i + 1) (drop (i + 1) values) ≡ position_from (nat_lt 65535) i (drop i values)
position_more values i h small =
    let next : i + 1 ≡ suc i = omega arith in
    rw (drop-cons values i 0)
    (ap (λ k. position_from (nat_lt 65535) (i + 1) (drop k values)) next
    ∙ sym (ap (λ t. cond t (Some i) (position_from (nat_lt 65535) (i + 1) (drop (suc i) values))) (le-ltb 65535 (slice_index_or values i 0) small)))

-- the first i values are listed and are not too large
pub record AreListed (values : List ℕ) (i : ℕ) (listed : List ℕ) : Type 0 where
  pub room : length listed ≡ 16
  pub same : take i listed ≡ take i values
  pub left : position_from (nat_lt 65535) i (drop i values) ≡ position_from (nat_lt 65535) 0 values
