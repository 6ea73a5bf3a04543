-- There are hits if the first ones are.
use Rattle.std.proofs.Common.{◌≡◌, ◌++◌, ℕ, suc, List, length, nat_lt, true, ap, refl, sym, ◌∙◌, arith}
use Rattle.std.proofs.lemmas.Bool.{lt-ltb}
use Rattle.leak_index.specs.Hits.{hits_in}
use Rattle.leak_index.specs.declared.hits.Hits.{Hits}
use Rattle.leak_index.specs.declared.hits.Hits.TheVariants.{Zero, One, Two}
use Rattle.leak_scan.specs.Targets.{targets_of}
use Rattle.leak_scan.proofs.Ahead.{targets_none}
use Rattle.leak_scan.proofs.first.lead_somewhere.Goals as goal

some : (hits : Hits) (rest all : List ℕ) → (hits ≡ Zero → ⊥) → all ≡ hits_in hits ++ rest → true ≡ nat_lt 0 (length all)
some Zero rest all not is = absurd (not refl)
some (One b) rest all not is =
    let e : length all ≡ suc (length rest) = ap (λ (l : List ℕ). length l) is in sym (lt-ltb 0 (length all) (omega (arith, e)))
some (Two b d) rest all not is =
    let e : length all ≡ suc (suc (length rest)) = ap (λ (l : List ℕ). length l) is in sym (lt-ltb 0 (length all) (omega (arith, e)))

pub returns-in-Zero : goal.returns-in-Zero
returns-in-Zero g c =
    let index = g.L.Lookup.index c.args.lookup.now in
    sym (ap (λ (l : List ℕ). nat_lt 0 (length l)) (c.first_of_list-hits.ensures.split
    ∙ ap (λ (hits : Hits). hits_in hits ++ targets_of index c.first_of_list-hits.result.1.now) c.in-Zero.is
    ∙ ap (targets_of index) (c.first_of_list-hits.ensures.end c.in-Zero.is) ∙ targets_none index))

pub returns-in_default : goal.returns-in_default
returns-in_default g c = some _ _ _ c.in_default.not-Zero c.first_of_list-hits.ensures.split
