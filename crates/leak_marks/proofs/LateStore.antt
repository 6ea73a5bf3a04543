-- Why a claim is one `fetch_or`: between a load and a store another seat can claim a block of the same word, and
-- the store would clear its mark. No view of the seat that stores keeps the rule then.
use Rattle.std.proofs.Common.{◌≡◌, ℕ, zero, suc, [], ◌∷◌, refl, sym, ◌∙◌, subst, arith}
use mathlib.Core.Option.{some, some-ne-none, some-injective}
use mathlib.Core.Logic.{dite}
use native.Mathlib.Decide.{ℕ_discrete}
use lib.ListN.{get_elem?}
use Rattle.atomic_table.specs.Table.{State, Me, Allows}
use Rattle.leak_marks.specs.declared.view.View.{View}
use Rattle.leak_marks.specs.Lists.{times, Has, mark_of}
use Rattle.leak_marks.specs.Marks.{view, total, Fits, Kept}
use Rattle.leak_marks.proofs.ListLemmas.{times_one, times_other, none_has}
use Rattle.leak_marks.proofs.Places.{marked, mark_here, mark_else}
use Rattle.leak_marks.proofs.Moves.{no_mark}

-- the seat that loaded, and the other, which has claimed block 1 since
abbrev loader : View
loader = view [] [] 4294967295

abbrev other : View
other = view (1 ∷ []) (1 ∷ []) 1

abbrev between : State (Unit {0}) View
between = record { words = marked (0 ∷ []) 1; homes = []; views = loader ∷ other ∷ [] }

mark_is : (b : ℕ) → times b (1 ∷ []) ≡ mark_of (marked (0 ∷ []) 1) b
mark_is b = dite (ℕ_discrete b 1)
    (λ is. subst (λ (x : ℕ). times x (1 ∷ []) ≡ mark_of (marked (0 ∷ []) 1) x) (sym is) (sym (mark_here (0 ∷ []) 1 (omega arith))))
    (λ ne. times_other b 1 ne ∙ sym (mark_else (0 ∷ []) 1 b (omega arith) ne ∙ no_mark 1 b))

fits_other : Fits (marked (0 ∷ []) 1) other
fits_other = record {
  among = λ b h. h;
  set = λ b h. let m = mark_is b in let l = at_one b h in omega arith;
  idle = λ e. absurd (omega arith);
}
  where
    at_one : (b : ℕ) → Has (1 ∷ []) b → times b (1 ∷ []) ≡ 1
    at_one b h = dite (ℕ_discrete b 1) (λ is. subst (λ (x : ℕ). times x (1 ∷ []) ≡ 1) (sym is) (times_one 1)) (λ ne. let z = times_other b 1 ne in absurd (omega arith))

fits_loader : Fits (marked (0 ∷ []) 1) loader
fits_loader = record { among = λ b h. absurd (none_has b h); set = λ b h. absurd (none_has b h); idle = λ e. absurd (omega arith) }

kept_between : Kept 2 between
kept_between = record {
  wide = refl;
  once = λ b. let m = mark_is b in omega arith;
  clear = λ b h. mark_else (0 ∷ []) 1 b (omega arith) (λ e. omega arith) ∙ no_mark 1 b;
  fits = one;
  shares = refl;
}
  where
    one : (j : ℕ) (v : View) → get_elem? (loader ∷ other ∷ []) j ≡ some v → Fits (marked (0 ∷ []) 1) v
    one zero v e = subst (λ (u : View). Fits (marked (0 ∷ []) 1) u) (some-injective _ _ e) fits_loader
    one (suc zero) v e = subst (λ (u : View). Fits (marked (0 ∷ []) 1) u) (some-injective _ _ e) fits_other
    one (suc (suc j)) v e = absurd (some-ne-none v (sym e))

-- block 0, of a word that was found clear, is not claimed by a store of that word with its bit
pub no_late_store : (told : ℕ → Me (Unit {0}) View → Type 0) → Allows (Kept 2) 0 0 (loader, []) 0 (λ _. 1) told → ⊥
no_late_store told allowed =
    let step = allowed between kept_between refl refl (omega arith) in
    let claims : total (λ (v : View). times 1 v.claims) (step.0 ∷ other ∷ []) ≡ mark_of (1 ∷ []) 1 = (step.3).once 1 in
    let none : mark_of (1 ∷ []) 1 ≡ 0 = refl in
    let theirs : times 1 (1 ∷ []) ≡ 1 = times_one 1 in omega arith
