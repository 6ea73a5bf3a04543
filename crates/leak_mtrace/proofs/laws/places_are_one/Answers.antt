-- Both ways, by whether the place has a ']'.
use Rattle.std.proofs.Common.{◌≡◌, ◌≢◌, ℕ, ◌-◌, inl, inr, Bool, true, false, true≢false, not, ◌||◌, ◌==◌, refl, sym, ap, ◌∙◌, List, [], ◌∷◌, ◌++◌, slice_get, length, take, codes, ⊎_elim}
use Rattle.std.proofs.lemmas.Bool.{cases_Bool}
use Rattle.std.proofs.lemmas.Bool.Decides.{Decides-eqb}
use Rattle.std.proofs.lemmas.List.Folds.{list_any-append}
use Rattle.std.proofs.lemmas.Slice.Eq.{ends_is}
use Rattle.std.proofs.lemmas.Option.{same_Some}
use Rattle.std.specs.List.{ends_with}
use Rattle.leak_mtrace.specs.declared.line.Line.{Line}
use Rattle.leak_mtrace.specs.Line.{IsBody, IsCall, IsPlace, sign_of}
use Rattle.leak_mtrace.specs.CallPlace.{has_bracket, BeginsCall, IsWhere}
use Rattle.leak_mtrace.proofs.CallLemmas.{Begins, call_spaces}
use Rattle.leak_mtrace.proofs.BodyLemmas.{call_body, call_not_remark}
use Rattle.leak_mtrace.proofs.CallPlaceLemmas.{call_plain, sign_is, no_sign, ends_so, bracket_false, not_or_left, not_or_right}
use Rattle.leak_mtrace.proofs.laws.places_are_one.Goals as goal

not_true : (b : Bool) → b ≡ false → not b ≡ true
not_true b e = ap not e

not_false : (b : Bool) → not b ≡ true → b ≡ false
not_false true e = absurd (true≢false (sym e))
not_false false e = refl

or_left_false : (a b : Bool) → (a || b) ≡ false → a ≡ false
or_left_false true b e = e
or_left_false false b e = refl

both_begin : (r : List ℕ) → Begins r → BeginsCall r → ⊥
both_begin r (inl e) c = (no_sign c.0 c.3).0 (same_Some _ _ (sym (ap (λ t. slice_get t 0) c.2) ∙ e))
both_begin r (inr e) c = (no_sign c.0 c.3).1 (same_Some _ _ (sym (ap (λ t. slice_get t 0) c.2) ∙ e))

begins : (x : Line) (rest : List ℕ) → IsCall x.kind rest x.addr x.size → BeginsCall rest
begins x rest c =
    let b : (more : List ℕ) × (rest ≡ sign_of x.kind ∷ 32 ∷ more) × IsBody x.kind more x.addr x.size = call_body x.kind rest x.addr x.size c in
    (sign_of x.kind, b.0, b.1, sign_is x.kind (call_not_remark x.kind rest x.addr x.size c))

where_of : (place rest : List ℕ) (x : Line) → IsPlace place → IsCall x.kind rest x.addr x.size → IsWhere (place ++ 32 ∷ rest) place
where_of place rest x p c = ⊎_elim
    (λ t. inl (take (length place - 1) place, 32 ∷ rest, ends_so place (bracket_false (has_bracket place) (ends_with ◌==◌ place (codes "]")) p.1 t), refl, not_true (has_bracket rest) (call_plain x.kind rest x.addr x.size c)))
    (λ f. inr (
      not_true (has_bracket (place ++ 32 ∷ rest)) (list_any-append (λ b. b == 93) place (32 ∷ rest) ∙ ap (λ b. b || has_bracket rest) f ∙ call_plain x.kind rest x.addr x.size c),
      rest,
      refl,
      begins x rest c,
      λ q r e d. both_begin r (call_spaces x.kind rest x.addr x.size c q r e) d,
    ))
    (cases_Bool (has_bracket place))

place_of : (place rest : List ℕ) → place ≢ [] → IsWhere (place ++ 32 ∷ rest) place → IsPlace place
place_of place rest some (inl h) = (some, not_or_right (has_bracket place) _ ((ends_is Decides-eqb place (codes "]") (ends_with ◌==◌ place (codes "]")) refl).1 h.0 h.2))
place_of place rest some (inr h) = (some, not_or_left (has_bracket place) _ (or_left_false (has_bracket place) (has_bracket (32 ∷ rest)) (sym (list_any-append (λ b. b == 93) place (32 ∷ rest)) ∙ not_false (has_bracket (place ++ 32 ∷ rest)) h.0)))

pub returns : goal.returns
returns c = λ text x. (
  λ h. (h.0, h.1, h.2, (h.3.0, where_of h.0 h.1 x h.3 h.4), h.4, h.5),
  λ h. (h.0, h.1, h.2, place_of h.0 h.1 h.3.0 h.3.1, h.4, h.5),
)
