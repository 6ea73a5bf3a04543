-- Spaces that a sign and a space follow.
use Rattle.std.proofs.Common.{◌≡◌, ℕ, ◌+◌, ◌<◌, true, ◌&&◌, ◌==◌, sym, ◌∙◌, List, arith, length, get_or, eqb-true, ⊎_elim}
use Rattle.std.proofs.lemmas.Bool.{cases_lt}
use Rattle.std.proofs.lemmas.List.{get_or_past}
use Rattle.leak_lemmas.proofs.Bools.{and_right}
use Rattle.leak_mtrace.specs.CallPlace.{is_sign, is_spot}

-- no spot begins in the last two bytes
pub spot_within : (text : List ℕ) (k : ℕ) → is_spot text k ≡ true → k + 2 < length text
spot_within text k h =
    let last : get_or text (k + 2) 0 ≡ 32 = eqb-true _ _ (and_right (is_sign (get_or text (k + 1) 0)) (get_or text (k + 2) 0 == 32) (and_right (get_or text k 0 == 32) (is_sign (get_or text (k + 1) 0) && get_or text (k + 2) 0 == 32) h)) in
    ⊎_elim (λ l. l) (λ g. absurd (omega (arith, sym (get_or_past text (k + 2) 0 g) ∙ last))) (cases_lt (k + 2) (length text))
