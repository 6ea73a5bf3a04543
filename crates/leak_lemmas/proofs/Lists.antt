-- Lists that are empty or not, what is left of a list, and elements at places.
use Rattle.std.proofs.Common.{◌≡◌, ℕ, zero, suc, ◌-◌, ◌<◌, List, [], ◌∷◌, length, take, drop, get_or, refl, arith}
use Rattle.std.proofs.lemmas.List.{length-drop, take_all}

pub no_cons : {x : ℕ} {xs : List ℕ} → x ∷ xs ≡ [] → ⊥
no_cons e = cc

-- what is left of a text, cut at its end
pub left_whole : (n : ℕ) (text : List ℕ) → take (length text - n) (drop n text) ≡ drop n text
left_whole n text = take_all _ _ (omega (arith, length-drop n text))

-- inside the list, what stands for an element behind it does not matter
pub any_default : {X : Type 0} (xs : List X) (k : ℕ) (d e : X) → k < length xs → get_or xs k d ≡ get_or xs k e
any_default [] k d e h = absurd (omega arith)
any_default (x ∷ xs) zero d e h = refl
any_default (x ∷ xs) (suc k) d e h = any_default xs k d e (omega arith)
