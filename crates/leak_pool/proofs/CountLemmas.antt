-- Numbers in lists: where they are, and how many there can be.
use Rattle.std.proofs.Common.{◌≡◌, ℕ, zero, suc, ◌+◌, ◌<◌, ◌≤◌, List, [], ◌∷◌, length, get_or, refl, sym, ap, ◌∙◌, ⊎_elim, arith, le_of_suc-le-suc}
use mathlib.Core.Logic.{dite}
use native.Mathlib.Decide.{ℕ_discrete}
use Rattle.leak_marks.specs.Lists.{times, Has, IsDistinct}
use Rattle.leak_marks.proofs.ListLemmas.{times-append, times_one, times_other, here, there, at_head}

pub has_at : (ws : List ℕ) (s : ℕ) → Has ws s → (k : ℕ) × (k < length ws) × (get_or ws k 0 ≡ s)
has_at [] s h = absurd (let z : 0 < 0 = h in omega arith)
has_at (w ∷ ws) s h = ⊎_elim (λ e. (0, omega arith, e)) (λ r. let m : (k : ℕ) × (k < length ws) × (get_or ws k 0 ≡ s) = has_at ws s r in let n : m.0 < length ws = m.1 in (suc m.0, omega arith, m.2)) (at_head w ws s h)

pub at_has : (ws : List ℕ) (k : ℕ) → k < length ws → Has ws (get_or ws k 0)
at_has [] k h = absurd (omega arith)
at_has (w ∷ ws) zero h = here w ws
at_has (w ∷ ws) (suc k) h = there w ws (get_or ws k 0) (at_has ws k (le_of_suc-le-suc h))

-- ---- how many distinct numbers there are below another

abbrev up : ℕ → List ℕ → ℕ
up zero xs = 0
up (suc n) xs = times n xs + up n xs

up_none : (n : ℕ) → up n [] ≡ 0
up_none zero = refl
up_none (suc n) = let r = up_none n in omega arith

up_above : (n x : ℕ) (xs : List ℕ) → n ≤ x → up n (x ∷ xs) ≡ up n xs
up_above zero x xs h = refl
up_above (suc n) x xs h = let r = up_above n x xs (omega arith) in let p = times-append n (x ∷ []) xs in let z = times_other n x (λ e. absurd (let f : n ≡ x = e in omega arith)) in omega arith

up_below : (n x : ℕ) (xs : List ℕ) → x < n → up n (x ∷ xs) ≡ up n xs + 1
up_below zero x xs h = absurd (omega arith)
up_below (suc n) x xs h = dite (ℕ_discrete n x)
    (λ e. let r = up_above n x xs (omega arith) in let p = times-append n (x ∷ []) xs in let o : times n (x ∷ []) ≡ 1 = ap (λ (y : ℕ). times n (y ∷ [])) (sym e) ∙ times_one n in omega arith)
    (λ ne. let r = up_below n x xs (omega arith) in let p = times-append n (x ∷ []) xs in let z = times_other n x ne in omega arith)

long_up : (n : ℕ) (xs : List ℕ) → ((b : ℕ) → Has xs b → b < n) → length xs ≤ up n xs
long_up n [] h = let z = up_none n in omega arith
long_up n (x ∷ xs) h = let r = long_up n xs (λ b i. h b (there x xs b i)) in let e = up_below n x xs (h x (here x xs)) in omega arith

up_few : (n : ℕ) (xs : List ℕ) → IsDistinct xs → up n xs ≤ n
up_few zero xs d = omega arith
up_few (suc n) xs d = let r = up_few n xs d in let o : times n xs ≤ 1 = d n in omega arith

pub few_distinct : (n : ℕ) (xs : List ℕ) → IsDistinct xs → ((b : ℕ) → Has xs b → b < n) → length xs ≤ n
few_distinct n xs once inside = let p = long_up n xs inside in let q = up_few n xs once in omega arith

-- what is at a place of the list, whatever comes after its end
pub read_at : (xs : List ℕ) (k x : ℕ) → k < length xs → x ≡ get_or xs k x → x ≡ get_or xs k 0
read_at xs k x h is = is ∙ same xs k h
  where
    same : (ys : List ℕ) (j : ℕ) → j < length ys → get_or ys j x ≡ get_or ys j 0
    same [] j l = absurd (omega arith)
    same (y ∷ ys) zero l = refl
    same (y ∷ ys) (suc j) l = same ys j (omega arith)
