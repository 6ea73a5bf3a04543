-- How often numbers are in lists.
use Rattle.std.proofs.Common.{◌≡◌, ◌≢◌, ◌⊎◌, ◌↔◌, ℕ, zero, suc, ◌+◌, ◌<◌, ◌≤◌, Bool, true, false, ◌||◌, List, [], ◌∷◌, ◌++◌, ◌==◌, if◌then◌else◌, IsTrue, IsFalse, length, get_or, set, refl, sym, ap, ◌∙◌, subst, inl, inr, ⊎_elim, true≢false, arith, eq-eqb, ne_eqb, le_of_suc-le-suc}
use mathlib.Core.Logic.{dite}
use native.Mathlib.Decide.{ℕ_discrete}
use Rattle.std.specs.List.{concat}
use Rattle.leak_marks.specs.Lists.{times, Has, has, IsDistinct, Within}
use Rattle.leak_marks.proofs.BoolLemmas.{same_number}

-- ---- appending

pub times-append : (x : ℕ) (xs ys : List ℕ) → times x (xs ++ ys) ≡ times x xs + times x ys
times-append x [] ys = omega arith
times-append x (y ∷ xs) ys = let r = times-append x xs ys in let h : ℕ = (if y == x then 1 else 0) in omega arith

pub times_one : (b : ℕ) → times b (b ∷ []) ≡ 1
times_one b = ap (λ c. (if c then 1 else 0) + 0) (eq-eqb b b refl)

pub times_other : (x b : ℕ) → x ≢ b → times x (b ∷ []) ≡ 0
times_other x b ne = ap (λ c. (if c then 1 else 0) + 0) (ne_eqb b x (λ e. ne (sym e)))

-- one number more at the end
pub push_same : (xs : List ℕ) (b : ℕ) → times b (xs ++ b ∷ []) ≡ times b xs + 1
push_same xs b = times-append b xs (b ∷ []) ∙ ap (λ (n : ℕ). times b xs + n) (times_one b)

pub push_other : (xs : List ℕ) (x b : ℕ) → x ≢ b → times x (xs ++ b ∷ []) ≡ times x xs
push_other xs x b ne = let r = times-append x xs (b ∷ []) in let z = times_other x b ne in omega arith

-- ---- what is in a list

pub none_has : (x : ℕ) → ¬ Has [] x
none_has x h = omega arith

pub here : (b : ℕ) (xs : List ℕ) → Has (b ∷ xs) b
here b xs = let e = times_one b in let p = times-append b (b ∷ []) xs in omega arith

pub there : (x : ℕ) (xs : List ℕ) (b : ℕ) → Has xs b → Has (x ∷ xs) b
there x xs b h = let p = times-append b (x ∷ []) xs in omega arith

-- of a block in the longer list: it is the first, or in the shorter one
pub at_head : (x : ℕ) (xs : List ℕ) (b : ℕ) → Has (x ∷ xs) b → (x ≡ b) ⊎ Has xs b
at_head x xs b h = go (x == b) refl h
  where
    go : (t : Bool) → (x == b) ≡ t → 0 < (if t then 1 else 0) + times b xs → (x ≡ b) ⊎ Has xs b
    go true e l = inl (same_number x b e)
    go false e l = inr (omega arith)

pub either : {P : Type 0} (m n : ℕ) → 0 < m + n → (0 < m → P) → (0 < n → P) → P
either m n h f g = dite (ℕ_discrete m 0) (λ z. g (omega arith)) (λ nz. f (omega arith))

pub has_front : (xs ys : List ℕ) (x : ℕ) → Has xs x → Has (xs ++ ys) x
has_front xs ys x h = let p = times-append x xs ys in omega arith

pub has_back : (xs ys : List ℕ) (x : ℕ) → Has ys x → Has (xs ++ ys) x
has_back xs ys x h = let p = times-append x xs ys in omega arith

pub of_append : (xs ys : List ℕ) (x : ℕ) → Has (xs ++ ys) x → Has xs x ⊎ Has ys x
of_append xs ys x h = let p = times-append x xs ys in either (times x xs) (times x ys) (omega arith) (λ a. inl a) (λ b. inr b)

pub has_last : (xs : List ℕ) (b : ℕ) → Has (xs ++ b ∷ []) b
has_last xs b = let p = push_same xs b in omega arith

pub of_push : (xs : List ℕ) (b x : ℕ) → Has (xs ++ b ∷ []) x → Has xs x ⊎ (x ≡ b)
of_push xs b x h = dite (ℕ_discrete x b) (λ is. inr is) (λ ne. inl (let p = push_other xs x b ne in omega arith))

pub has_or_not : (xs : List ℕ) (x : ℕ) → Has xs x ⊎ ¬ Has xs x
has_or_not xs x = dite (ℕ_discrete (times x xs) 0) (λ z. inr (λ h. omega arith)) (λ nz. inl (omega arith))

-- ---- the test

pub to_has : (xs : List ℕ) (b : ℕ) → Has xs b → IsTrue (has xs b)
to_has [] b h = absurd (omega arith)
to_has (y ∷ ys) b h = go (λ r. to_has ys b r) (y == b) h
  where
    go : (Has ys b → IsTrue (has ys b)) → (t : Bool) → 0 < (if t then 1 else 0) + times b ys → (t || has ys b) ≡ true
    go rest true l = refl
    go rest false l = rest (omega arith)

pub of_has : (xs : List ℕ) (b : ℕ) → IsTrue (has xs b) → Has xs b
of_has [] b h = absurd (true≢false (sym h))
of_has (y ∷ ys) b h = go (λ r. of_has ys b r) (y == b) h
  where
    go : (IsTrue (has ys b) → Has ys b) → (t : Bool) → (t || has ys b) ≡ true → 0 < (if t then 1 else 0) + times b ys
    go rest true l = omega arith
    go rest false l = let r : 0 < times b ys = rest l in omega arith

pub has_is : (xs : List ℕ) (b : ℕ) → Has xs b ↔ IsTrue (has xs b)
has_is xs b = (to_has xs b, of_has xs b)

pub has_no : (xs : List ℕ) (b : ℕ) → ¬ Has xs b → IsFalse (has xs b)
has_no xs b never = go (has xs b) refl
  where
    go : (t : Bool) → has xs b ≡ t → t ≡ false
    go true e = absurd (never (of_has xs b e))
    go false e = refl

pub of_has_no : (xs : List ℕ) (b : ℕ) → IsFalse (has xs b) → ¬ Has xs b
of_has_no xs b e h = true≢false (sym (to_has xs b h) ∙ e)

-- ---- lists of lists

-- a list grows at its end
pub times_set : (b : ℕ) (lists : List (List ℕ)) (k : ℕ) (xs : List ℕ) → k < length lists → times b (concat (set lists k (get_or lists k [] ++ xs))) ≡ times b (concat lists) + times b xs
times_set b [] k xs h = absurd (omega arith)
times_set b (l ∷ ls) zero xs h =
    let p = times-append b (l ++ xs) (concat ls) in let q = times-append b l xs in let r = times-append b l (concat ls) in omega arith
times_set b (l ∷ ls) (suc k) xs h =
    let p = times-append b l (concat (set ls k (get_or ls k [] ++ xs))) in let q = times_set b ls k xs (le_of_suc-le-suc h) in let r = times-append b l (concat ls) in omega arith

pub times_concat_append : (b : ℕ) (ls ms : List (List ℕ)) → times b (concat (ls ++ ms)) ≡ times b (concat ls) + times b (concat ms)
times_concat_append b [] ms = omega arith
times_concat_append b (l ∷ ls) ms =
    let p = times-append b l (concat (ls ++ ms)) in let q = times_concat_append b ls ms in let r = times-append b l (concat ls) in omega arith

-- what is in one of the lists is in them together
pub has_concat : (lists : List (List ℕ)) (k x : ℕ) → Has (get_or lists k []) x → Has (concat lists) x
has_concat [] k x h = absurd (omega arith)
has_concat (l ∷ ls) zero x h = has_front l (concat ls) x h
has_concat (l ∷ ls) (suc k) x h = has_back l (concat ls) x (has_concat ls k x h)

pub of_concat : (lists : List (List ℕ)) (x : ℕ) → Has (concat lists) x → (k : ℕ) × (k < length lists) × Has (get_or lists k []) x
of_concat [] x h = absurd (omega arith)
of_concat (l ∷ ls) x h = ⊎_elim
    (λ a. (0, omega arith, a))
    (λ b. let r : (k : ℕ) × (k < length ls) × Has (get_or ls k []) x = of_concat ls x b in (suc r.0, (let lt : r.0 < length ls = r.1 in omega arith), r.2))
    (of_append l (concat ls) x h)

-- ---- lists within lists

pub within_refl : (xs : List ℕ) → Within xs xs
within_refl xs x h = h

pub within_trans : (xs ys zs : List ℕ) → Within xs ys → Within ys zs → Within xs zs
within_trans xs ys zs f g x h = g x (f x h)

pub within_nil : (ys : List ℕ) → Within [] ys
within_nil ys x h = absurd (omega arith)

pub within_front : (xs ys : List ℕ) → Within xs (xs ++ ys)
within_front xs ys x h = has_front xs ys x h

pub within_back : (xs ys : List ℕ) → Within ys (xs ++ ys)
within_back xs ys x h = has_back xs ys x h

-- both parts of a list are within another
pub within_both : (xs ys zs : List ℕ) → Within xs zs → Within ys zs → Within (xs ++ ys) zs
within_both xs ys zs f g x h = ⊎_elim (λ a. f x a) (λ b. g x b) (of_append xs ys x h)

pub within_append : (xs ys us vs : List ℕ) → Within xs us → Within ys vs → Within (xs ++ ys) (us ++ vs)
within_append xs ys us vs f g x h = ⊎_elim (λ a. has_front us vs x (f x a)) (λ b. has_back us vs x (g x b)) (of_append xs ys x h)

pub within_push : (xs ys : List ℕ) (b : ℕ) → Within xs ys → Within (xs ++ b ∷ []) (ys ++ b ∷ [])
within_push xs ys b f = within_append xs (b ∷ []) ys (b ∷ []) f (within_refl (b ∷ []))

-- ---- lists in which no number is twice

pub distinct_nil : IsDistinct []
distinct_nil x = omega arith

pub distinct_append : (xs ys : List ℕ) → IsDistinct xs → IsDistinct ys → ((x : ℕ) → Has xs x → ¬ Has ys x) → IsDistinct (xs ++ ys)
distinct_append xs ys f g apart x = let p = times-append x xs ys in let a = f x in let b = g x in
    dite (ℕ_discrete (times x xs) 0) (λ z. omega arith) (λ nz. dite (ℕ_discrete (times x ys) 0) (λ z. omega arith) (λ ny. absurd (apart x (omega arith) (omega arith))))

pub distinct_front : (xs ys : List ℕ) → IsDistinct (xs ++ ys) → IsDistinct xs
distinct_front xs ys d x = let p = times-append x xs ys in let a = d x in omega arith

pub distinct_back : (xs ys : List ℕ) → IsDistinct (xs ++ ys) → IsDistinct ys
distinct_back xs ys d x = let p = times-append x xs ys in let a = d x in omega arith

-- what is in the front of such a list is not after it
pub distinct_apart : (xs ys : List ℕ) → IsDistinct (xs ++ ys) → (x : ℕ) → Has xs x → ¬ Has ys x
distinct_apart xs ys d x h k = let p = times-append x xs ys in let a = d x in omega arith

pub distinct_push : (xs : List ℕ) (b : ℕ) → ¬ Has xs b → IsDistinct xs → IsDistinct (xs ++ b ∷ [])
distinct_push xs b new d x = dite (ℕ_discrete x b)
    (λ is. subst (λ (y : ℕ). times y (xs ++ b ∷ []) ≤ 1) (sym is) (let p = push_same xs b in dite (ℕ_discrete (times b xs) 0) (λ z. omega arith) (λ nz. absurd (new (omega arith)))))
    (λ ne. let p = push_other xs x b ne in let q = d x in omega arith)
