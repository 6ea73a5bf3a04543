-- What is in lists that are made from others, and where.
use Rattle.std.proofs.Common.{◌≡◌, ℕ, zero, suc, ◌+◌, ◌<◌, ◌≤◌, Bool, true, false, cond, List, [], ◌∷◌, IsTrue, Option, Some, None, length, get_or, map, filter, filter_map, refl, sym, ap, subst, ◌∙◌, ⊎_elim, arith, le_of_suc-le-suc, flat_map}
use Rattle.std.specs.List.{range_with_len, cons_option}
use mathlib.Core.Logic.{dite}
use native.Mathlib.Decide.{ℕ_discrete}
use Rattle.leak_marks.specs.Lists.{Has}
use Rattle.leak_marks.proofs.ListLemmas.{none_has, here, there, at_head, has_front, has_back, of_append}

-- ---- places

pub has_at : (xs : List ℕ) (k d : ℕ) → k < length xs → Has xs (get_or xs k d)
has_at [] k d h = absurd (omega arith)
has_at (x ∷ xs) zero d h = here x xs
has_at (x ∷ xs) (suc k) d h = there x xs (get_or xs k d) (has_at xs k d (le_of_suc-le-suc h))

pub place_of : (xs : List ℕ) (x : ℕ) → Has xs x → (k : ℕ) × (k < length xs) × ((d : ℕ) → get_or xs k d ≡ x)
place_of [] x h = absurd (none_has x h)
place_of (y ∷ ys) x h = ⊎_elim
    (λ e. (0, omega arith, λ d. e))
    (λ r. let p : (k : ℕ) × (k < length ys) × ((d : ℕ) → get_or ys k d ≡ x) = place_of ys x r in (suc p.0, (let lt : p.0 < length ys = p.1 in omega arith), p.2))
    (at_head y ys x h)

-- ---- maps

module _ {A : Type 0} (f : A → ℕ) where
  pub has_map : (xs : List A) (k : ℕ) (d : A) → k < length xs → Has (map f xs) (f (get_or xs k d))
  has_map [] k d h = absurd (omega arith)
  has_map (x ∷ xs) zero d h = here (f x) (map f xs)
  has_map (x ∷ xs) (suc k) d h = there (f x) (map f xs) (f (get_or xs k d)) (has_map xs k d (le_of_suc-le-suc h))

  pub of_map : (xs : List A) (y : ℕ) → Has (map f xs) y → (k : ℕ) × (k < length xs) × ((d : A) → f (get_or xs k d) ≡ y)
  of_map [] y h = absurd (none_has y h)
  of_map (x ∷ xs) y h = ⊎_elim
      (λ e. (0, omega arith, λ d. e))
      (λ r. let p : (k : ℕ) × (k < length xs) × ((d : A) → f (get_or xs k d) ≡ y) = of_map xs y r in (suc p.0, (let lt : p.0 < length xs = p.1 in omega arith), p.2))
      (at_head (f x) (map f xs) y h)

module _ {A : Type 0} (f : A → List ℕ) where
  pub has_flat_map : (xs : List A) (k : ℕ) (d : A) (y : ℕ) → k < length xs → Has (f (get_or xs k d)) y → Has (flat_map f xs) y
  has_flat_map [] k d y h i = absurd (omega arith)
  has_flat_map (x ∷ xs) zero d y h i = has_front (f x) (flat_map f xs) y i
  has_flat_map (x ∷ xs) (suc k) d y h i = has_back (f x) (flat_map f xs) y (has_flat_map xs k d y (le_of_suc-le-suc h) i)

  pub of_flat_map : (xs : List A) (y : ℕ) → Has (flat_map f xs) y → (k : ℕ) × (k < length xs) × ((d : A) → Has (f (get_or xs k d)) y)
  of_flat_map [] y h = absurd (none_has y h)
  of_flat_map (x ∷ xs) y h = ⊎_elim
      (λ i. (0, omega arith, λ d. i))
      (λ r. let p : (k : ℕ) × (k < length xs) × ((d : A) → Has (f (get_or xs k d)) y) = of_flat_map xs y r in (suc p.0, (let lt : p.0 < length xs = p.1 in omega arith), p.2))
      (of_append (f x) (flat_map f xs) y h)

-- ---- filters

pub has_filter : (p : ℕ → Bool) (xs : List ℕ) (x : ℕ) → Has xs x → IsTrue (p x) → Has (filter p xs) x
has_filter p [] x h passes = absurd (none_has x h)
has_filter p (y ∷ ys) x h passes = ⊎_elim
    (λ e. subst (λ (z : ℕ). Has (cond (p y) (y ∷ filter p ys) (filter p ys)) z) e
    (subst (λ (t : Bool). Has (cond t (y ∷ filter p ys) (filter p ys)) y) (sym (subst (λ (z : ℕ). p z ≡ true) (sym e) passes)) (here y (filter p ys))))
    (λ r. go (p y) (has_filter p ys x r passes))
    (at_head y ys x h)
  where
    go : (t : Bool) → Has (filter p ys) x → Has (cond t (y ∷ filter p ys) (filter p ys)) x
    go true i = there y (filter p ys) x i
    go false i = i

pub of_filter : (p : ℕ → Bool) (xs : List ℕ) (x : ℕ) → Has (filter p xs) x → Has xs x × IsTrue (p x)
of_filter p [] x h = absurd (none_has x h)
of_filter p (y ∷ ys) x h = go (p y) refl (λ i. of_filter p ys x i) h
  where
    rest : (Has (filter p ys) x → Has ys x × IsTrue (p x)) → Has (filter p ys) x → Has (y ∷ ys) x × IsTrue (p x)
    rest known i = let r : Has ys x × IsTrue (p x) = known i in (there y ys x r.0, r.1)

    go : (t : Bool) → p y ≡ t → (Has (filter p ys) x → Has ys x × IsTrue (p x)) → Has (cond t (y ∷ filter p ys) (filter p ys)) x → Has (y ∷ ys) x × IsTrue (p x)
    go true e known i = ⊎_elim (λ same. (subst (λ (z : ℕ). Has (y ∷ ys) z) same (here y ys), subst (λ (z : ℕ). p z ≡ true) same e)) (rest known) (at_head y (filter p ys) x i)
    go false e known i = rest known i

-- ---- consecutive numbers

pub has_range : (n from a : ℕ) → from ≤ a → a < from + n → Has (range_with_len from n) a
has_range zero from a low high = absurd (omega arith)
has_range (suc n) from a low high = dite (ℕ_discrete from a)
    (λ e. subst (λ (x : ℕ). Has (from ∷ range_with_len (from + 1) n) x) e (here from (range_with_len (from + 1) n)))
    (λ ne. there from (range_with_len (from + 1) n) a (has_range n (from + 1) a (omega (arith, ne)) (omega arith)))

pub of_range : (n from a : ℕ) → Has (range_with_len from n) a → (from ≤ a) × (a < from + n)
of_range zero from a h = absurd (none_has a h)
of_range (suc n) from a h = ⊎_elim
    (λ e. (let s : from ≡ a = e in omega arith, let s : from ≡ a = e in omega arith))
    (λ r. let p : (from + 1 ≤ a) × (a < from + 1 + n) = of_range n (from + 1) a r in let l = p.0 in let m = p.1 in (omega arith, omega arith))
    (at_head from (range_with_len (from + 1) n) a h)

-- ---- what a function gives for each

pub has_filter_map : (f : ℕ → Option ℕ) (xs : List ℕ) (a w : ℕ) → Has xs a → f a ≡ Some w → Has (filter_map f xs) w
has_filter_map f [] a w h e = absurd (none_has a h)
has_filter_map f (x ∷ xs) a w h e = ⊎_elim
    (λ s. subst (λ (o : Option ℕ). Has (cons_option o (filter_map f xs)) w) (sym (ap f s ∙ e)) (here w (filter_map f xs)))
    (λ r. later (f x) (has_filter_map f xs a w r e))
    (at_head x xs a h)
  where
    later : (o : Option ℕ) → Has (filter_map f xs) w → Has (cons_option o (filter_map f xs)) w
    later None h = h
    later (Some v) h = there v (filter_map f xs) w h

pub of_filter_map : (f : ℕ → Option ℕ) (xs : List ℕ) (w : ℕ) → Has (filter_map f xs) w → (a : ℕ) × Has xs a × (f a ≡ Some w)
of_filter_map f [] w h = absurd (none_has w h)
of_filter_map f (x ∷ xs) w h = go (f x) refl h (λ k. of_filter_map f xs w k)
  where
    later : (a : ℕ) × Has xs a × (f a ≡ Some w) → (a : ℕ) × Has (x ∷ xs) a × (f a ≡ Some w)
    later r = (r.0, there x xs r.0 r.1, r.2)

    go : (o : Option ℕ) → f x ≡ o → Has (cons_option o (filter_map f xs)) w → (Has (filter_map f xs) w → (a : ℕ) × Has xs a × (f a ≡ Some w)) → (a : ℕ) × Has (x ∷ xs) a × (f a ≡ Some w)
    go None e k rest = later (rest k)
    go (Some v) e k rest = ⊎_elim (λ s. (x, here x xs, e ∙ ap Some s)) (λ r. later (rest r)) (at_head v (filter_map f xs) w k)

pub has_flat : (f : ℕ → List ℕ) (xs : List ℕ) (w b : ℕ) → Has xs w → Has (f w) b → Has (flat_map f xs) b
has_flat f [] w b h k = absurd (none_has w h)
has_flat f (x ∷ xs) w b h k = ⊎_elim
    (λ s. has_front (f x) (flat_map f xs) b (subst (λ (y : ℕ). Has (f y) b) (sym s) k))
    (λ r. has_back (f x) (flat_map f xs) b (has_flat f xs w b r k))
    (at_head x xs w h)
