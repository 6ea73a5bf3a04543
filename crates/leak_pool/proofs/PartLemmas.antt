-- What several parts have together.
use Rattle.std.proofs.Common.{◌≡◌, ℕ, suc, zero, ◌+◌, ◌<◌, List, [], ◌∷◌, ◌++◌, length, drop, map, flat_map, get_or, ap, sym, subst, ◌∙◌, ⊎_elim, arith}
use Rattle.std.proofs.lemmas.List.{drop_more}
use Rattle.std.proofs.lemmas.List.Concat.{flat_map-cons}
use Rattle.std.proofs.lemmas.List.Folds.{flat_map-map}
use Rattle.leak_marks.specs.Lists.{Has}
use Rattle.leak_marks.proofs.ListLemmas.{here, there, at_head, has_front, has_back, of_append}
use Rattle.leak_pool.proofs.ScanLemmas.{none_has}

-- what one of them has
pub part_has : {A : Type 0} (f : A → List ℕ) (d : A) (xs : List A) (i b : ℕ) → i < length xs → Has (f (get_or xs i d)) b → Has (flat_map f xs) b
part_has f d [] i b below h = absurd (omega arith)
part_has f d (x ∷ xs) zero b below h = subst (λ (l : List ℕ). Has l b) (sym (flat_map-cons f x xs)) (has_front (f x) (flat_map f xs) b h)
part_has f d (x ∷ xs) (suc i) b below h = subst (λ (l : List ℕ). Has l b) (sym (flat_map-cons f x xs)) (has_back (f x) (flat_map f xs) b (part_has f d xs i b (omega arith) h))

-- the next of them, and those after it
pub next_part : {A : Type 0} (f : A → List ℕ) (d : A) (xs : List A) (i : ℕ) → i < length xs → flat_map f (drop i xs) ≡ f (get_or xs i d) ++ flat_map f (drop (i + 1) xs)
next_part {A} f d xs i below = ap (λ (l : List A). flat_map f l) (drop_more xs i d below) ∙ flat_map-cons f (get_or xs i d) (drop (i + 1) xs)

-- the part that has it
pub of_parts : (f : ℕ → List ℕ) (xs : List ℕ) (b : ℕ) → Has (flat_map f xs) b → (s : ℕ) × Has xs s × Has (f s) b
of_parts f [] b h = none_has b h
of_parts f (x ∷ xs) b h = ⊎_elim (λ a. (x, here x xs, a)) (λ r. let o = of_parts f xs b r in (o.0, there x xs o.0 o.1, o.2))
    (of_append (f x) (flat_map f xs) b (subst (λ (l : List ℕ). Has l b) (flat_map-cons f x xs) h))

pub has_part : (f : ℕ → List ℕ) (xs : List ℕ) (s b : ℕ) → Has xs s → Has (f s) b → Has (flat_map f xs) b
has_part f [] s b h t = none_has s h
has_part f (x ∷ xs) s b h t = subst (λ (l : List ℕ). Has l b) (sym (flat_map-cons f x xs))
    (⊎_elim (λ is. has_front (f x) (flat_map f xs) b (subst (λ (y : ℕ). Has (f y) b) (sym is) t)) (λ r. has_back (f x) (flat_map f xs) b (has_part f xs s b r t)) (at_head x xs s h))

-- parts that are the same have the same
pub same_parts : {A B : Type 0} (f : A → List ℕ) (g : B → List ℕ) (xs : List A) (ys : List B) → map f xs ≡ map g ys → flat_map f xs ≡ flat_map g ys
same_parts f g xs ys is = sym (flat_map-map (λ (l : List ℕ). l) f xs) ∙ ap (λ (ls : List (List ℕ)). flat_map (λ (l : List ℕ). l) ls) is ∙ flat_map-map (λ (l : List ℕ). l) g ys
