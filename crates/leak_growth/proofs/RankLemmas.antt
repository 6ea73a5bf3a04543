-- Elements by rank, each once.
use Rattle.std.proofs.Common.{◌≡◌, ℕ, ◌⊎◌, inl, inr, List, [], ◌∷◌, refl, sym, ap, subst, ◌∙◌}
use Rattle.std.specs.List.{AllByRecursion}
use Rattle.std.specs.List.Sorted.{IsStrictlySortedBy}
use Rattle.std.specs.Cmp.{IsTotalOrder}
use Rattle.std.specs.declared.cmp.Ordering.{Ordering}
use Rattle.std.specs.declared.cmp.Ordering.TheVariants.{Less, Equal, Greater}
use Rattle.std.specs.Ordering.{ordering_reverse}
use Rattle.std.proofs.lemmas.Cmp.{tied_itself}
use Rattle.leak_lemmas.proofs.Members.{Has, each_implied}
use Rattle.leak_growth.specs.Rows.{placed, ranked}

-- what `placed` gives, by how the element compares with the first
abbrev at_first : {X : Type 0} → (X → X → Ordering) → X → X → List X → Ordering → List X
at_first R x y ys o = elim o [ Less ↦ x ∷ y ∷ ys | Equal ↦ y ∷ ys | Greater ↦ y ∷ placed R x ys ]

each_placed : {X : Type 0} (R : X → X → Ordering) (P : X → Type 0) (x : X) (ys : List X) → P x → AllByRecursion P ys → AllByRecursion P (placed R x ys)
each_placed R P x [] here all = (here, tt)
each_placed {X} R P x (y ∷ ys) here all = go (R x y) (each_placed R P x ys here all.1)
  where
    go : (o : Ordering) → AllByRecursion P (placed R x ys) → AllByRecursion P (at_first R x y ys o)
    go Less rest = (here, all)
    go Equal rest = all
    go Greater rest = (all.0, rest)

pub each_ranked : {X : Type 0} (R : X → X → Ordering) (P : X → Type 0) (xs : List X) → AllByRecursion P xs → AllByRecursion P (ranked R xs)
each_ranked R P [] all = tt
each_ranked R P (x ∷ xs) all = each_placed R P x (ranked R xs) all.0 (each_ranked R P xs all.1)

sorted_placed : {X : Type 0} (R : X → X → Ordering) (total : IsTotalOrder R) (x : X) (ys : List X) → IsStrictlySortedBy R ys → IsStrictlySortedBy R (placed R x ys)
unfolding IsStrictlySortedBy
sorted_placed R total x [] up = (tt, tt)
sorted_placed {X} R total x (y ∷ ys) up = go (R x y) refl (sorted_placed R total x ys up.1)
  where
    go : (o : Ordering) → R x y ≡ o → IsStrictlySortedBy R (placed R x ys) → IsStrictlySortedBy R (at_first R x y ys o)
    go Less e rest = ((e, each_implied (λ z. R y z ≡ Less) (λ z. R x z ≡ Less) (λ z h. total.trans x y z e h) ys up.0), up)
    go Equal e rest = up
    go Greater e rest = (each_placed R (λ z. R y z ≡ Less) x ys (total.antisymm y x ∙ ap ordering_reverse e) up.0, rest)

pub sorted_ranked : {X : Type 0} (R : X → X → Ordering) (total : IsTotalOrder R) (xs : List X) → IsStrictlySortedBy R (ranked R xs)
unfolding IsStrictlySortedBy
sorted_ranked R total [] = tt
sorted_ranked R total (x ∷ xs) = sorted_placed R total x (ranked R xs) (sorted_ranked R total xs)

-- an element, or one that is tied with it
abbrev pub HasTied : {X : Type 0} → (X → X → Ordering) → List X → X → Type 0
HasTied {X} R ys x = (y : X) × Has ys y × (R x y ≡ Equal)

behind : {X : Type 0} (R : X → X → Ordering) (y : X) (ys : List X) (x : X) → HasTied R ys x → HasTied R (y ∷ ys) x
behind R y ys x has = (has.0, inr has.1, has.2)

placed_has : {X : Type 0} (R : X → X → Ordering) (total : IsTotalOrder R) (x : X) (ys : List X) → HasTied R (placed R x ys) x
placed_has R total x [] = (x, inl refl, tied_itself total x)
placed_has {X} R total x (y ∷ ys) = go (R x y) refl (placed_has R total x ys)
  where
    go : (o : Ordering) → R x y ≡ o → HasTied R (placed R x ys) x → HasTied R (at_first R x y ys o) x
    go Less e rest = (x, inl refl, tied_itself total x)
    go Equal e rest = (y, inl refl, e)
    go Greater e rest = behind R y (placed R x ys) x rest

placed_keeps : {X : Type 0} (R : X → X → Ordering) (x : X) (ys : List X) (z : X) → HasTied R ys z → HasTied R (placed R x ys) z
placed_keeps R x [] z has = absurd has.1
placed_keeps {X} R x (y ∷ ys) z has = go (R x y) has.1 (λ at. placed_keeps R x ys z (has.0, at, has.2))
  where
    go : (o : Ordering) → (y ≡ has.0) ⊎ Has ys has.0 → (Has ys has.0 → HasTied R (placed R x ys) z) → HasTied R (at_first R x y ys o) z
    go Less at later = (has.0, inr at, has.2)
    go Equal at later = (has.0, at, has.2)
    go Greater (inl e) later = (has.0, inl e, has.2)
    go Greater (inr at) later = behind R y (placed R x ys) z (later at)

pub ranked_has : {X : Type 0} (R : X → X → Ordering) (total : IsTotalOrder R) (xs : List X) (x : X) → Has xs x → HasTied R (ranked R xs) x
ranked_has R total [] x has = absurd has
ranked_has {X} R total (y ∷ xs) x (inl e) = subst (HasTied R (placed R y (ranked R xs))) e (placed_has R total y (ranked R xs))
ranked_has R total (y ∷ xs) x (inr has) = placed_keeps R y (ranked R xs) x (ranked_has R total xs x has)
