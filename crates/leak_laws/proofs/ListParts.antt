-- Elements of lists, of parts of them, and of what passes a test.
use Rattle.std.proofs.Common.{◌≡◌, inl, inr, Bool, true, cond, List, [], ◌∷◌, ◌++◌, length, filter, refl, ap, ◌∙◌, arith}
use Rattle.std.specs.List.{AllByRecursion}
use Rattle.leak_blocks.specs.declared.block.Block.{Block}
use Rattle.leak_blocks.specs.Laws.{IsIn}
use Rattle.leak_lemmas.proofs.Members.{Has}

pub both_front : {X : Type 0} (xs ys : List X) (x : X) → Has xs x → Has (xs ++ ys) x
both_front [] ys x has = absurd has
both_front (z ∷ xs) ys x (inl e) = inl e
both_front (z ∷ xs) ys x (inr has) = inr (both_front xs ys x has)

pub both_back : {X : Type 0} (xs ys : List X) (x : X) → Has ys x → Has (xs ++ ys) x
both_back [] ys x has = has
both_back (z ∷ xs) ys x has = inr (both_back xs ys x has)

pub all_pass : {X : Type 0} (p : X → Bool) (xs : List X) → AllByRecursion (λ x. p x ≡ true) xs → filter p xs ≡ xs
all_pass p [] all = refl
all_pass {X} p (x ∷ xs) all = ap (λ (b : Bool). cond b (x ∷ filter p xs) (filter p xs)) all.0 ∙ ap (λ (ys : List X). x ∷ ys) (all_pass p xs all.1)

pub is_in : (bs : List Block) (b : Block) → Has bs b → IsIn b bs
is_in [] b has = has
is_in (c ∷ bs) b (inl e) = inl e
is_in (c ∷ bs) b (inr has) = inr (is_in bs b has)

pub has_in : (bs : List Block) (b : Block) → IsIn b bs → Has bs b
has_in [] b is = is
has_in (c ∷ bs) b (inl e) = inl e
has_in (c ∷ bs) b (inr is) = inr (has_in bs b is)

pub none_has : {X : Type 0} (xs : List X) (x : X) → length xs ≡ 0 → Has xs x → ⊥
none_has [] x n has = has
none_has (y ∷ ys) x n has = omega (arith, n)
