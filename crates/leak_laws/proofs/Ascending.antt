-- Blocks by ascending start: what is among others, and is as long, is the others.
use Rattle.std.proofs.Common.{◌≡◌, ◌<◌, ◌≤◌, ◌⊎◌, inl, inr, ⊎_elim, Bool, true, false, cond, List, [], ◌∷◌, length, filter, refl, sym, ap, subst, ◌∙◌, arith}
use Rattle.std.specs.Prelude.{⊤}
use Rattle.std.specs.List.{AllByRecursion}
use Rattle.leak_blocks.specs.declared.block.Block.{Block}
use Rattle.leak_blocks.specs.Span.{AreDisjoint, span_end}
use Rattle.leak_lemmas.proofs.Members.{Has, each_has, each_implied, each_filtered}

abbrev pub Ascend : List Block → Type 0
Ascend [] = ⊤
Ascend (b ∷ bs) = AllByRecursion (λ c. b.start < c.start) bs × Ascend bs

pub ascend : (bs : List Block) → AreDisjoint bs → Ascend bs
ascend [] apart = tt
ascend (b ∷ bs) apart = (each_implied (λ c. span_end b ≤ c.start) (λ c. b.start < c.start) (λ c le. omega (arith, le)) bs apart.0, ascend bs apart.1)

pub ascend_filtered : (p : Block → Bool) (bs : List Block) → Ascend bs → Ascend (filter p bs)
ascend_filtered p [] up = tt
ascend_filtered p (b ∷ bs) up = go (p b) (ascend_filtered p bs up.1)
  where
    go : (t : Bool) → Ascend (filter p bs) → Ascend (cond t (b ∷ filter p bs) (filter p bs))
    go true rest = (each_implied (λ c. (b.start < c.start) × (p c ≡ true)) (λ c. b.start < c.start) (λ c h. h.0) (filter p bs) (each_filtered p (λ c. b.start < c.start) bs up.0), rest)
    go false rest = rest

-- each block of the one list is one of the other
abbrev pub AreAmong : List Block → List Block → Type 0
AreAmong xs ys = (b : Block) → Has xs b → Has ys b

no_lower : (b : Block) (bs : List Block) → AllByRecursion (λ c. b.start < c.start) bs → Has bs b → ⊥
no_lower b bs up has = let low : b.start < b.start = each_has (λ c. b.start < c.start) bs b up has in omega arith

-- the rest is among the rest, if the first are one
rest_among : (x y : Block) (xs ys : List Block) → x ≡ y → Ascend (x ∷ xs) → AreAmong (x ∷ xs) (y ∷ ys) → AreAmong xs ys
rest_among x y xs ys e up among b has = ⊎_elim (λ (f : y ≡ b). absurd (no_lower b xs (subst (λ (z : Block). AllByRecursion (λ c. z.start < c.start) xs) (e ∙ f) up.0) has)) (λ (h : Has ys b). h) (among b (inr has))

-- all are among the rest, if the first is
all_among : (x y : Block) (xs ys : List Block) → Ascend (x ∷ xs) → Ascend (y ∷ ys) → AreAmong (x ∷ xs) (y ∷ ys) → Has ys x → AreAmong (x ∷ xs) ys
all_among x y xs ys up vp among later b (inl e) = subst (Has ys) e later
all_among x y xs ys up vp among later b (inr has) = ⊎_elim here (λ (h : Has ys b). h) (among b (inr has))
  where
    here : y ≡ b → Has ys b
    here f =
        let low : y.start < x.start = each_has (λ c. y.start < c.start) ys x vp.0 later in
        let high : x.start < b.start = each_has (λ c. x.start < c.start) xs b up.0 has in
        let same : y.start ≡ b.start = ap (λ (c : Block). c.start) f in
        absurd (omega arith)

pub no_longer : (xs ys : List Block) → Ascend xs → Ascend ys → AreAmong xs ys → length xs ≤ length ys
no_longer [] ys up vp among = omega arith
no_longer (x ∷ xs) [] up vp among = absurd (among x (inl refl))
no_longer (x ∷ xs) (y ∷ ys) up vp among =
    ⊎_elim (λ (e : y ≡ x). let le = no_longer xs ys up.1 vp.1 (rest_among x y xs ys (sym e) up among) in omega (arith, le))
    (λ (h : Has ys x). let le = no_longer (x ∷ xs) ys up vp.1 (all_among x y xs ys up vp among h) in omega (arith, le)) (among x (inl refl))

pub as_long : (xs ys : List Block) → Ascend xs → Ascend ys → AreAmong xs ys → length xs ≡ length ys → xs ≡ ys
as_long [] [] up vp among n = refl
as_long [] (y ∷ ys) up vp among n = absurd (omega (arith, n))
as_long (x ∷ xs) [] up vp among n = absurd (among x (inl refl))
as_long (x ∷ xs) (y ∷ ys) up vp among n =
    ⊎_elim (λ (e : y ≡ x). let rest : xs ≡ ys = as_long xs ys up.1 vp.1 (rest_among x y xs ys (sym e) up among) (omega (arith, n)) in let first : x ≡ y = sym e in cc)
    (λ (h : Has ys x). let le = no_longer (x ∷ xs) ys up vp.1 (all_among x y xs ys up vp among h) in absurd (omega (arith, le, n))) (among x (inl refl))

-- of two lists that are among each other
pub same_blocks : (xs ys : List Block) → Ascend xs → Ascend ys → AreAmong xs ys → AreAmong ys xs → xs ≡ ys
same_blocks xs ys up vp to from = as_long xs ys up vp to (let a = no_longer xs ys up vp to in let b = no_longer ys xs vp up from in omega (arith, a, b))

pub unfiltered : {X : Type 0} (p : X → Bool) (xs : List X) (x : X) → Has (filter p xs) x → Has xs x × (p x ≡ true)
unfiltered p [] x has = absurd has
unfiltered {X} p (y ∷ ys) x has = go (p y) refl has (unfiltered p ys x)
  where
    go : (t : Bool) → p y ≡ t → Has (cond t (y ∷ filter p ys) (filter p ys)) x → (Has (filter p ys) x → Has ys x × (p x ≡ true)) → ((y ≡ x) ⊎ Has ys x) × (p x ≡ true)
    go true is (inl e) later = (inl e, ap p (sym e) ∙ is)
    go true is (inr h) later = let r = later h in (inr r.0, r.1)
    go false is h later = let r = later h in (inr r.0, r.1)
