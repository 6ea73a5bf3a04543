-- Segments that are sorted at once are those put in place one after another.
use Rattle.std.proofs.Common.{◌≡◌, ℕ, suc, ◌<◌, ◌≤◌, Bool, true, false, cond, ltb, eqb, List, [], ◌∷◌, ◌++◌, length, get_or, filter, drop, refl, sym, ap, ◌∙◌, subst, append_assoc, inl, inr, arith}
use Rattle.std.specs.List.Sorted.{ties}
use Rattle.std.specs.Ordering.{is_lt, nat_cmp}
use Rattle.std.specs.declared.cmp.Ordering.TheVariants.{Equal, Greater}
use Rattle.std.proofs.lemmas.Bool.{lt-ltb, le-ltb, ltb-true, cases_order}
use Rattle.std.proofs.lemmas.List.{append-nil}
use Rattle.leak_elf.specs.declared.segment.Segment.{Segment}
use Rattle.leak_elf.specs.Segments.{by_address, ascending, IsAscending}
use Rattle.leak_elf.proofs.Kept.{insert_ascends}
use Rattle.leak_elf.proofs.Accepted.{place}

abbrev empty : Segment
empty = record { vaddr = 0; memsz = 0; offset = 0; filesz = 0; writable = false }

-- two segments begin at one address
abbrev pub tie : Segment → Segment → Bool
tie x y = ties (λ s t. is_lt (nat_cmp s.vaddr t.vaddr)) x y

less : (a b : ℕ) → a < b → is_lt (nat_cmp a b) ≡ true
less a b h = rw (lt-ltb a b h) refl

not_less : (a b : ℕ) → b ≤ a → is_lt (nat_cmp a b) ≡ false
not_less a b h = rw (le-ltb a b h) (elim (eqb a b) as (λ v. is_lt (cond v Equal Greater) ≡ false) [ true ↦ refl | false ↦ refl ])

tie_same : (x y : Segment) → x.vaddr ≡ y.vaddr → tie x y ≡ true
tie_same x y e = rw (not_less x.vaddr y.vaddr (omega arith), not_less y.vaddr x.vaddr (omega arith)) refl

tie_below : (x y : Segment) → x.vaddr < y.vaddr → tie x y ≡ false
tie_below x y h = rw (less x.vaddr y.vaddr h) refl

tie_above : (x y : Segment) → y.vaddr < x.vaddr → tie x y ≡ false
tie_above x y h = rw (not_less x.vaddr y.vaddr (omega arith), less y.vaddr x.vaddr h) refl

tie_equal : (x y : Segment) → tie x y ≡ true → x.vaddr ≡ y.vaddr
tie_equal x y t =
    elim (cases_order x.vaddr y.vaddr) [
      | inl e ↦ e
      | inr o ↦ elim o [
        | inl l ↦ let f = tie_below x y l in absurd cc
        | inr l ↦ let f = tie_above x y l in absurd cc
      ]
    ]

pub rest_ascends : (x : Segment) (xs : List Segment) → IsAscending (x ∷ xs) → IsAscending xs
rest_ascends x xs up j k d le lt = up (suc j) (suc k) d (omega arith) (omega arith)

no_tie : (x : Segment) (xs : List Segment) → ((k : ℕ) → k < length xs → x.vaddr < (get_or xs k empty).vaddr) → filter (tie x) xs ≡ []
no_tie x [] h = refl
no_tie x (y ∷ ys) h = rw (tie_below x y (h 0 (omega arith)), no_tie x ys (λ k l. h (suc k) (omega arith))) refl

-- nothing from a segment on begins at a lower address
no_tie_from : (x y : Segment) (ys : List Segment) → IsAscending (y ∷ ys) → x.vaddr < y.vaddr → filter (tie x) (y ∷ ys) ≡ []
no_tie_from x y ys up h = no_tie x (y ∷ ys) (λ k l. let r = up 0 k empty (omega arith) l in omega arith)

cons_head : (a b : Segment) (xs ys : List Segment) → a ∷ xs ≡ b ∷ ys → a ≡ b
cons_head a b xs ys e = ap (λ (l : List Segment). get_or l 0 a) e

cons_tail : (a b : Segment) (xs ys : List Segment) → a ∷ xs ≡ b ∷ ys → xs ≡ ys
cons_tail a b xs ys e = ap (λ (l : List Segment). drop 1 l) e

same_rest : (a : Segment) (t : Bool) (xs ys : List Segment) → cond t (a ∷ xs) xs ≡ cond t (a ∷ ys) ys → xs ≡ ys
same_rest a true xs ys e = cons_tail a a xs ys e
same_rest a false xs ys e = e

not_nil : (a : Segment) (xs : List Segment) → [] ≡ a ∷ xs → ⊥
not_nil a xs e = absurd cc

-- a list by ascending address is known by the segments at each address
same : (xs ys : List Segment) → IsAscending xs → IsAscending ys → ((x : Segment) → filter (tie x) xs ≡ filter (tie x) ys) → xs ≡ ys
same [] [] u v h = refl
same [] (b ∷ bs) u v h = let at_b = h b in let e : [] ≡ b ∷ filter (tie b) bs = rw (tie_same b b refl) at at_b in absurd (not_nil b _ e)
same (a ∷ as') [] u v h = let at_a = h a in let e : a ∷ filter (tie a) as' ≡ [] = rw (tie_same a a refl) at at_a in absurd (not_nil a _ (sym e))
same (a ∷ as') (b ∷ bs) u v h =
    let at_a = h a in
    let at_b = h b in
    elim (cases_order a.vaddr b.vaddr) [
      | inl e ↦
          let heads : a ∷ filter (tie a) as' ≡ b ∷ filter (tie a) bs = rw (tie_same a a refl, tie_same a b e) at at_a in
          let one : a ≡ b = cons_head a b _ _ heads in
          let rest : (x : Segment) → filter (tie x) as' ≡ filter (tie x) bs =
          λ x. same_rest a (tie x a) _ _ (subst (λ (y : Segment). cond (tie x a) (a ∷ filter (tie x) as') (filter (tie x) as') ≡ cond (tie x y) (y ∷ filter (tie x) bs) (filter (tie x) bs)) (sym one) (h x)) in
          ap (λ (y : Segment). y ∷ as') one ∙ ap (λ (l : List Segment). b ∷ l) (same as' bs (rest_ascends a as' u) (rest_ascends b bs v) rest)
      | inr o ↦ elim o [
        | inl l ↦
            let e : a ∷ filter (tie a) as' ≡ filter (tie a) (b ∷ bs) = rw (tie_same a a refl) at at_a in
            absurd (not_nil a _ (sym (no_tie_from a b bs v l) ∙ sym e))
        | inr l ↦
            let e : filter (tie b) (a ∷ as') ≡ b ∷ filter (tie b) bs = rw (tie_same b b refl) at at_b in
            absurd (not_nil b _ (sym (no_tie_from b a as' u l) ∙ e))
      ]
    ]

-- a segment comes after those that begin where it does
first_ties : (x s t : Segment) (ts : List Segment) (b : Bool) → IsAscending (t ∷ ts) → s.vaddr < t.vaddr → tie x s ≡ b → filter (tie x) (s ∷ t ∷ ts) ≡ filter (tie x) (t ∷ ts) ++ filter (tie x) (s ∷ [])
first_ties x s t ts true up l e =
    let same_place = tie_equal x s e in
    rw (no_tie_from x t ts up (omega arith), e) refl
first_ties x s t ts false up l e = rw e (sym (append-nil (filter (tie x) (t ∷ ts))))

tie_by : (x s t : Segment) (ts : List Segment) (b : Bool) → ltb s.vaddr t.vaddr ≡ b → IsAscending (t ∷ ts) → filter (tie x) (by_address s ts) ≡ filter (tie x) ts ++ filter (tie x) (s ∷ [])
    → filter (tie x) (by_address s (t ∷ ts)) ≡ filter (tie x) (t ∷ ts) ++ filter (tie x) (s ∷ [])
tie_by x s t ts true e up ih = rw e (first_ties x s t ts (tie x s) up (ltb-true _ _ e) refl)
tie_by x s t ts false e up ih =
    rw (e, ih) (elim (tie x t) as (λ v. cond v (t ∷ (filter (tie x) ts ++ filter (tie x) (s ∷ []))) (filter (tie x) ts ++ filter (tie x) (s ∷ [])) ≡ cond v (t ∷ filter (tie x) ts) (filter (tie x) ts) ++ filter (tie x) (s ∷ [])) [ true ↦ refl | false ↦ refl ])

tie_by_address : (x s : Segment) (xs : List Segment) → IsAscending xs → filter (tie x) (by_address s xs) ≡ filter (tie x) xs ++ filter (tie x) (s ∷ [])
tie_by_address x s [] up = refl
tie_by_address x s (t ∷ ts) up = tie_by x s t ts (ltb s.vaddr t.vaddr) refl up (tie_by_address x s ts (rest_ascends t ts up))

by_ascends : (s : Segment) (xs : List Segment) → IsAscending xs → IsAscending (by_address s xs)
by_ascends s xs up =
    let p = place s xs in
    subst IsAscending (sym p.is) (insert_ascends s xs p.at up p.bound p.within (λ k d a l. let b = p.beyond d (omega arith) in let r = up p.at k d a l in omega arith))

pub ascending_ascends : (acc xs : List Segment) → IsAscending acc → IsAscending (ascending acc xs)
ascending_ascends acc [] up = up
ascending_ascends acc (s ∷ ss) up = ascending_ascends (by_address s acc) ss (by_ascends s acc up)

tie_ascending : (x : Segment) (acc xs : List Segment) → IsAscending acc → filter (tie x) (ascending acc xs) ≡ filter (tie x) acc ++ filter (tie x) xs
tie_ascending x acc [] up = sym (append-nil (filter (tie x) acc))
tie_ascending x acc (s ∷ ss) up =
    tie_ascending x (by_address s acc) ss (by_ascends s acc up)
    ∙ ap (λ (l : List Segment). l ++ filter (tie x) ss) (tie_by_address x s acc up)
    ∙ append_assoc (filter (tie x) acc) (filter (tie x) (s ∷ [])) (filter (tie x) ss)
    ∙ ap (λ (l : List Segment). filter (tie x) acc ++ l) (elim (tie x s) as (λ v. cond v (s ∷ []) [] ++ filter (tie x) ss ≡ cond v (s ∷ filter (tie x) ss) (filter (tie x) ss)) [ true ↦ refl | false ↦ refl ])

pub nil_ascends : IsAscending []
nil_ascends j k d le lt = absurd (omega arith)

-- a stable sort by address
pub sorted_is : (xs ys : List Segment) → IsAscending ys → ((x : Segment) → filter (tie x) ys ≡ filter (tie x) xs) → ys ≡ ascending [] xs
sorted_is xs ys up h = same ys (ascending [] xs) up (ascending_ascends [] xs nil_ascends) (λ x. h x ∙ sym (tie_ascending x [] xs nil_ascends))
