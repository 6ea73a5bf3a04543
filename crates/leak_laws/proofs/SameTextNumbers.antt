-- The texts of given blocks, and the numbers of these, are one: the texts are in strict order.
use Rattle.std.proofs.Common.{◌≡◌, ℕ, zero, suc, ◌<◌, ◌⊎◌, inl, inr, ⊎_elim, List, [], ◌∷◌, length, map, get_or, refl, sym, ap, subst, ◌∙◌, arith}
use Rattle.std.specs.List.{AllByRecursion, Contains}
use Rattle.std.specs.List.Sorted.{IsStrictlySortedBy}
use Rattle.std.specs.Cmp.Lexicographic.{slice_cmp}
use Rattle.std.specs.Ordering.{nat_cmp}
use Rattle.std.specs.declared.cmp.Ordering.TheVariants.{Less, Equal}
use Rattle.std.proofs.lemmas.Bool.{cases_order}
use Rattle.std.proofs.lemmas.Cmp.{nat_list_cmp_total, tied_itself}
use Rattle.std.proofs.lemmas.List.{get_or-map, length-map}
use Rattle.std.proofs.lemmas.Map.Keys.{Less-from_sorted}
use Rattle.leak_growth.proofs.SumLemmas.{one_place}
use Rattle.leak_lemmas.proofs.Members.{Has, each_from_All, each_implied, same_elements}
use Rattle.leak_report.specs.Numbered.{AreNumbered, text_with}

has_at : {X : Type 0} (xs : List X) (n : ℕ) (d : X) → n < length xs → Has xs (get_or xs n d)
has_at [] n d low = absurd (omega arith)
has_at (x ∷ xs) zero d low = inl refl
has_at (x ∷ xs) (suc n) d low = inr (has_at xs n d (omega arith))

within : (given texts others : List (List ℕ)) (numbers more : List ℕ) → AreNumbered given texts numbers → AreNumbered given others more → AllByRecursion (Has others) texts
within given texts others numbers more p q = each_implied (Contains given) (Has others) moved texts (each_from_All (Contains given) texts p.each)
  where
    moved : (t : List ℕ) → Contains given t → Has others t
    moved t there =
        let k : ℕ = there.0 in
        let long : length more ≡ length given = sym (length-map more (text_with others)) ∙ ap length q.same in
        let low : k < length more = omega (arith, long, there.1) in
        let is : text_with others (get_or more k 0) ≡ t = sym (get_or-map (text_with others) more k 0 t low) ∙ ap (λ (ts : List (List ℕ)). get_or ts k t) q.same ∙ there.2 in
        subst (Has others) is (has_at others (get_or more k 0) [] (q.below k 0 low))

pub texts_are_one : (given texts others : List (List ℕ)) (numbers more : List ℕ) → AreNumbered given texts numbers → AreNumbered given others more → texts ≡ others
texts_are_one given texts others numbers more p q =
    same_elements (slice_cmp nat_cmp) nat_list_cmp_total texts others p.ascending q.ascending (within given texts others numbers more p q) (within given others texts more numbers q p)

numbers_same : (texts : List (List ℕ)) (xs ys : List ℕ) → IsStrictlySortedBy (slice_cmp nat_cmp) texts → AllByRecursion (λ n. n < length texts) xs → AllByRecursion (λ n. n < length texts) ys
    → map (text_with texts) xs ≡ map (text_with texts) ys → xs ≡ ys
numbers_same texts [] [] up p q e = refl
numbers_same texts [] (y ∷ ys) up p q e = cc
numbers_same texts (x ∷ xs) [] up p q e = cc
numbers_same texts (x ∷ xs) (y ∷ ys) up p q e =
    let one : text_with texts x ≡ text_with texts y = cc in
    let more : map (text_with texts) xs ≡ map (text_with texts) ys = cc in
    let first : x ≡ y = one_place texts x y up p.0 q.0 one in
    let rest : xs ≡ ys = numbers_same texts xs ys up p.1 q.1 more in
    cc

pub numbers_are_one : (given texts : List (List ℕ)) (numbers more : List ℕ) → AreNumbered given texts numbers → AreNumbered given texts more → numbers ≡ more
numbers_are_one given texts numbers more p q =
    numbers_same texts numbers more p.ascending (each_from_All (λ n. n < length texts) numbers p.below) (each_from_All (λ n. n < length texts) more q.below) (p.same ∙ sym q.same)
