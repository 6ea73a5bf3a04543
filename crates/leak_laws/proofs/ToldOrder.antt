-- Ranked rows are told in order, and no text twice.
use Rattle.std.proofs.Common.{◌≡◌, ℕ, ◌<◌, ◌==◌, Bool, true, false, cond, List, [], ◌∷◌, length, map, bytes_eq, refl, sym, ap, subst, ◌∙◌}
use Rattle.std.specs.Prelude.{nat_lt}
use Rattle.std.specs.List.{AllByRecursion}
use Rattle.std.specs.List.Sorted.{IsStrictlySortedBy}
use Rattle.std.specs.Cmp.Lexicographic.{slice_cmp}
use Rattle.std.specs.Ordering.{nat_cmp, ordering_then}
use Rattle.std.specs.declared.cmp.Ordering.{Ordering}
use Rattle.std.specs.declared.cmp.Ordering.TheVariants.{Less, Equal, Greater}
use Rattle.std.proofs.lemmas.Bool.{false_from_ne_true, ltb-true}
use Rattle.std.proofs.lemmas.Cmp.{tied_itself}
use Rattle.std.proofs.lemmas.Map.Keys.{Less-from_sorted}
use Rattle.std.proofs.lemmas.Slice.Eq.{bytes_eq-Decides}
use Rattle.leak_growth.proofs.SumLemmas.{one_place}
use Rattle.leak_blocks.specs.declared.block.Block.{Block}
use Rattle.leak_lemmas.proofs.Members.{each_mapped}
use Rattle.leak_report.specs.Numbered.{text_with}
use Rattle.leak_holders.specs.declared.holder.Holder.{Holder}
use Rattle.leak_holders.specs.Holders.{rank}
use Rattle.leak_holders.proofs.Ranks.{rank_total}
use Rattle.leak_laws.specs.HeldTogether.{DifferInHolder, rank_holder}
use Rattle.leak_laws.specs.ToldHolders.{told_holder}
use Rattle.leak_laws.proofs.RowOrder.{IsRow}

then_less : (o x y : Ordering) → ordering_then o x ≡ Less → (x ≡ Less → y ≡ Less) → ordering_then o y ≡ Less
then_less Less x y e h = refl
then_less Equal x y e h = h e
then_less Greater x y e h = cc

pub less_is : (m n : ℕ) → nat_cmp m n ≡ Less → m < n
less_is m n e = go (nat_lt m n) refl e
  where
    go : (b : Bool) → nat_lt m n ≡ b → cond b Less (cond (m == n) Equal Greater) ≡ Less → m < n
    go true is e = ltb-true m n is
    go false is e = absurd (other (m == n) e)
      where
        other : (b : Bool) → cond b Equal Greater ≡ Less → ⊥
        other true e = cc
        other false e = cc

module _ (blocks : List Block) (texts : List (List ℕ)) (up : IsStrictlySortedBy (slice_cmp nat_cmp) texts) (row : ℕ → Holder) (named : (t : ℕ) → (row t).text ≡ t) where
  abbrev Row : Holder → Type 0
  Row r = IsRow row named (length texts) r

  pub told_sorted : (rows : List Holder) → AllByRecursion Row rows → IsStrictlySortedBy rank rows → IsStrictlySortedBy rank_holder (map (told_holder blocks texts) rows)
  unfolding IsStrictlySortedBy
  told_sorted [] each sorted = tt
  told_sorted (r ∷ rows) each sorted =
      (each_mapped (told_holder blocks texts) (λ k. rank_holder (told_holder blocks texts r) k ≡ Less) rows (over rows each.1 sorted.0), told_sorted rows each.1 sorted.1)
    where
      over : (ss : List Holder) → AllByRecursion Row ss → AllByRecursion (λ s. rank r s ≡ Less) ss → AllByRecursion (λ s. rank_holder (told_holder blocks texts r) (told_holder blocks texts s) ≡ Less) ss
      over [] in_texts less = tt
      over (s ∷ ss) in_texts less = (
        then_less (nat_cmp s.bytes r.bytes) (nat_cmp r.text s.text) (slice_cmp nat_cmp (text_with texts r.text) (text_with texts s.text)) less.0
            (λ e. Less-from_sorted (slice_cmp nat_cmp) texts r.text s.text [] up (less_is r.text s.text e) in_texts.0.low),
        over ss in_texts.1 less.1,
      )

  pub told_differ : (rows : List Holder) → AllByRecursion Row rows → IsStrictlySortedBy rank rows → DifferInHolder (map (told_holder blocks texts) rows)
  unfolding IsStrictlySortedBy
  told_differ [] each sorted = tt
  told_differ (r ∷ rows) each sorted =
      (each_mapped (told_holder blocks texts) (λ k. bytes_eq (text_with texts r.text) k.text ≡ false) rows (others rows each.1 sorted.0), told_differ rows each.1 sorted.1)
    where
      others : (ss : List Holder) → AllByRecursion Row ss → AllByRecursion (λ s. rank r s ≡ Less) ss → AllByRecursion (λ s. bytes_eq (text_with texts r.text) (text_with texts s.text) ≡ false) ss
      others [] inside less = tt
      others (s ∷ ss) inside less = (false_from_ne_true (bytes_eq (text_with texts r.text) (text_with texts s.text)) alike, others ss inside.1 less.1)
        where
          alike : bytes_eq (text_with texts r.text) (text_with texts s.text) ≡ true → ⊥
          alike same =
              let e : text_with texts r.text ≡ text_with texts s.text = (bytes_eq-Decides (text_with texts r.text) (text_with texts s.text)).0 same in
              let t : r.text ≡ s.text = one_place texts r.text s.text up each.0.low inside.0.low e in
              let one : r ≡ s = each.0.is ∙ ap row t ∙ sym inside.0.is in
              let tied : rank r s ≡ Equal = subst (λ (z : Holder). rank r z ≡ Equal) one (tied_itself rank_total r) in
              let lower : rank r s ≡ Less = less.0 in
              cc
