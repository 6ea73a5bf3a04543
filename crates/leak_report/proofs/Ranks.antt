-- Rows put in order one by one.
use Rattle.std.proofs.Common.{◌≡◌, ℕ, Bool, true, false, cond, List, [], ◌∷◌, inl, inr, refl, ap, subst, ◌∙◌}
use Rattle.std.specs.List.{AllByRecursion}
use Rattle.std.specs.List.Sorted.{IsStrictlySortedBy}
use Rattle.std.specs.Cmp.{IsTotalOrder}
use Rattle.std.specs.declared.cmp.Ordering.TheVariants.{Less, Equal}
use Rattle.std.specs.Ordering.{is_lt, ordering_reverse}
use Rattle.std.proofs.lemmas.Cmp.{then_total, on_total, back_total, nat_cmp_total, nat_list_cmp_total}
use Rattle.leak_lemmas.proofs.Orders.{first, not_first}
use Rattle.leak_report.specs.declared.totals.CallerRow.{CallerRow}
use Rattle.leak_report.specs.Totals.{text_at, rank, placed, ranked}
use Rattle.leak_lemmas.proofs.Members.{Has, each_implied}

pub rank_total : (log : List ℕ) → IsTotalOrder (rank log)
rank_total log = then_total (back_total (on_total (λ (r : CallerRow). r.bytes) nat_cmp_total)) (on_total (λ (r : CallerRow). text_at log r.caller) nat_list_cmp_total)

each_placed : (P : CallerRow → Type 0) (log : List ℕ) (r : CallerRow) (rows : List CallerRow) → P r → AllByRecursion P rows → AllByRecursion P (placed log r rows)
each_placed P log r [] here all = (here, tt)
each_placed P log r (s ∷ rows) here all =
    elim (is_lt (rank log r s)) as (λ t. AllByRecursion P (cond t (r ∷ s ∷ rows) (s ∷ placed log r rows)))
    [ true ↦ (here, all) | false ↦ (all.0, each_placed P log r rows here all.1) ]

Has-placed : (log : List ℕ) (r : CallerRow) (rows : List CallerRow) → Has (placed log r rows) r
Has-placed log r [] = inl refl
Has-placed log r (s ∷ rows) =
    elim (is_lt (rank log r s)) as (λ t. Has (cond t (r ∷ s ∷ rows) (s ∷ placed log r rows)) r) [ true ↦ inl refl | false ↦ inr (Has-placed log r rows) ]

Has-placed_other : (log : List ℕ) (r : CallerRow) (rows : List CallerRow) (x : CallerRow) → Has rows x → Has (placed log r rows) x
Has-placed_other log r [] x has = absurd has
Has-placed_other log r (s ∷ rows) x (inl e) =
    elim (is_lt (rank log r s)) as (λ t. Has (cond t (r ∷ s ∷ rows) (s ∷ placed log r rows)) x) [ true ↦ inr (inl e) | false ↦ inl e ]
Has-placed_other log r (s ∷ rows) x (inr has) =
    elim (is_lt (rank log r s)) as (λ t. Has (cond t (r ∷ s ∷ rows) (s ∷ placed log r rows)) x) [ true ↦ inr (inr has) | false ↦ inr (Has-placed_other log r rows x has) ]

pub each_ranked : (P : CallerRow → Type 0) (log : List ℕ) (rows : List CallerRow) → AllByRecursion P rows → AllByRecursion P (ranked log rows)
each_ranked P log [] all = tt
each_ranked P log (r ∷ rows) all = each_placed P log r (ranked log rows) all.0 (each_ranked P log rows all.1)

pub Has-ranked : (log : List ℕ) (rows : List CallerRow) (x : CallerRow) → Has rows x → Has (ranked log rows) x
Has-ranked log [] x has = has
Has-ranked log (r ∷ rows) x (inl e) = subst (λ y. Has (placed log r (ranked log rows)) y) e (Has-placed log r (ranked log rows))
Has-ranked log (r ∷ rows) x (inr has) = Has-placed_other log r (ranked log rows) x (Has-ranked log rows x has)

-- two rows of different rank
abbrev pub Differ : List ℕ → CallerRow → CallerRow → Type 0
Differ log r s = rank log r s ≡ Equal → ⊥

abbrev pub AllDiffer : List ℕ → List CallerRow → Type 0
AllDiffer log [] = Unit {0}
AllDiffer log (r ∷ rows) = AllByRecursion (Differ log r) rows × AllDiffer log rows

sorted_placed : (log : List ℕ) (r : CallerRow) (rows : List CallerRow) → IsStrictlySortedBy (rank log) rows → AllByRecursion (Differ log r) rows
    → IsStrictlySortedBy (rank log) (placed log r rows)
unfolding IsStrictlySortedBy
sorted_placed log r [] up differ = (tt, tt)
sorted_placed log r (s ∷ rows) up differ = go (is_lt (rank log r s)) refl (sorted_placed log r rows up.1 differ.1)
  where
    go : (t : Bool) → is_lt (rank log r s) ≡ t → IsStrictlySortedBy (rank log) (placed log r rows) → IsStrictlySortedBy (rank log) (cond t (r ∷ s ∷ rows) (s ∷ placed log r rows))
    go true e rest =
        let before : rank log r s ≡ Less = first (rank log r s) e in
        ((before, each_implied (λ z. rank log s z ≡ Less) (λ z. rank log r z ≡ Less) (λ z h. (rank_total log).trans r s z before h) rows up.0), up)
    go false e rest =
        let after : rank log s r ≡ Less = (rank_total log).antisymm s r ∙ ap ordering_reverse (not_first (rank log r s) e differ.0) in
        (each_placed (λ z. rank log s z ≡ Less) log r rows after up.0, rest)

pub sorted_ranked : (log : List ℕ) (rows : List CallerRow) → AllDiffer log rows → IsStrictlySortedBy (rank log) (ranked log rows)
unfolding IsStrictlySortedBy
sorted_ranked log [] differ = tt
sorted_ranked log (r ∷ rows) differ =
    sorted_placed log r (ranked log rows) (sorted_ranked log rows differ.1) (each_ranked (Differ log r) log rows differ.0)
