-- Ranked rows, of each text whose row has a block.
use Rattle.std.proofs.Common.{◌≡◌, ℕ, zero, suc, ◌+◌, ◌<◌, ◌≤◌, ◌==◌, Bool, true, false, cond, List, ◌∷◌, map, sym, ap, arith}
use Rattle.std.specs.Prelude.{nat_lt}
use Rattle.std.specs.List.{AllByRecursion, range_with_len}
use Rattle.std.specs.List.Sorted.{IsStrictlySortedBy}
use Rattle.std.specs.Ordering.{nat_cmp, ordering_then}
use Rattle.std.specs.declared.cmp.Ordering.{Ordering}
use Rattle.std.specs.declared.cmp.Ordering.TheVariants.{Less, Equal, Greater}
use Rattle.std.proofs.lemmas.Bool.{lt-ltb, ltb-true}
use Rattle.leak_lemmas.proofs.Orders.{second_tied}
use Rattle.leak_lemmas.proofs.Members.{Has, Has-filter, Has-map, each_filtered, each_implied, each_mapped}
use Rattle.leak_holders.specs.declared.holder.Holder.{Holder}
use Rattle.leak_holders.specs.Holders.{rank, ranked, with_blocks}
use Rattle.leak_holders.proofs.Ranks.{AllDiffer, Differ, Has-ranked, each_ranked, sorted_ranked}
use Rattle.leak_alike.proofs.Ranges.{range_each}
use Rattle.leak_laws.proofs.Ranges.{in_range}

-- numbers that are tied are the same
tied_numbers : (m n : ℕ) → nat_cmp m n ≡ Equal → m < n → ⊥
tied_numbers m n e lt =
    let less : nat_cmp m n ≡ Less = ap (λ (b : Bool). cond b Less (cond (m == n) Equal Greater)) (lt-ltb m n lt) in
    cc

module _ (row : ℕ → Holder) (named : (t : ℕ) → (row t).text ≡ t) (texts : ℕ) where
  abbrev all : ℕ → ℕ → List Holder
  all a n = map row (range_with_len a n)

  abbrev pub ranked_rows : List Holder
  ranked_rows = ranked (with_blocks (all 0 texts))

  pub row_in : (t : ℕ) → t < texts → 0 < (row t).blocks → Has ranked_rows (row t)
  row_in t low some =
      Has-ranked (with_blocks (all 0 texts)) (row t)
      (Has-filter (λ r. nat_lt 0 r.blocks) (all 0 texts) (row t) (Has-map row (range_with_len 0 texts) t (in_range 0 texts t (omega arith) (omega (arith, low)))) (lt-ltb 0 (row t).blocks some))

  -- the row of a text, with a block
  pub record IsRow (r : Holder) : Type 0 where
    pub low : r.text < texts
    pub is : r ≡ row r.text
    pub some : 0 < r.blocks

  pub rows_each : AllByRecursion IsRow ranked_rows
  rows_each =
      let Own : Holder → Type 0 = λ r. (r.text < texts) × (r ≡ row r.text) in
      each_ranked IsRow (with_blocks (all 0 texts))
      (each_implied (λ r. Own r × (nat_lt 0 r.blocks ≡ true)) IsRow (λ r h. record { low = h.0.0; is = h.0.1; some = ltb-true 0 r.blocks h.1 }) (with_blocks (all 0 texts))
      (each_filtered (λ r. nat_lt 0 r.blocks) Own (all 0 texts)
      (each_mapped row Own (range_with_len 0 texts) (range_each (λ t. Own (row t)) 0 texts (λ t l h. (omega (arith, h, named t), ap row (sym (named t))))))))

  rows_differ : (a n : ℕ) → AllDiffer (with_blocks (all a n))
  rows_differ a zero = tt
  rows_differ a (suc n) = go (nat_lt 0 (row a).blocks) (rows_differ (a + 1) n)
    where
      others : AllByRecursion (Differ (row a)) (with_blocks (all (a + 1) n))
      others =
          each_implied (λ s. (a + 1 ≤ s.text) × (nat_lt 0 s.blocks ≡ true)) (Differ (row a))
          (λ s h e. tied_numbers (row a).text s.text (second_tied _ (nat_cmp (row a).text s.text) e) (omega (arith, h.0, named a))) (with_blocks (all (a + 1) n))
          (each_filtered (λ s. nat_lt 0 s.blocks) (λ s. a + 1 ≤ s.text) (all (a + 1) n)
          (each_mapped row (λ s. a + 1 ≤ s.text) (range_with_len (a + 1) n) (range_each (λ t. a + 1 ≤ (row t).text) (a + 1) n (λ t l h. omega (arith, l, named t)))))

      go : (t : Bool) → AllDiffer (with_blocks (all (a + 1) n)) → AllDiffer (cond t (row a ∷ with_blocks (all (a + 1) n)) (with_blocks (all (a + 1) n)))
      go true rest = (others, rest)
      go false rest = rest

  pub rows_sorted : IsStrictlySortedBy rank ranked_rows
  rows_sorted = sorted_ranked (with_blocks (all 0 texts)) (rows_differ 0 texts)
