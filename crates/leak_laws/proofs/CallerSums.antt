-- The lines of callers: each text has one, and they add up to the leaked blocks.
use Rattle.std.proofs.Common.{◌≡◌, ℕ, inl, inr, Bool, true, false, ◌||◌, List, [], ◌∷◌, map, filter, sum_by, bytes_eq, refl, sym, ap, ◌∙◌}
use Rattle.std.specs.List.{AllByRecursion, list_any}
use Rattle.std.specs.List.Sorted.{IsStrictlySortedBy}
use Rattle.std.specs.Cmp.Lexicographic.{slice_cmp}
use Rattle.std.specs.Ordering.{nat_cmp, ordering_then}
use Rattle.std.specs.declared.cmp.Ordering.{Ordering}
use Rattle.std.specs.declared.cmp.Ordering.TheVariants.{Less, Equal}
use Rattle.std.proofs.lemmas.Bool.{false_from_ne_true}
use Rattle.std.proofs.lemmas.Cmp.{nat_cmp_total, nat_list_cmp_total, tied_itself}
use Rattle.std.proofs.lemmas.Slice.Eq.{bytes_eq-Decides}
use Rattle.leak_report.specs.declared.totals.CallerRow.{CallerRow}
use Rattle.leak_report.specs.Laws.{AreSums, HasRow, SumsUp}
use Rattle.leak_report.specs.declared.leaked.Leak.{Leak}
use Rattle.leak_report.specs.Totals.{bytes_in, rank, text_at, with_text}
use Rattle.leak_lemmas.proofs.Members.{Has, each_implied, each_mapped}
use Rattle.leak_laws.specs.Reports.{told_caller}
use Rattle.leak_laws.specs.Together.{DifferInText, rank_told}
use Rattle.leak_laws.proofs.TextSums.{AreApart, sum_map, sum_same_of, sum_texts}

pub same_rank : (log : List ℕ) (rows : List CallerRow) → IsStrictlySortedBy (rank log) rows → IsStrictlySortedBy rank_told (map (told_caller log) rows)
unfolding IsStrictlySortedBy
same_rank log [] up = tt
same_rank log (r ∷ rows) up = (each_mapped (told_caller log) (λ d. rank_told (told_caller log r) d ≡ Less) rows up.0, same_rank log rows up.1)

module _ (log : List ℕ) (leaks : List Leak) where
  -- rows of one text would have as many bytes
  others : (r : CallerRow) (rows : List CallerRow) → SumsUp log leaks r → AllByRecursion (SumsUp log leaks) rows → AllByRecursion (λ s. rank log r s ≡ Less) rows → AllByRecursion (λ s. bytes_eq (text_at log r.caller) (text_at log s.caller) ≡ false) rows
  others r [] is all up = tt
  others r (s ∷ rows) is all up = (false_from_ne_true (bytes_eq (text_at log r.caller) (text_at log s.caller)) differ, others r rows is all.1 up.1)
    where
      differ : bytes_eq (text_at log r.caller) (text_at log s.caller) ≡ true → ⊥
      differ alike =
          let e : text_at log r.caller ≡ text_at log s.caller = (bytes_eq-Decides (text_at log r.caller) (text_at log s.caller)).0 alike in
          let bytes : r.bytes ≡ s.bytes = is.bytes ∙ ap (λ (t : List ℕ). bytes_in (with_text log t leaks)) e ∙ sym all.0.bytes in
          let one : nat_cmp s.bytes r.bytes ≡ Equal = ap (λ (n : ℕ). nat_cmp s.bytes n) bytes ∙ tied_itself nat_cmp_total s.bytes in
          let two : slice_cmp nat_cmp (text_at log r.caller) (text_at log s.caller) ≡ Equal = ap (λ (t : List ℕ). slice_cmp nat_cmp t (text_at log s.caller)) e ∙ tied_itself nat_list_cmp_total (text_at log s.caller) in
          let tied : rank log r s ≡ Equal = ap (λ (o : Ordering). ordering_then o (slice_cmp nat_cmp (text_at log r.caller) (text_at log s.caller))) one ∙ two in
          let less : rank log r s ≡ Less = up.0 in
          cc

  apart : (rows : List CallerRow) → AllByRecursion (SumsUp log leaks) rows → IsStrictlySortedBy (rank log) rows → AreApart (map (λ r. text_at log r.caller) rows)
  unfolding IsStrictlySortedBy
  apart [] all up = tt
  apart (r ∷ rows) all up = (each_mapped (λ s. text_at log s.caller) (λ u. bytes_eq (text_at log r.caller) u ≡ false) rows (others r rows all.0 all.1 up.0), apart rows all.1 up.1)

  pub in_text : (rows : List CallerRow) → AllByRecursion (SumsUp log leaks) rows → IsStrictlySortedBy (rank log) rows → DifferInText (map (told_caller log) rows)
  unfolding IsStrictlySortedBy
  in_text [] all up = tt
  in_text (r ∷ rows) all up = (each_mapped (told_caller log) (λ d. bytes_eq (text_at log r.caller) d.text ≡ false) rows (others r rows all.0 all.1 up.0), in_text rows all.1 up.1)

  has_text : (rows : List CallerRow) (l : Leak) → HasRow log rows l → Has (map (λ r. text_at log r.caller) rows) (text_at log l.block.caller)
  has_text [] l has = cc
  has_text (r ∷ rows) l has = go (bytes_eq (text_at log r.caller) (text_at log l.block.caller)) refl has (has_text rows l)
    where
      go : (t : Bool) → bytes_eq (text_at log r.caller) (text_at log l.block.caller) ≡ t → (t || list_any (λ row. bytes_eq (text_at log row.caller) (text_at log l.block.caller)) rows) ≡ true
          → (HasRow log rows l → Has (map (λ r. text_at log r.caller) rows) (text_at log l.block.caller)) → Has (map (λ r. text_at log r.caller) (r ∷ rows)) (text_at log l.block.caller)
      go true is e later = inl ((bytes_eq-Decides (text_at log r.caller) (text_at log l.block.caller)).0 is)
      go false is e later = inr (later e)

  -- a number of the rows in sum
  pub in_sum : (w : Leak → ℕ) (part : CallerRow → ℕ) (rows : List CallerRow) → AreSums log leaks rows → ((r : CallerRow) → SumsUp log leaks r → part r ≡ sum_by w (with_text log (text_at log r.caller) leaks)) → sum_by part rows ≡ sum_by w leaks
  in_sum w part rows are is =
      sum_same_of (SumsUp log leaks) part (λ r. sum_by w (with_text log (text_at log r.caller) leaks)) is rows are.each
      ∙ sym (sum_map (λ (r : CallerRow). text_at log r.caller) (λ t. sum_by w (with_text log t leaks)) rows)
      ∙ sum_texts (λ l. text_at log l.block.caller) w (λ t. true) (map (λ r. text_at log r.caller) rows) leaks (apart rows are.each are.order) (yes (map (λ r. text_at log r.caller) rows))
      (each_implied (HasRow log rows) (λ l. true ≡ true → Has (map (λ r. text_at log r.caller) rows) (text_at log l.block.caller)) (λ l has e. has_text rows l has) leaks are.every)
      ∙ ap (sum_by w) (all_of leaks)
    where
      yes : (ts : List (List ℕ)) → AllByRecursion (λ t. true ≡ true) ts
      yes [] = tt
      yes (t ∷ ts) = (refl, yes ts)

      all_of : (ls : List Leak) → filter (λ l. true) ls ≡ ls
      all_of [] = refl
      all_of (l ∷ ls) = ap (λ (ms : List Leak). l ∷ ms) (all_of ls)
