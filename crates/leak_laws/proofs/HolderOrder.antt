-- Lines of holders are in order: more bytes first, and of those with as many the text that comes first.
use Rattle.std.proofs.Common.{ℕ, List, length, Option, refl, sym, subst, ◌∙◌}
use Rattle.std.specs.List.{AllByRecursion}
use Rattle.std.specs.List.Sorted.{IsStrictlySortedBy}
use Rattle.leak_blocks.specs.Live.{live_of}
use Rattle.leak_index.specs.Leads.{Distances}
use Rattle.leak_roots.specs.declared.skip.Skip.{Skip}
use Rattle.leak_holders.specs.declared.holder.Holder.{Holder}
use Rattle.leak_holders.specs.Holders.{rank, row_of}
use Rattle.leak_search.specs.Search.{head_of_one}
use Rattle.leak_holder_search.specs.declared.search.Holding.{Holding}
use Rattle.leak_holder_search.specs.Holders.{FindsHolders}
use Rattle.leak_holder_search.specs.Since.{news_of}
use Rattle.leak_laws.specs.HeldTogether.{DifferInHolder, IsHoldersReport, rank_holder, told_by_holders}
use Rattle.leak_laws.proofs.HolderReading.{holders_are_told}
use Rattle.leak_laws.proofs.ReportLemmas.{parted_blocks, parted_bytes}
use Rattle.leak_laws.proofs.RowOrder.{IsRow, rows_each, rows_sorted}
use Rattle.leak_laws.proofs.ToldOrder.{told_differ, told_sorted}

module _ {core log : List ℕ} {since : Option (List ℕ)} {reading : Distances} {skip : Skip} {found : Holding} (f : FindsHolders core log since reading skip found) where
  abbrev row : ℕ → Holder
  row t = row_of f.are.table f.are.holders.held (length f.texts) t

  sorted : IsStrictlySortedBy rank f.rows
  sorted = subst (IsStrictlySortedBy rank) (sym f.are.holders.are) (rows_sorted row (λ t. refl) (length f.texts))

  each : AllByRecursion (λ r. IsRow row (λ t. refl) (length f.texts) r) f.rows
  each = subst (AllByRecursion (λ r. IsRow row (λ t. refl) (length f.texts) r)) (sym f.are.holders.are) (rows_each row (λ t. refl) (length f.texts))

  lines_sorted : IsStrictlySortedBy rank_holder (told_by_holders f).rows
  lines_sorted = told_sorted (live_of f.lines) f.texts f.numbered.ascending row (λ t. refl) f.rows each sorted

  lines_differ : DifferInHolder (told_by_holders f).rows
  lines_differ = told_differ (live_of f.lines) f.texts f.numbered.ascending row (λ t. refl) f.rows each sorted

pub texts_differ : (core log : List ℕ) (since : Option (List ℕ)) (reading : Distances) (skip : Skip) (found : Holding) → (f : FindsHolders core log since reading skip found) → DifferInHolder (told_by_holders f).rows
texts_differ core log since reading skip found f = lines_differ f

pub holders_belong : (core log : List ℕ) (since : Option (List ℕ)) (reading : Distances) (skip : Skip) (found : Holding) → (f : FindsHolders core log since reading skip found) → IsHoldersReport found (told_by_holders f)
holders_belong core log since reading skip found f = record {
  bytes = f.report ∙ holders_are_told (head_of_one core log skip f.lines) (live_of f.lines) (news_of since (live_of f.lines)) f.set f.texts f.rows;
  together = record {
    blocks = parted_blocks f.set (live_of f.lines) f.marked.len;
    bytes = parted_bytes f.set (live_of f.lines) f.marked.len;
    ranked = lines_sorted f;
  };
}
