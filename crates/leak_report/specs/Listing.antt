-- Leaked blocks by the places of their callers' texts.
use Rattle.std.specs.Prelude.{◌≡◌, ℕ, ◌<◌, ◌^◌, false, List, length, map, slice_index_or, Option, None, Some}
use Rattle.std.specs.List.{AllByRecursion}
use Rattle.std.specs.List.Sorted.{IsPermutation, IsSortedByKey, IsStableByKey, IsStrictlySortedBy}
use Rattle.std.specs.Ordering.{nat_cmp}
use Rattle.std.specs.Map.{keys_of, values_of}
use Rattle.std.specs.declared.cmp.Ordering.{Ordering}
use Rattle.std.specs.declared.cmp.Ordering.TheVariants.{Less}
use Rattle.leak_report.specs.declared.grouping.PlacedLeak.{PlacedLeak}
use Rattle.leak_report.specs.declared.by_text.Leaked.{Leaked}
use Rattle.leak_report.specs.declared.totals.CallerRow.{CallerRow}
use Rattle.leak_report.specs.Groups.{Key, order_of_keys, AreEntries}
use Rattle.leak_report.specs.Places.{place_of}
use Rattle.leak_report.specs.Totals.{Leak, AreLeaksIn, bytes_in, text_at}

-- the leaked block with the number
abbrev pub leak_of : List Leak → PlacedLeak → Leak
leak_of leaks p = slice_index_or leaks p.number (record { block = record { start = 0; size = 0; line = 0; caller = (0, 0) }; head = false })

-- it is one of the leaked blocks, with the place of its caller's text by the prefix
pub record IsPlaced (prefix log : List ℕ) (leaks : List Leak) (p : PlacedLeak) : Type 0 where
  pub inside : p.number < length leaks
  pub place : p.place ≡ place_of prefix (text_at log (leak_of leaks p).block.caller)

-- these are the leaked blocks, in order
pub record ArePlaced (prefix log : List ℕ) (leaks : List Leak) (placed : List PlacedLeak) : Type 0 where
  pub are : map (leak_of leaks) placed ≡ leaks
  pub each : AllByRecursion (IsPlaced prefix log leaks) placed

-- the same by ascending place; those of one place stay in order
pub record AreByPlace (prefix log : List ℕ) (leaks : List Leak) (sorted : List PlacedLeak) : Type 0 where
  pub listed : List PlacedLeak
  pub placed : ArePlaced prefix log leaks listed
  pub permutation : IsPermutation listed sorted
  pub stable : IsStableByKey (λ p. p.place) nat_cmp listed sorted

-- each leaked block has a caller in the log, and the sum of the sizes is a number
pub record IsComplete (l : Leaked) : Type 0 where
  pub in_log : AreLeaksIn l.log.now l.leaks.now
  pub fits : bytes_in l.leaks.now < 2 ^ 64

-- how the last key compares with one more
abbrev pub order_after : Option Key → Key → Ordering
order_after None k = Less
order_after (Some l) k = order_of_keys l k

-- the rows of the leaked blocks, by ascending key
pub record AreByText (prefix log : List ℕ) (leaks : List Leak) (rows : List CallerRow) : Type 0 where
  pub entries : List (Key × CallerRow)
  pub ordered : IsStrictlySortedBy order_of_keys (keys_of entries)
  pub are : AreEntries prefix log leaks entries
  pub listed : values_of entries ≡ rows

-- the rows, the most bytes first. Those with equal bytes stay in the order of their keys.
pub record AreRanked (prefix log : List ℕ) (leaks : List Leak) (rows : List CallerRow) : Type 0 where
  pub given : List CallerRow
  pub by_text : AreByText prefix log leaks given
  pub permutation : IsPermutation given rows
  pub sorted : IsSortedByKey (λ r. r.bytes) (λ x y. nat_cmp y x) rows
  pub stable : IsStableByKey (λ r. r.bytes) (λ x y. nat_cmp y x) given rows
