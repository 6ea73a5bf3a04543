-- Rows by the text of their caller, as a map holds them.
use Rattle.std.specs.Prelude.{◌≡◌, ℕ, ◌+◌, ◌^◌, ◌<◌, ◌≤◌, List, [], ◌∷◌, length, if◌then◌else◌, nat_eq, Option, None, Some}
use Rattle.std.specs.Cmp.Lexicographic.{slice_cmp}
use Rattle.std.specs.Ordering.{nat_cmp, ordering_then, is_eq}
use Rattle.std.specs.declared.cmp.Ordering.{Ordering}
use Rattle.std.specs.BTreeMap.{BTreeMap, is_at}
use Rattle.std.specs.Map.{lookup}
use denote.Ref.{Bor}
use Rattle.leak_blocks.specs.declared.block.Block.{Block}
use Rattle.leak_report.specs.declared.totals.CallerRow.{CallerRow}
use Rattle.leak_report.specs.Places.{place_of}
use Rattle.leak_report.specs.Totals.{Leak, bytes_in, heads_in, with_text}

-- a row with one more leaked block
abbrev pub with_leak : Option CallerRow → Leak → CallerRow
with_leak None l = record { blocks = 1; bytes = l.block.size; heads = if l.head then 1 else 0; caller = l.block.caller }
with_leak (Some row) l = record {
  blocks = row.blocks + 1;
  bytes = row.bytes + l.block.size;
  heads = row.heads + (if l.head then 1 else 0);
  caller = row.caller;
}

-- one more block fits into the numbers of the row
pub record HasRoom (row : CallerRow) (block : Block) : Type 0 where
  pub blocks : row.blocks + 1 < 2 ^ 64
  pub bytes : row.bytes + block.size < 2 ^ 64
  pub heads : row.heads ≤ row.blocks

-- the row of some leaked blocks, if there are any
abbrev pub row_from : List Leak → Option CallerRow
row_from [] = None
row_from (l ∷ leaks) = Some (record { blocks = length (l ∷ leaks); bytes = bytes_in (l ∷ leaks); heads = heads_in (l ∷ leaks); caller = l.block.caller })

-- the row of those with the text
abbrev pub row_with : List ℕ → List Leak → List ℕ → Option CallerRow
row_with log leaks text = row_from (with_text log text leaks)

-- a key is a text, after its place. Keys go by the place, and then by the text.
abbrev pub Key : Type 0
Key = ℕ × Bor (List ℕ)

abbrev pub order_of_keys : Key → Key → Ordering
order_of_keys x y = ordering_then (nat_cmp x.0 y.0) (slice_cmp nat_cmp x.1.now y.1.now)

-- what the entries have at a key
abbrev pub found_in : List (Key × CallerRow) → Key → Option CallerRow
found_in entries k = lookup (is_at (order_of_keys k)) entries

-- the leaked block was added to the row of the key, and the other rows are as before
abbrev pub HasLeak : List (Key × CallerRow) → List (Key × CallerRow) → Key → Leak → Type 0
HasLeak old new key l =
    (k : Key) → found_in new k
    ≡ (if is_eq (order_of_keys key k) then Some (with_leak (found_in old key) l) else found_in old k)

abbrev pub HasLeakAdded : BTreeMap Key CallerRow → BTreeMap Key CallerRow → Key → Leak → Type 0
HasLeakAdded old new key l = HasLeak old.entries new.entries key l

-- at a key that has the place of its text by the prefix there is the row of the leaked blocks with the text, at others none
abbrev pub AreEntries : List ℕ → List ℕ → List Leak → List (Key × CallerRow) → Type 0
AreEntries prefix log leaks entries =
    (k : Key) → found_in entries k
    ≡ (if nat_eq k.0 (place_of prefix k.1.now) then row_with log leaks k.1.now else None)

abbrev pub AreGroups : List ℕ → List ℕ → List Leak → BTreeMap Key CallerRow → Type 0
AreGroups prefix log leaks groups = AreEntries prefix log leaks groups.entries
