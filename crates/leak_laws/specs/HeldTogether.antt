-- How the lines of a report on who holds the memory belong together.
use Rattle.std.specs.Prelude.{◌≡◌, ◌+◌, ◌≤◌, ℕ, List, sum_by, Option, None, [], ◌∷◌, false, bytes_eq, IsTrue}
use Rattle.std.specs.List.{AllByRecursion, list_any}
use Rattle.std.specs.List.Sorted.{IsStrictlySortedBy}
use Rattle.std.specs.Cmp.Lexicographic.{slice_cmp}
use Rattle.std.specs.Ordering.{nat_cmp, ordering_then}
use Rattle.std.specs.declared.cmp.Ordering.{Ordering}
use Rattle.leak_blocks.specs.declared.block.Block.{Block}
use Rattle.leak_blocks.specs.Live.{live_of}
use Rattle.leak_report.specs.Totals.{marked_in, text_at}
use Rattle.leak_index.specs.Leads.{Distances}
use Rattle.leak_roots.specs.declared.skip.Skip.{Skip}
use Rattle.leak_search.specs.Search.{head_of_one}
use Rattle.leak_holder_search.specs.declared.search.Holding.{Holding}
use Rattle.leak_holder_search.specs.Holders.{FindsHolders}
use Rattle.leak_holder_search.specs.Since.{news_of}
use Rattle.leak_laws.specs.ToldHolders.{ToldHolder, ToldHolders, holders_tell, holders_told}

-- more bytes first, ties by the ascending bytes of the text
abbrev pub rank_holder : ToldHolder → ToldHolder → Ordering
rank_holder h k = ordering_then (nat_cmp k.bytes h.bytes) (slice_cmp nat_cmp h.text k.text)

pub record HoldTogether (t : ToldHolders) : Type 0 where
  -- each live block is marked or leaked
  pub blocks : t.all.blocks ≡ t.marked.blocks + t.leaked.blocks
  pub bytes : t.all.bytes ≡ t.marked.bytes + t.leaked.bytes
  pub ranked : IsStrictlySortedBy rank_holder t.rows

-- a line's own blocks are among those that it holds, and these are marked
pub record IsWithin (t : ToldHolders) (h : ToldHolder) : Type 0 where
  pub own : h.own ≤ h.blocks
  pub own_bytes : h.own_bytes ≤ h.bytes
  pub blocks : h.blocks ≤ t.marked.blocks
  pub bytes : h.bytes ≤ t.marked.bytes

-- without an earlier log: the own blocks of all lines are the marked blocks
pub record OwnAreMarked (t : ToldHolders) : Type 0 where
  pub own : sum_by (λ h. h.own) t.rows ≡ t.marked.blocks
  pub own_bytes : sum_by (λ h. h.own_bytes) t.rows ≡ t.marked.bytes
  pub each : AllByRecursion (IsWithin t) t.rows

-- the texts differ from one another
abbrev pub DifferInHolder : List ToldHolder → Type 0
DifferInHolder [] = Unit {0}
DifferInHolder (h ∷ rows) = AllByRecursion (λ k. bytes_eq h.text k.text ≡ false) rows × DifferInHolder rows

-- a line has the text of the block
abbrev pub HasHolder : List ℕ → List ToldHolder → Block → Type 0
HasHolder log rows b = IsTrue (list_any (λ h. bytes_eq h.text (text_at log b.caller)) rows)

-- the lines that the report has
abbrev pub told_by_holders : {core log : List ℕ} {since : Option (List ℕ)} {reading : Distances} {skip : Skip} {found : Holding}
    → FindsHolders core log since reading skip found → ToldHolders
told_by_holders {core} {log} {since} {reading} {skip} f = holders_tell (head_of_one core log skip f.lines) (live_of f.lines) (news_of since (live_of f.lines)) f.set f.texts f.rows

pub record IsHoldersReport (found : Holding) (t : ToldHolders) : Type 0 where
  pub bytes : found.report.items ≡ holders_told t
  pub together : HoldTogether t

abbrev pub HoldersBelongTogether : Type 0
HoldersBelongTogether = (core log : List ℕ) (since : Option (List ℕ)) (reading : Distances) (skip : Skip) (found : Holding)
    → (f : FindsHolders core log since reading skip found) → IsHoldersReport found (told_by_holders f)

-- each text has one line at most
abbrev pub HolderTextsDiffer : Type 0
HolderTextsDiffer = (core log : List ℕ) (since : Option (List ℕ)) (reading : Distances) (skip : Skip) (found : Holding)
    → (f : FindsHolders core log since reading skip found) → DifferInHolder (told_by_holders f).rows

-- without an earlier log each marked block's text has one
abbrev pub MarkedHaveHolders : Type 0
MarkedHaveHolders = (core log : List ℕ) (reading : Distances) (skip : Skip) (found : Holding)
    → (f : FindsHolders core log None reading skip found) → AllByRecursion (HasHolder log (told_by_holders f).rows) (marked_in f.set (live_of f.lines))

abbrev pub OwnBlocksAreMarked : Type 0
OwnBlocksAreMarked = (core log : List ℕ) (reading : Distances) (skip : Skip) (found : Holding)
    → (f : FindsHolders core log None reading skip found) → OwnAreMarked (told_by_holders f)
