-- Which texts have a row of holders: those that hold a counted block.
use Rattle.std.proofs.Common.{◌≡◌, ℕ, ◌<◌, true, ◌&&◌, List, length, refl, sym, ap, subst, arith}
use Rattle.std.specs.List.{AllByRecursion}
use Rattle.std.proofs.lemmas.Bool.{and_from, and_parts}
use Rattle.leak_marks.specs.Reach.{Graph}
use Rattle.leak_without.specs.Without.{IsHeldBy, members}
use Rattle.leak_lemmas.proofs.Members.{Has}
use Rattle.leak_holders.specs.declared.block_table.BlockTable.{BlockTable}
use Rattle.leak_holders.specs.declared.holder.Holder.{Holder}
use Rattle.leak_holders.specs.Holders.{is_counted, row_of}
use Rattle.leak_holders.specs.Laws.{AreRowsOf}
use Rattle.leak_laws.proofs.Ranges.{passes_some, some_passes}
use Rattle.leak_laws.proofs.RowOrder.{IsRow, row_in, rows_each}

module _ (graph : Graph) (f : BlockTable) (texts : ℕ) (rows : List Holder) (of : AreRowsOf graph f texts rows) where
  abbrev row_at : ℕ → Holder
  row_at text = row_of f of.hold.held texts text

  abbrev Hold : ℕ → ℕ → Type 0
  Hold text b = IsHeldBy graph (members f.numbers.now text) b

  pub row_there : (text b : ℕ) → text < texts → b < length f.blocks.now → Hold text b → is_counted f b ≡ true → Has rows (row_at text)
  row_there text b low inside holds counts =
      let in_graph : b < length graph.targets = omega (arith, inside, of.one_each) in
      let held : of.hold.held text b ≡ true = (of.hold.holds text b low in_graph).1 holds in
      let some : 0 < (row_at text).blocks =
      passes_some (λ c. of.hold.held text c && is_counted f c) 0 (length f.blocks.now) b (omega arith) (omega (arith, inside)) (and_from (of.hold.held text b) (is_counted f b) held counts) in
      subst (λ (rs : List Holder). Has rs (row_at text)) (sym of.hold.are) (row_in row_at (λ t. refl) texts text low some)

  abbrev pub Row : Holder → Type 0
  Row r = IsRow row_at (λ t. refl) texts r

  pub holder_rows : AllByRecursion Row rows
  holder_rows = subst (AllByRecursion Row) (sym of.hold.are) (rows_each row_at (λ t. refl) texts)

  -- a counted block that the text holds
  pub record HoldsOne (text : ℕ) : Type 0 where
    pub block : ℕ
    pub inside : block < length f.blocks.now
    pub counts : is_counted f block ≡ true
    pub held : Hold text block

  pub row_holds : (r : Holder) → Row r → HoldsOne r.text
  row_holds r row =
      let many : r.blocks ≡ (row_at r.text).blocks = ap (λ (s : Holder). s.blocks) row.is in
      let one = some_passes (λ b. of.hold.held r.text b && is_counted f b) 0 (length f.blocks.now) (omega (arith, row.some, many)) in
      let inside : one.number < length f.blocks.now = omega (arith, one.high) in
      let parts = and_parts (of.hold.held r.text one.number) (is_counted f one.number) one.passes in
      record { block = one.number; inside = inside; counts = parts.1; held = (of.hold.holds r.text one.number row.low (omega (arith, inside, of.one_each))).0 parts.0 }
