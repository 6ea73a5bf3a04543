-- Rows of the blocks that a set holds, as rows of holders.
use Rattle.std.proofs.Common.{◌≡◌, ℕ, ◌<◌, ◌==◌, Bool, true, false, ◌&&◌, List, length, map, refl, sym, ap, arith}
use Rattle.std.specs.Prelude.{slice_index_or}
use Rattle.std.specs.List.{range_with_len}
use Rattle.std.proofs.lemmas.Bool.{and_from, and_parts, eq-eqb, eqb-true}
use Rattle.std.proofs.lemmas.Simd.{map-map}
use Rattle.leak_lemmas.proofs.Members.{Has}
use Rattle.leak_holders.specs.declared.block_table.BlockTable.{BlockTable}
use Rattle.leak_holders.specs.declared.holder.Holder.{Holder}
use Rattle.leak_holders.specs.Holders.{is_counted, text_of}
use Rattle.leak_holders.specs.Parts.{part_of_row, parts_by}
use Rattle.leak_holders.specs.Tallies.{own_as_held, own_row}
use Rattle.leak_holders.proofs.Parts.{are_parts}
use Rattle.leak_laws.proofs.Ranges.{passes_some, some_passes}
use Rattle.leak_laws.proofs.RowOrder.{IsRow, ranked_rows, row_in}

module _ (f : BlockTable) (texts : ℕ) (held : List Bool) where
  abbrev known : BlockTable
  known = record f { reached = record { ref_ptr = (0, 0); now = held } }

  -- the row of the held blocks of a text
  abbrev pub in_row : ℕ → Holder
  in_row t = own_as_held (own_row known t)

  abbrev pub in_rows : List Holder
  in_rows = ranked_rows in_row (λ t. refl) texts

  abbrev Row : Holder → Type 0
  Row r = IsRow in_row (λ t. refl) texts r

  pub in_parts : parts_by f (λ b. slice_index_or held b false) texts ≡ map part_of_row in_rows
  in_parts =
      sym (are_parts f texts (record { ref_ptr = (0, 0); now = held }) (map (own_row known) (range_with_len 0 texts)) (map in_row (range_with_len 0 texts)) in_rows (map part_of_row in_rows)
      refl (sym (map-map own_as_held (own_row known) (range_with_len 0 texts))) refl refl)

  pub in_there : (b : ℕ) → b < length f.blocks.now → text_of f b < texts → slice_index_or held b false ≡ true → is_counted f b ≡ true → Has in_rows (in_row (text_of f b))
  in_there b inside low is counts =
      row_in in_row (λ t. refl) texts (text_of f b) low
      (passes_some (λ c. (slice_index_or held c false && (text_of f c == text_of f b)) && is_counted f c) 0 (length f.blocks.now) b (omega arith) (omega (arith, inside))
      (and_from (slice_index_or held b false && (text_of f b == text_of f b)) (is_counted f b)
      (and_from (slice_index_or held b false) (text_of f b == text_of f b) is (eq-eqb (text_of f b) (text_of f b) refl)) counts))

  -- a counted block of the text that is held
  pub record IsIn (t : ℕ) : Type 0 where
    pub block : ℕ
    pub inside : block < length f.blocks.now
    pub counts : is_counted f block ≡ true
    pub is : slice_index_or held block false ≡ true
    pub of_text : text_of f block ≡ t

  pub in_holds : (r : Holder) → Row r → IsIn r.text
  in_holds r row =
      let many : r.blocks ≡ (in_row r.text).blocks = ap (λ (s : Holder). s.blocks) row.is in
      let one = some_passes (λ c. (slice_index_or held c false && (text_of f c == r.text)) && is_counted f c) 0 (length f.blocks.now) (omega (arith, row.some, many)) in
      let parts = and_parts (slice_index_or held one.number false && (text_of f one.number == r.text)) (is_counted f one.number) one.passes in
      let first = and_parts (slice_index_or held one.number false) (text_of f one.number == r.text) parts.0 in
      record { block = one.number; inside = omega (arith, one.high); counts = parts.1; is = first.0; of_text = eqb-true (text_of f one.number) r.text first.1 }
