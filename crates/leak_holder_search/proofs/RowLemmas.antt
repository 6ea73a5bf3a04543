-- Rows of holders are of the blocks and texts that they are made of.
use Rattle.std.proofs.Common.{◌≡◌, ℕ, zero, suc, ◌+◌, ◌<◌, ◌≤◌, Bool, true, List, [], ◌∷◌, length, get_or, filter, map, sym, subst, arith}
use Rattle.std.specs.Prelude.{nat_lt, ◌&&◌}
use Rattle.std.specs.List.{AllByRecursion, range_with_len}
use Rattle.std.proofs.lemmas.Bool.{ltb-true}
use Rattle.leak_marks.specs.Reach.{Graph}
use Rattle.leak_holders.specs.declared.block_table.BlockTable.{BlockTable}
use Rattle.leak_holders.specs.declared.holder.Holder.{Holder}
use Rattle.leak_holders.specs.Holders.{AreHolders, Held, row_of, with_blocks, is_own, is_counted}
use Rattle.leak_lemmas.proofs.Members.{each_filtered, each_implied, each_mapped}
use Rattle.leak_holders.proofs.Numbers.{length-filter-le}
use Rattle.leak_holders.proofs.Ranks.{each_ranked}
use Rattle.leak_holder_search.specs.Text.{IsRowOf, AreRowsOf}

range_below : (a n m : ℕ) → a + n ≤ m → AllByRecursion (λ x. x < m) (range_with_len a n)
range_below a zero m h = tt
range_below a (suc n) m h = (omega arith, range_below (a + 1) n m (omega arith))

head_below : (m : ℕ) (p : ℕ → Bool) (xs : List ℕ) → AllByRecursion (λ x. (x < m) × (p x ≡ true)) xs → 0 < m → get_or xs 0 0 < m
head_below m p [] all some = some
head_below m p (x ∷ xs) all some = all.0.0

-- a row that has a block is of the blocks
abbrev IsInside : BlockTable → ℕ → Holder → Type 0
IsInside f texts r = nat_lt 0 r.blocks ≡ true → IsRowOf (length f.blocks.now) texts r

row_inside : (f : BlockTable) (held : Held) (texts text : ℕ) → text < texts → IsInside f texts (row_of f held texts text)
row_inside f held texts text h some =
    let more : 0 < (row_of f held texts text).blocks = ltb-true _ _ some in
    let few = length-filter-le (λ b. held text b && is_counted f b) 0 (length f.blocks.now) in
    record {
      block =
          head_below (length f.blocks.now) (is_own f text) (filter (is_own f text) (range_with_len 0 (length f.blocks.now)))
          (each_filtered (is_own f text) (λ x. x < length f.blocks.now) (range_with_len 0 (length f.blocks.now)) (range_below 0 (length f.blocks.now) (length f.blocks.now) (omega arith)))
          (omega (arith, more, few));
      text = h;
    }

rows_inside : (graph : Graph) (f : BlockTable) (texts : ℕ) (rows : List Holder) → AreHolders graph f texts rows → AreRowsOf (length f.blocks.now) texts rows
rows_inside graph f texts rows are =
    let all : List Holder = map (row_of f are.held texts) (range_with_len 0 texts) in
    let each = each_mapped (row_of f are.held texts) (IsInside f texts) (range_with_len 0 texts)
    (each_implied (λ k. k < texts) (λ k. IsInside f texts (row_of f are.held texts k)) (λ k h. row_inside f are.held texts k h) (range_with_len 0 texts) (range_below 0 texts texts (omega arith))) in
    subst (AreRowsOf (length f.blocks.now) texts) (sym are.are)
    (each_ranked (IsRowOf (length f.blocks.now) texts) (with_blocks all)
    (each_implied (λ r. IsInside f texts r × (nat_lt 0 r.blocks ≡ true)) (IsRowOf (length f.blocks.now) texts) (λ r h. h.0 h.1) (with_blocks all)
    (each_filtered (λ r. nat_lt 0 r.blocks) (IsInside f texts) all each)))

-- the same of the number of blocks
pub inside_of : (graph : Graph) (f : BlockTable) (texts n : ℕ) (rows : List Holder) → AreHolders graph f texts rows → length f.blocks.now ≡ n → AreRowsOf n texts rows
inside_of graph f texts n rows are long = subst (λ (m : ℕ). AreRowsOf m texts rows) long (rows_inside graph f texts rows are)
