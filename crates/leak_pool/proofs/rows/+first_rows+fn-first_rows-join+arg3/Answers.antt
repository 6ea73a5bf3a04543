-- From the lemmas of RowLemmas.
use Rattle.std.proofs.Common.{◌≡◌, ℕ, ◌+◌, ◌-◌, ◌*◌, ◌<◌, ◌≤◌, List, Option, length, ap, sym, subst, arith}
use Rattle.std.specs.Prelude.{IfOk}
use Rattle.std.specs.Int.{div_ceil}
use Rattle.std.proofs.lemmas.List.{length-map}
use Rattle.leak_blocks.specs.declared.block.Block.{Block}
use Rattle.leak_index.specs.Hits.{Index}
use Rattle.leak_scan.specs.Targets.{block_targets}
use Rattle.leak_pool.specs.Edges.{AreRows, AreRowsOrOver}
use Rattle.leak_pool.specs.Scopes.{all_targets}
use Rattle.leak_pool.specs.declared.rows.Rows.{Rows}
use Rattle.leak_pool.proofs.RowLemmas.{begins, no_rows}
use Rattle.leak_pool.proofs.rows.+first_rows+fn-first_rows-join+arg3.Goals as goal

-- the last of the rows has a block
inside : (word_at : ℕ → Option ℕ) (index : Index) (blocks : List Block) (size count : ℕ) → index.blocks ≡ blocks → 0 < size → 0 < count → count ≤ div_ceil (length blocks) size → (count - 1) * size < length (all_targets word_at index)
inside word_at index blocks size count same pos some many =
    let b = begins (length blocks) size (count - 1) pos (omega (arith, some, many)) in
    let l = length-map index.blocks (block_targets word_at index) in
    let e = ap (λ (bs : List Block). length bs) same in
    omega (arith, b, l, e)

pub returns-then-before-eq0 : goal.returns-then-before-eq0
returns-then-before-eq0 g t c =
    let w = g.W.Words.word_at c.args.words.now in
    let i = g.L.Lookup.index c.args.lookup.now in
    let targets : List (List ℕ) = all_targets w i in
    let last : ℕ = c.args.shape.count - 1 in
    let first : last ≡ 0 = omega arith in
    let next : last + 1 ≡ c.args.shape.count = omega arith in
    subst (λ (n : ℕ). IfOk c.with_row.result (AreRowsOrOver targets c.args.shape.size c.args.shape.room n)) next
    (c.with_row.ensures targets c.args.shape.size c.args.shape.room last (inside w i c.args.blocks.now c.args.shape.size c.args.shape.count c.requires.same c.requires.some (omega arith) c.requires.many)
    (subst (λ (n : ℕ). AreRows targets c.args.shape.size c.args.shape.room n c.new-then-before-eq0.result.items) (sym first)
    (subst (λ (rows : List Rows). AreRows targets c.args.shape.size c.args.shape.room 0 rows) (sym c.new-then-before-eq0.ensures.items) (no_rows targets c.args.shape.size c.args.shape.room)))
    c.row_after.ensures)

pub returns : goal.returns
returns g t c =
    let w = g.W.Words.word_at c.args.words.now in
    let i = g.L.Lookup.index c.args.lookup.now in
    let targets : List (List ℕ) = all_targets w i in
    let last : ℕ = c.args.shape.count - 1 in
    let next : last + 1 ≡ c.args.shape.count = omega arith in
    subst (λ (n : ℕ). IfOk c.with_row-2.result (AreRowsOrOver targets c.args.shape.size c.args.shape.room n)) next
    (c.with_row-2.ensures targets c.args.shape.size c.args.shape.room last (inside w i c.args.blocks.now c.args.shape.size c.args.shape.count c.requires.same c.requires.some (omega arith) c.requires.many) c.join-row.ensures.second c.join-row.ensures.first)
