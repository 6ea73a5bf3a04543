-- From the lemmas of EdgeLemmas and RowLemmas.
use Rattle.std.proofs.Common.{◌≡◌, ℕ, ◌<◌, ◌≤◌, List, Option, Some, None, Vec, Global, length, ap, sym, subst, ◌∙◌}
use Rattle.std.specs.Prelude.{IfSome, IfNone}
use Rattle.std.specs.Int.{div_ceil}
use Rattle.std.specs.List.{All}
use Rattle.std.proofs.lemmas.List.{length-map}
use Rattle.std.proofs.lemmas.Result.{IfOk-weaker}
use Rattle.leak_blocks.specs.declared.block.Block.{Block}
use Rattle.leak_index.specs.Hits.{Index}
use Rattle.leak_scan.specs.Targets.{block_targets}
use Rattle.leak_pool.specs.Edges.{AreEdges, AreRows, AreRowsOrOver, IsOver, kept_count, target_count}
use Rattle.leak_pool.specs.Scopes.{all_targets}
use Rattle.leak_pool.specs.declared.rows.Rows.{Rows}
use Rattle.leak_pool.proofs.EdgeLemmas.{edges_made}
use Rattle.leak_pool.proofs.RowLemmas.{rows_exact}
use Rattle.leak_pool.proofs.rows.list_rows.Goals as goal

if_some : (targets : List (List ℕ)) (size room count : ℕ) (P : List Rows → Type 0) (rows : Option (Vec Rows Global)) → ((r : List Rows) → AreRows targets size room count r → P r)
    → AreRowsOrOver targets size room count rows → IfSome rows (λ r. P r.items)
if_some targets size room count P None f h = tt
if_some targets size room count P (Some r) f h = f r.items h

if_none : (targets : List (List ℕ)) (size room count : ℕ) (rows : Option (Vec Rows Global)) → AreRowsOrOver targets size room count rows → IfNone rows (IsOver targets size room)
if_none targets size room count None h = h
if_none targets size room count (Some r) h = tt

-- rows of all blocks are rows of all lists
of_all : (word_at : ℕ → Option ℕ) (index : Index) (blocks : List Block) (size room count : ℕ) (rows : List Rows) → index.blocks ≡ blocks → count ≡ div_ceil (length blocks) size
    → AreRows (all_targets word_at index) size room count rows → AreRows (all_targets word_at index) size room (div_ceil (length (all_targets word_at index)) size) rows
of_all word_at index blocks size room count rows same is made =
    let e : length (all_targets word_at index) ≡ length blocks = length-map index.blocks (block_targets word_at index) ∙ ap (λ (bs : List Block). length bs) same in
    subst (λ (n : ℕ). AreRows (all_targets word_at index) size room n rows) (is ∙ ap (λ (n : ℕ). div_ceil n size) (sym e)) made

pub returns-clause-listed : goal.returns-clause-listed
returns-clause-listed g c =
    let w = g.W.Words.word_at c.args.words.now in
    let i = g.L.Lookup.index c.args.lookup.now in
    let targets : List (List ℕ) = all_targets w i in
    IfOk-weaker c.first_rows.result _ _
    (λ rows. if_some targets c.args.size c.args.room c.div_ceil-count.result (λ (r : List Rows). AreEdges targets c.args.size r) rows
    (λ r made. edges_made targets c.args.size c.args.room r c.requires.some (of_all w i c.args.blocks.now c.args.size c.args.room c.div_ceil-count.result r c.requires.same c.div_ceil-count.ensures made)))
    c.first_rows.ensures

pub returns-clause-exact : goal.returns-clause-exact
returns-clause-exact g c =
    let w = g.W.Words.word_at c.args.words.now in
    let i = g.L.Lookup.index c.args.lookup.now in
    let targets : List (List ℕ) = all_targets w i in
    IfOk-weaker c.first_rows.result _ _
    (λ rows. if_some targets c.args.size c.args.room c.div_ceil-count.result (λ (r : List Rows). kept_count r ≡ target_count targets) rows
    (λ r made. rows_exact targets c.args.size c.args.room r c.requires.some (of_all w i c.args.blocks.now c.args.size c.args.room c.div_ceil-count.result r c.requires.same c.div_ceil-count.ensures made)))
    c.first_rows.ensures

pub returns-clause-count : goal.returns-clause-count
returns-clause-count g c =
    let targets : List (List ℕ) = all_targets (g.W.Words.word_at c.args.words.now) (g.L.Lookup.index c.args.lookup.now) in
    IfOk-weaker c.first_rows.result _ _
    (λ rows. if_some targets c.args.size c.args.room c.div_ceil-count.result (λ (r : List Rows). length r ≡ div_ceil (length c.args.blocks.now) c.args.size) rows
    (λ r made. made.many ∙ c.div_ceil-count.ensures))
    c.first_rows.ensures

pub returns-clause-room : goal.returns-clause-room
returns-clause-room g c =
    let targets : List (List ℕ) = all_targets (g.W.Words.word_at c.args.words.now) (g.L.Lookup.index c.args.lookup.now) in
    IfOk-weaker c.first_rows.result _ _
    (λ rows. if_some targets c.args.size c.args.room c.div_ceil-count.result (λ (r : List Rows). All (λ row. length row.targets.items ≤ c.args.room) r) rows
    (λ r made. λ n d h. (made.each n d (subst (λ (m : ℕ). n < m) made.many h)).within))
    c.first_rows.ensures

pub returns-clause-over : goal.returns-clause-over
returns-clause-over g c =
    let targets : List (List ℕ) = all_targets (g.W.Words.word_at c.args.words.now) (g.L.Lookup.index c.args.lookup.now) in
    IfOk-weaker c.first_rows.result _ _
    (λ rows. if_none targets c.args.size c.args.room c.div_ceil-count.result rows)
    c.first_rows.ensures
