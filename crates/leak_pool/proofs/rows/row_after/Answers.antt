-- From row_lists of RowLemmas.
use Rattle.std.proofs.Common.{◌≡◌, ℕ, ◌-◌, ◌*◌, List, length, map, take, drop, ap, ◌∙◌, subst}
use Rattle.std.specs.Prelude.{IfOk}
use Rattle.std.specs.Fork.{slice_chunk}
use Rattle.std.proofs.lemmas.List.{take_min, take_rest}
use Rattle.leak_blocks.specs.declared.block.Block.{Block}
use Rattle.leak_scan.specs.Targets.{block_targets}
use Rattle.leak_pool.specs.Edges.{IsRowOrOver}
use Rattle.leak_pool.proofs.RowLemmas.{row_lists}
use Rattle.leak_pool.proofs.rows.row_after.Goals as goal

pub returns : goal.returns
returns g c =
    let w = g.W.Words.word_at c.args.words.now in
    let i = g.L.Lookup.index c.args.lookup.now in
    let blocks = c.args.blocks.now in
    let size = c.args.before.size in
    let start = c.args.before.count * size in
    let rest : List Block = take (length blocks - start) (drop start blocks) in
    let part : take c.min.result rest ≡ slice_chunk blocks size c.args.before.count =
    ap (λ (n : ℕ). take n rest) c.min.ensures ∙ take_min size rest ∙ ap (λ (bs : List Block). take size bs) (take_rest blocks start) in
    subst (λ (ls : List (List ℕ)). IfOk c.rows_of.result (IsRowOrOver ls c.args.before.room))
    (ap (λ (bs : List Block). map (block_targets w i) bs) part ∙ row_lists w i blocks size c.args.before.count c.requires.same)
    c.rows_of.ensures
