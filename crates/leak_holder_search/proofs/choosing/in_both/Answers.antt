-- From lemmas of std.
use Rattle.std.proofs.Common.{◌&&◌, Bool, false, List, [], ◌∷◌, ◌++◌, sym, ap, ◌∙◌, arith}
use Rattle.std.specs.Prelude.{slice_index_or}
use Rattle.std.proofs.lemmas.List.FromFn.{map-range_with_len_more}
use Rattle.leak_holder_search.proofs.choosing.in_both.Goals as goal

pub loop-b-preserved : goal.loop-b-preserved
loop-b-preserved c =
    c.in_ok-push.ensures.items
    ∙ ap (λ (set : List Bool). set ++ (slice_index_or c.args.xs.now c.loop-b.b false && slice_index_or c.args.ys.now c.loop-b.b false) ∷ []) c.loop-b.invariant
    ∙ sym (map-range_with_len_more (λ b. slice_index_or c.args.xs.now b false && slice_index_or c.args.ys.now b false) 0 c.loop-b.b c.loop-b.b (omega arith))
