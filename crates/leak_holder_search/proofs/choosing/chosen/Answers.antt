-- From lemmas of std.
use Rattle.std.proofs.Common.{◌==◌, Bool, List, [], ◌∷◌, ◌++◌, sym, ap, ◌∙◌, arith, if◌then◌else◌}
use Rattle.std.specs.Prelude.{slice_index}
use Rattle.std.proofs.lemmas.List.FromFn.{map-range_with_len_more}
use Rattle.leak_holder_search.proofs.choosing.chosen.Goals as goal

pub loop-b-preserved : goal.loop-b-preserved
loop-b-preserved c =
    c.in_ok-push.ensures.items
    ∙ ap (λ (x : Bool). c.loop-b.set.items ++ x ∷ []) c.is_chosen.ensures
    ∙ ap (λ (set : List Bool). set ++ (if c.args.alone then c.loop-b.b == c.args.block else slice_index c.args.numbers.now c.loop-b.b == slice_index c.args.numbers.now c.args.block) ∷ []) c.loop-b.invariant
    ∙ sym (map-range_with_len_more (λ b. if c.args.alone then b == c.args.block else slice_index c.args.numbers.now b == slice_index c.args.numbers.now c.args.block) 0 c.loop-b.b c.loop-b.b (omega arith))
