-- From the lemmas of BothLemmas.
use Rattle.std.proofs.Common.{length, sym, ap, ◌∙◌}
use Rattle.leak_holder_search.proofs.BothLemmas.{chosen_each}
use Rattle.leak_holder_search.proofs.choosing.choice_of.Goals as goal

pub in_both-requires : goal.in_both-requires
in_both-requires c =
    let all = c.table_of-table.ensures.complete in
    all.reached ∙ sym all.numbered ∙ sym (chosen_each c.table_of-table.result.numbers.now c.args.block c.args.question.alone)
    ∙ ap length (sym (c.as_slice.ensures.value ∙ c.in_ok-set.ensures))
