-- From the lemmas of TwoLemmas.
use Rattle.std.proofs.Common.{◌∙◌, ap, List, Bool, length, refl}
use Rattle.leak_later.specs.Kept.{kept_of}
use Rattle.leak_search.proofs.TwoLemmas.{is_between, tests_of}
use Rattle.leak_search.proofs.two_cores.compare.Goals as goal

pub mark_earlier-requires-clause-read : goal.mark_earlier-requires-clause-read
mark_earlier-requires-clause-read g c κs within = (c.requires.paired.0, c.requires.paired.2.first)

pub carry-requires-clause-tests : goal.carry-requires-clause-tests
carry-requires-clause-tests g c =
    ap length c.as_slice.ensures.value ∙ tests_of _ c.requires.paired.0 _ _ c.requires.paired.2.first (c.in_ok-marked.ensures.marked c.requires.paired.0 c.requires.paired.2.first)

pub returns-clause-between : goal.returns-clause-between
returns-clause-between g c = λ before now pair.
    is_between _ _ before now _ _ c.in_ok-marked.marked.set.items c.in_ok-carry.carry _ pair.first pair.second pair.continued c.absent_are_fresh.ensures (c.in_ok-marked.ensures.marked before pair.first)
    (c.in_ok-carry.ensures.kept ∙ ap (λ (set : List Bool). kept_of c.args.inputs.now.first.live.blocks set c.args.inputs.now.second.live.blocks) c.as_slice.ensures.value)
    c.in_ok-carry.ensures.fresh c.in_ok-carry.ensures.lists refl c.in_ok-pages.ensures
