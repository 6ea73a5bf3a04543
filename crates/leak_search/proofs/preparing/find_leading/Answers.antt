-- From the lemmas of ListedLemmas.
use Rattle.std.proofs.lemmas.Result.{IfOk-weaker}
use Rattle.leak_search.proofs.ListedLemmas.{leading_found}
use Rattle.leak_search.proofs.preparing.find_leading.Goals as goal

pub returns : goal.returns
returns c = λ lines is.
    IfOk-weaker c.find_leading_roots.result _ _ (λ roots found. leading_found lines c.args.input.now c.requires c.args.lookup.now roots is found) c.find_leading_roots.ensures
