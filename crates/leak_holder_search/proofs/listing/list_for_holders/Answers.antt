-- From the lemmas of FindLemmas.
use Rattle.std.proofs.Common.{◌∙◌, rules, sym, subst}
use Rattle.std.specs.Prelude.{IsTrue}
use Rattle.std.proofs.lemmas.Result.{err_from_is_err_and}
use Rattle.leak_search.specs.declared.error.FindError.{FindError}
use Rattle.leak_holder_search.specs.Holders.{IsFaultOfHolders}
use Rattle.leak_holder_search.specs.Since.{earlier, is_continued_from}
use Rattle.leak_holder_search.proofs.FindLemmas.{listing_refused}
use Rattle.leak_holder_search.proofs.listing.list_for_holders.Goals as goal

pub returns-in_err-listed-clause-refused : goal.returns-in_err-listed-clause-refused
returns-in_err-listed-clause-refused g c =
    let p = err_from_is_err_and c.from_residual-in_err-listed.result c.from_residual-in_err-listed.ensures.1 in
    let continued : IsTrue (is_continued_from (earlier c.args.logs.now.since) c.args.logs.now.log.now) = search rules in
    rw (p.1) (λ other. subst (λ (e : FindError). IsFaultOfHolders c.args.input.now.image c.args.logs.now.log.now (earlier c.args.logs.now.since) e) (sym p.2)
    (listing_refused _ _ (earlier c.args.logs.now.since) c.args.input.now c.in_err-listed.field-0.0 c.requires.read continued c.in_err-listed.ensures.many (λ n. other (p.2 ∙ n))))
