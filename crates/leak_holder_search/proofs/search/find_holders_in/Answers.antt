-- From the lemmas of SignLemmas.
use Rattle.std.proofs.Common.{refl, sym, subst, ◌∙◌}
use Rattle.std.proofs.lemmas.Result.{err_from_is_err_and}
use Rattle.leak_index.specs.Readings.{distances_of}
use Rattle.leak_roots.specs.declared.skip.Skip.{Skip}
use Rattle.leak_search.specs.declared.error.FindError.{FindError}
use Rattle.leak_search.proofs.SignLemmas.{are_of_one}
use Rattle.leak_holder_search.specs.Holders.{FindsHolders, IsFaultOfHolders}
use Rattle.leak_holder_search.specs.Since.{earlier}
use Rattle.leak_holder_search.proofs.search.find_holders_in.Goals as goal

pub find_listed_holders-requires-after_bounds : goal.find_listed_holders-requires-after_bounds
find_listed_holders-requires-after_bounds g c κs within = (
  c.args.input.now,
  distances_of c.args.rules.reading,
  record { read = c.requires.read; continued = c.in_ok-core.ensures.continued; live_is = refl; lists = c.in_ok-core.ensures.listed },
)

pub returns-in_err-core-clause-refused : goal.returns-in_err-core-clause-refused
returns-in_err-core-clause-refused g c =
    let p = err_from_is_err_and c.from_residual.result c.from_residual.ensures.1 in
    rw (p.1) (λ other. subst (λ (e : FindError). IsFaultOfHolders c.args.input.now.image c.args.logs.now.log.now (earlier c.args.logs.now.since) e) (sym p.2)
    (c.in_err-core.ensures.refused (λ n. other (p.2 ∙ n))))

pub returns-clause-ok : goal.returns-clause-ok
returns-clause-ok g c =
    subst (λ (k : Skip). FindsHolders c.args.input.now.image c.args.logs.now.log.now (earlier c.args.logs.now.since) (distances_of c.args.rules.reading) k c.in_ok-find_listed_holders.field-0) c.requires.skip
    (c.in_ok-find_listed_holders.ensures.ok c.args.input.now (distances_of c.args.rules.reading)
    (record { read = c.requires.read; continued = c.in_ok-core.ensures.continued; live_is = refl; lists = c.in_ok-core.ensures.listed }))

pub returns-clause-signs : goal.returns-clause-signs
returns-clause-signs g c =
    are_of_one c.args.rules.other_heap c.args.input.now.image c.args.logs.now.log.now c.args.input.now _ c.requires.read
    (c.in_ok-find_listed_holders.ensures.signs ∙ c.in_ok-core.ensures.signs)
