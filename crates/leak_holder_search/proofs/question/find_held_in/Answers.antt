-- From the lemmas of SignLemmas and HeldLemmas.
use Rattle.std.proofs.Common.{ap, refl, subst, sym, ◌∙◌}
use Rattle.std.proofs.lemmas.Result.{IfErr-weaker, IfOk-weaker, err_from_is_err_and}
use Rattle.leak_index.specs.Readings.{distances_of}
use Rattle.leak_roots.specs.declared.skip.Skip.{Skip}
use Rattle.leak_search.specs.declared.why.WhyError.{WhyError}
use Rattle.leak_search.specs.declared.why.WhyError.TheVariants.{Find}
use Rattle.leak_search.proofs.SignLemmas.{are_of_one}
use Rattle.leak_holder_search.specs.Held.{FindsHeld, IsHeldFault}
use Rattle.leak_holder_search.specs.Since.{earlier}
use Rattle.leak_holder_search.proofs.HeldLemmas.{none_asked}
use Rattle.leak_holder_search.proofs.question.find_held_in.Goals as goal

pub find_listed_held-requires-after_bounds : goal.find_listed_held-requires-after_bounds
find_listed_held-requires-after_bounds g c κs within = (
  c.args.input.now,
  distances_of c.args.rules.reading,
  record { read = c.requires.read; continued = c.in_ok-core.ensures.continued; live_is = refl; lists = c.in_ok-core.ensures.listed },
)

pub returns-in_err-core-clause-refused : goal.returns-in_err-core-clause-refused
returns-in_err-core-clause-refused g c =
    let p = err_from_is_err_and c.from_residual.result c.from_residual.ensures.1 in
    rw (p.1) (λ other. subst (λ (e : WhyError). IsHeldFault c.args.input.now.image c.args.logs.now.log.now (earlier c.args.logs.now.since) c.args.question.address e) (sym p.2)
    (c.in_err-core.ensures.refused (λ n. other (p.2 ∙ ap Find n))))

pub returns-clause-ok : goal.returns-clause-ok
returns-clause-ok g c = IfOk-weaker c.find_listed_held.result _ _ (λ found finds.
    subst (λ (k : Skip). FindsHeld c.args.input.now.image c.args.logs.now.log.now (earlier c.args.logs.now.since) (distances_of c.args.rules.reading) k c.args.question found) c.requires.skip
    (finds c.args.input.now (distances_of c.args.rules.reading)
    (record { read = c.requires.read; continued = c.in_ok-core.ensures.continued; live_is = refl; lists = c.in_ok-core.ensures.listed }))) c.find_listed_held.ensures.ok

pub returns-clause-signs : goal.returns-clause-signs
returns-clause-signs g c = IfOk-weaker c.find_listed_held.result _ _ (λ found same.
    are_of_one c.args.rules.other_heap c.args.input.now.image c.args.logs.now.log.now c.args.input.now found.signs.items c.requires.read
    (same ∙ c.in_ok-core.ensures.signs)) c.find_listed_held.ensures.signs

pub returns-clause-refused : goal.returns-clause-refused
returns-clause-refused g c = IfErr-weaker c.find_listed_held.result _ _ (λ e fault other.
    let none = fault other in
    none_asked c.args.input.now.live c.in_ok-core.core.listed c.args.logs.now c.args.question.address e none.0 none.1 c.args.input.now (distances_of c.args.rules.reading)
    (record { read = c.requires.read; continued = c.in_ok-core.ensures.continued; live_is = refl; lists = c.in_ok-core.ensures.listed })) c.find_listed_held.ensures.refused
