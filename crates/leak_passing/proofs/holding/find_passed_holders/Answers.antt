-- From the lemmas of FoundLemmas and HoldingLemmas.
use Rattle.std.proofs.Common.{◌∙◌, ap, subst, ℕ, [], ◌∷◌, Vec, Global}
use Rattle.std.proofs.lemmas.Result.{err_from_is_err_and}
use Rattle.leak_index.specs.Readings.{distances_of}
use Rattle.leak_roots.specs.declared.skip.Skip.{Skip}
use Rattle.leak_search.specs.Signs.{AreSigns}
use Rattle.leak_search.proofs.SignLemmas.{are_of_one}
use Rattle.leak_holder_search.specs.Holders.{FindsHolders}
use Rattle.leak_holder_search.specs.Since.{earlier}
use Rattle.leak_passing.proofs.FoundLemmas.{moved}
use Rattle.leak_passing.proofs.HoldingLemmas.{holders_core, listed_of, signs_of_holders}
use Rattle.leak_passing.proofs.holding.find_passed_holders.Goals as goal

pub find_listed_holders-requires-after_bounds : goal.find_listed_holders-requires-after_bounds
find_listed_holders-requires-after_bounds g c κs within =
    let is = c.in_ok-live.ensures.listed in
    (is.input, distances_of c.args.rules.reading, listed_of c.args.rules c.args.passed _ _ is c.as_slice.ensures.value)

pub returns-in_err-live-clause-refused : goal.returns-in_err-live-clause-refused
returns-in_err-live-clause-refused g c =
    let p = err_from_is_err_and c.from_residual.result c.from_residual.ensures.1 in
    rw (p.1, p.2) c.in_err-live.ensures.refused

pub returns-clause-ok : goal.returns-clause-ok
returns-clause-ok g c = λ core log here.
    let is = c.in_ok-live.ensures.listed in
    let kept = c.as_slice.ensures.value ∙ ap (λ (v : Vec ℕ Global). v.items) is.log ∙ here.text in
    let finds = c.in_ok-find_listed_holders.ensures.ok is.input (distances_of c.args.rules.reading) (listed_of c.args.rules c.args.passed _ _ is c.as_slice.ensures.value) in
    holders_core core log c.args.rules.skip c.args.passed here is.full (earlier c.args.since) (distances_of c.args.rules.reading) c.in_ok-find_listed_holders.field-0 c.holders_of_sifted_cores.ensures.holders
    (moved (λ f l. FindsHolders f l (earlier c.args.since) (distances_of c.args.rules.reading) c.args.rules.skip c.in_ok-find_listed_holders.field-0) _ _ _ _ is.image kept
    (subst (λ (k : Skip). FindsHolders is.input.image c.as_slice.result.now (earlier c.args.since) (distances_of c.args.rules.reading) k c.in_ok-find_listed_holders.field-0) is.skip finds))

pub returns-clause-signs : goal.returns-clause-signs
returns-clause-signs g c = λ core log here.
    let is = c.in_ok-live.ensures.listed in
    let kept = c.as_slice.ensures.value ∙ ap (λ (v : Vec ℕ Global). v.items) is.log ∙ here.text in
    let listed = listed_of c.args.rules c.args.passed _ _ is c.as_slice.ensures.value in
    let finds = c.in_ok-find_listed_holders.ensures.ok is.input (distances_of c.args.rules.reading) listed in
    signs_of_holders core log c.args.rules.skip c.args.passed here is.full (earlier c.args.since) (distances_of c.args.rules.reading) c.in_ok-find_listed_holders.field-0
    c.holders_of_sifted_cores.ensures.holders c.searches_of_sifted_cores.ensures.signs c.args.rules.other_heap
    (moved (λ f l. FindsHolders f l (earlier c.args.since) (distances_of c.args.rules.reading) c.args.rules.skip c.in_ok-find_listed_holders.field-0) _ _ _ _ is.image kept
    (subst (λ (k : Skip). FindsHolders is.input.image c.as_slice.result.now (earlier c.args.since) (distances_of c.args.rules.reading) k c.in_ok-find_listed_holders.field-0) is.skip finds))
    (moved (λ f l. AreSigns c.args.rules.other_heap (f ∷ l ∷ []) c.in_ok-find_listed_holders.field-0.signs.items) _ _ _ _ is.image kept
    (are_of_one c.args.rules.other_heap is.input.image _ is.input _ listed.read (c.in_ok-find_listed_holders.ensures.signs ∙ is.signs)))
