-- From the lemmas of FoundLemmas and HoldingLemmas.
use Rattle.std.proofs.Common.{◌∙◌, ap, subst, ℕ, [], ◌∷◌, Vec, Global}
use Rattle.std.proofs.lemmas.Result.{IfErr-weaker, IfOk-weaker, err_from_is_err_and}
use Rattle.leak_index.specs.Readings.{distances_of}
use Rattle.leak_roots.specs.declared.skip.Skip.{Skip}
use Rattle.leak_search.specs.Signs.{AreSigns}
use Rattle.leak_search.specs.declared.why.WhyError.TheVariants.{Find}
use Rattle.leak_search.proofs.SignLemmas.{are_of_one}
use Rattle.leak_holder_search.specs.Held.{FindsHeld, IsHeldFault}
use Rattle.leak_holder_search.specs.Since.{earlier}
use Rattle.leak_holder_search.proofs.HeldLemmas.{none_asked}
use Rattle.leak_passing.proofs.FoundLemmas.{both_ok, moved}
use Rattle.leak_passing.proofs.HoldingLemmas.{held_core, listed_of, refused_held, signs_of_held}
use Rattle.leak_passing.proofs.holding.find_passed_held.Goals as goal

pub find_listed_held-requires-after_bounds : goal.find_listed_held-requires-after_bounds
find_listed_held-requires-after_bounds g c κs within =
    let is = c.in_ok-live.ensures.listed in
    (is.input, distances_of c.args.rules.reading, listed_of c.args.rules c.args.passed _ _ is c.as_slice.ensures.value)

pub returns-in_err-live-clause-refused : goal.returns-in_err-live-clause-refused
returns-in_err-live-clause-refused g c =
    let p = err_from_is_err_and c.from_residual.result c.from_residual.ensures.1 in
    rw (p.1, p.2) (λ other. c.in_err-live.ensures.refused (λ n. other (ap Find n)))

pub returns-clause-ok : goal.returns-clause-ok
returns-clause-ok g c = IfOk-weaker c.find_listed_held.result _ _ (λ found finds core log here.
    let is = c.in_ok-live.ensures.listed in
    let kept = c.as_slice.ensures.value ∙ ap (λ (v : Vec ℕ Global). v.items) is.log ∙ here.text in
    held_core core log c.args.rules.skip c.args.passed here is.full (earlier c.args.since) (distances_of c.args.rules.reading) found c.holders_of_sifted_cores.ensures.chosen c.args.question
    (moved (λ f l. FindsHeld f l (earlier c.args.since) (distances_of c.args.rules.reading) c.args.rules.skip c.args.question found) _ _ _ _ is.image kept
    (subst (λ (k : Skip). FindsHeld is.input.image c.as_slice.result.now (earlier c.args.since) (distances_of c.args.rules.reading) k c.args.question found) is.skip
    (finds is.input (distances_of c.args.rules.reading) (listed_of c.args.rules c.args.passed _ _ is c.as_slice.ensures.value))))) c.find_listed_held.ensures.ok

pub returns-clause-signs : goal.returns-clause-signs
returns-clause-signs g c = both_ok c.find_listed_held.result _ _ _ (λ found finds signs core log here.
    let is = c.in_ok-live.ensures.listed in
    let kept = c.as_slice.ensures.value ∙ ap (λ (v : Vec ℕ Global). v.items) is.log ∙ here.text in
    let listed = listed_of c.args.rules c.args.passed _ _ is c.as_slice.ensures.value in
    signs_of_held core log c.args.rules.skip c.args.passed here is.full (earlier c.args.since) (distances_of c.args.rules.reading) found
    c.holders_of_sifted_cores.ensures.chosen c.searches_of_sifted_cores.ensures.signs c.args.question c.args.rules.other_heap
    (moved (λ f l. FindsHeld f l (earlier c.args.since) (distances_of c.args.rules.reading) c.args.rules.skip c.args.question found) _ _ _ _ is.image kept
    (subst (λ (k : Skip). FindsHeld is.input.image c.as_slice.result.now (earlier c.args.since) (distances_of c.args.rules.reading) k c.args.question found) is.skip
    (finds is.input (distances_of c.args.rules.reading) listed)))
    (moved (λ f l. AreSigns c.args.rules.other_heap (f ∷ l ∷ []) found.signs.items) _ _ _ _ is.image kept
    (are_of_one c.args.rules.other_heap is.input.image _ is.input found.signs.items listed.read (signs ∙ is.signs)))) c.find_listed_held.ensures.ok c.find_listed_held.ensures.signs

pub returns-clause-refused : goal.returns-clause-refused
returns-clause-refused g c = IfErr-weaker c.find_listed_held.result _ _ (λ e fault other core log here.
    let is = c.in_ok-live.ensures.listed in
    let kept = c.as_slice.ensures.value ∙ ap (λ (v : Vec ℕ Global). v.items) is.log ∙ here.text in
    let none = fault other in
    refused_held core log c.args.rules.skip c.args.passed here c.holders_of_sifted_cores.ensures.refused_chosen (earlier c.args.since) c.args.question.address e
    (moved (λ f l. IsHeldFault f l (earlier c.args.since) c.args.question.address e) _ _ _ _ is.image kept
    (none_asked _ _ (record { log = c.as_slice.result; since = c.args.since }) c.args.question.address e none.0 none.1 is.input (distances_of c.args.rules.reading)
    (listed_of c.args.rules c.args.passed _ _ is c.as_slice.ensures.value)))) c.find_listed_held.ensures.refused
