-- From the lemmas of InputLemmas and SearchedLemmas.
use Rattle.std.proofs.Common.{◌≡◌, ◌∙◌, List, [], ◌∷◌, length, ap, subst, sym}
use Rattle.std.proofs.lemmas.Result.{err_from_is_err_and}
use Rattle.leak_report.specs.declared.signs.Signs.{Signs}
use Rattle.leak_search.specs.declared.found.Found.{Found}
use Rattle.leak_search.specs.Signs.{AreSigns}
use Rattle.leak_search.proofs.InputLemmas.{input_blocks, input_callers}
use Rattle.leak_search.proofs.SearchLemmas.{at_ok, ok_by}
use Rattle.leak_search.proofs.SearchedLemmas.{finds_searched, heads_each, searches_by, set_each, told_each}
use Rattle.leak_search.proofs.SignLemmas.{are_of_one}
use Rattle.leak_search.proofs.TwoLemmas.{for_memory}
use Rattle.leak_search.proofs.one_core.find_in.Goals as goal

pub found_of-requires-clause-one_each : goal.found_of-requires-clause-one_each
found_of-requires-clause-one_each g c =
    let read = c.requires.read in
    set_each _ _ read.0 _ _ _ _ c.in_ok-searched.searched (searches_by _ _ read.0 _ _ _ _ c.args.input.now c.in_ok-consistency.consistency.fits c.in_ok-searched.searched read.1 (c.in_ok-searched.ensures.marks _ read.0 read.1) c.in_ok-searched.ensures.fits c.in_ok-consistency.ensures.fits) _ (ap length (input_blocks _ _ read.0 _ read.1))

pub found_of-requires-clause-an_entry_each : goal.found_of-requires-clause-an_entry_each
found_of-requires-clause-an_entry_each g c =
    let read = c.requires.read in
    heads_each _ _ read.0 _ _ _ _ c.in_ok-searched.searched (searches_by _ _ read.0 _ _ _ _ c.args.input.now c.in_ok-consistency.consistency.fits c.in_ok-searched.searched read.1 (c.in_ok-searched.ensures.marks _ read.0 read.1) c.in_ok-searched.ensures.fits c.in_ok-consistency.ensures.fits) _ (ap length (input_blocks _ _ read.0 _ read.1))

pub found_of-requires-clause-a_fit_each : goal.found_of-requires-clause-a_fit_each
found_of-requires-clause-a_fit_each g c =
    let read = c.requires.read in
    told_each _ _ read.0 _ _ _ _ c.in_ok-searched.searched (searches_by _ _ read.0 _ _ _ _ c.args.input.now c.in_ok-consistency.consistency.fits c.in_ok-searched.searched read.1 (c.in_ok-searched.ensures.marks _ read.0 read.1) c.in_ok-searched.ensures.fits c.in_ok-consistency.ensures.fits) _ (ap length (input_blocks _ _ read.0 _ read.1))

pub found_of-requires-clause-in_bytes : goal.found_of-requires-clause-in_bytes
found_of-requires-clause-in_bytes g c = input_callers _ _ _ c.requires.read

pub returns-clause-ok : goal.returns-clause-ok
returns-clause-ok g c = ok_by _ _ (λ found is.
    let read = c.requires.read in
    finds_searched _ _ read.0 _ _ _ _ c.args.input.now c.in_ok-searched.searched found read.1 (searches_by _ _ read.0 _ _ _ _ c.args.input.now c.in_ok-consistency.consistency.fits c.in_ok-searched.searched read.1 (c.in_ok-searched.ensures.marks _ read.0 read.1) c.in_ok-searched.ensures.fits c.in_ok-consistency.ensures.fits)
    (at_ok _ _ found is c.found_of.ensures.report) (at_ok _ _ found is c.found_of.ensures.leaked) (at_ok _ _ found is c.found_of.ensures.claims))

pub returns-clause-signs : goal.returns-clause-signs
returns-clause-signs g c = ok_by (λ (found : Found). AreSigns c.args.rules.other_heap (c.args.input.now.image ∷ c.args.log.now ∷ []) found.signs.items) c.found_of.result (λ found is.
    subst (λ (signs : List Signs). AreSigns c.args.rules.other_heap (c.args.input.now.image ∷ c.args.log.now ∷ []) signs)
    (sym (at_ok (λ (f : Found). f.signs.items ≡ c.in_ok-searched.searched.signs.items) c.found_of.result found is c.found_of.ensures.signs))
    (are_of_one _ _ c.args.log.now c.args.input.now _ c.requires.read (c.in_ok-searched.ensures.signs ∙ c.in_ok-consistency.ensures.signs)))

pub returns-clause-refused : goal.returns-clause-refused
returns-clause-refused g c = for_memory _ _ c.found_of.ensures.memory

pub returns-in_err-searched-clause-refused : goal.returns-in_err-searched-clause-refused
returns-in_err-searched-clause-refused g c =
    let p = err_from_is_err_and c.from_residual-in_err-searched.result c.from_residual-in_err-searched.ensures.1 in
    let read = c.requires.read in
    rw (p.1, p.2) (λ other. c.in_err-searched.ensures.refused other _ read.0 read.1)
