-- From the lemmas of SignLemmas, InputLemmas, SearchLemmas and SearchedLemmas.
use Rattle.std.proofs.Common.{◌≡◌, ℕ, ap, subst, ◌∙◌, Err, [], ◌∷◌, List, Vec, Global, length}
use Rattle.std.proofs.lemmas.Result.{err_from_is_err_and}
use Rattle.leak_report.specs.declared.signs.Signs.{Signs}
use Rattle.leak_index.specs.Readings.{distances_of}
use Rattle.leak_scan.proofs.Held.{length-heads_of}
use Rattle.leak_search.specs.declared.found.Found.{Found}
use Rattle.leak_search.specs.Search.{FindsOne}
use Rattle.leak_search.specs.Signs.{AreSigns}
use Rattle.leak_search.proofs.SignLemmas.{are_of_one}
use Rattle.leak_search.proofs.InputLemmas.{as_input, fits_each, input_callers, own_core}
use Rattle.leak_search.proofs.SearchLemmas.{at_ok, marking_refused, ok_by}
use Rattle.leak_search.proofs.SearchedLemmas.{finds_searched, fits_as, marks_read, searches_by}
use Rattle.leak_search.proofs.alone.find_alone.Goals as goal

pub returns-in_err-marked-clause-refused : goal.returns-in_err-marked-clause-refused
returns-in_err-marked-clause-refused c =
    let p = err_from_is_err_and c.from_residual-in_err-marked.result c.from_residual-in_err-marked.ensures.1 in
    rw (p.1) (λ other. marking_refused _ _ c.in_ok-input.input _ _ c.in_ok-input.ensures.ok p.2 (λ e. c.in_err-marked.ensures.many.0 (ap Err e)) other)

pub found_of-requires-clause-in_bytes : goal.found_of-requires-clause-in_bytes
found_of-requires-clause-in_bytes c = input_callers _ _ _ c.in_ok-input.ensures.ok

pub found_of-requires-clause-an_entry_each : goal.found_of-requires-clause-an_entry_each
found_of-requires-clause-an_entry_each c =
    ap length c.in_ok-searched.ensures.heads ∙ length-heads_of _ _ _ ∙ ap (λ i. length i.blocks) c.new-lookup.ensures

pub found_of-requires-clause-a_fit_each : goal.found_of-requires-clause-a_fit_each
found_of-requires-clause-a_fit_each c = fits_each c.in_ok-searched.searched.fits c.args.lists_misfits c.in_ok-input.input (fits_as c.in_ok-searched.ensures.fits c.in_ok-consistency.ensures.fits)

pub returns-clause-ok : goal.returns-clause-ok
returns-clause-ok c = ok_by _ _ (λ found is.
    let read = c.in_ok-input.ensures.ok in
    subst (λ (file : List ℕ). FindsOne file c.args.log.now (distances_of c.args.rules.reading) c.args.rules.skip c.args.lists_misfits 1 found) read.1.image
    (finds_searched _ _ read.0 _ _ _ _ c.in_ok-input.input c.in_ok-searched.searched found (own_core _ _ read.0 _ read.1)
    (searches_by _ _ read.0 _ _ _ _ c.in_ok-input.input c.in_ok-consistency.consistency.fits c.in_ok-searched.searched (own_core _ _ read.0 _ read.1)
    (marks_read _ read.0 _ _ _ c.in_ok-input.input _ _ c.in_ok-marked.marked _ (own_core _ _ read.0 _ read.1) c.in_ok-input.ensures.skip c.in_ok-marked.ensures.many.1
    c.new-lookup.ensures (c.in_ok-roots.ensures _ (as_input _ _ _ _ read.1)) c.in_ok-marked.ensures.marks
    (c.in_ok-searched.ensures.head ∙ c.head_of-head.ensures)
    c.in_ok-searched.ensures.set c.in_ok-searched.ensures.heads c.in_ok-searched.ensures.claims)
    c.in_ok-searched.ensures.fits c.in_ok-consistency.ensures.fits)
    (at_ok _ _ found is c.found_of.ensures.report) (at_ok _ _ found is c.found_of.ensures.leaked) (at_ok _ _ found is c.found_of.ensures.claims)))

pub returns-clause-signs : goal.returns-clause-signs
returns-clause-signs c = ok_by (λ (found : Found). AreSigns c.args.rules.other_heap (c.args.core.now ∷ c.args.log.now ∷ []) found.signs.items) c.found_of.result (λ found is.
    are_of_one c.args.rules.other_heap c.args.core.now c.args.log.now c.in_ok-input.input found.signs.items c.in_ok-input.ensures.ok
    (at_ok (λ (f : Found). f.signs.items ≡ c.in_ok-searched.searched.signs.items) c.found_of.result found is c.found_of.ensures.signs
    ∙ ap (λ (v : Vec Signs Global). v.items) c.in_ok-searched.ensures.signs ∙ c.in_ok-consistency.ensures.signs))
