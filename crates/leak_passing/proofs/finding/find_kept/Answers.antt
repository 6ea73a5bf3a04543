-- From the lemmas of PreparedLemmas.
use Rattle.std.proofs.Common.{◌∙◌}
use Rattle.std.proofs.lemmas.Result.{IfOk-weaker, err_from_is_err_and}
use Rattle.leak_search.proofs.SearchLemmas.{at_ok, ok_by}
use Rattle.leak_search.proofs.TwoLemmas.{for_memory}
use Rattle.leak_passing.proofs.PreparedLemmas.{a_fit_each, an_entry_each, finds_prepared, kept_texts, one_each}
use Rattle.leak_passing.proofs.finding.find_kept.Goals as goal

pub found_by_texts-requires-clause-texts : goal.found_by_texts-requires-clause-texts
found_by_texts-requires-clause-texts g c =
    let it = c.requires.prepared in
    (it.2, kept_texts it.1 it.2 it.0 c.args.rules c.args.input c.args.consistency c.args.kept it.3 _ c.in_ok-searched.searched c.in_ok-searched.ensures.marks c.in_ok-searched.ensures.fits)

pub found_by_texts-requires-clause-one_each : goal.found_by_texts-requires-clause-one_each
found_by_texts-requires-clause-one_each g c =
    let it = c.requires.prepared in
    one_each it.1 it.2 it.0 c.args.rules c.args.input c.args.consistency c.args.kept it.3 _ c.in_ok-searched.searched c.in_ok-searched.ensures.marks c.in_ok-searched.ensures.fits

pub found_by_texts-requires-clause-an_entry_each : goal.found_by_texts-requires-clause-an_entry_each
found_by_texts-requires-clause-an_entry_each g c =
    let it = c.requires.prepared in
    an_entry_each it.1 it.2 it.0 c.args.rules c.args.input c.args.consistency c.args.kept it.3 _ c.in_ok-searched.searched c.in_ok-searched.ensures.marks c.in_ok-searched.ensures.fits

pub found_by_texts-requires-clause-a_fit_each : goal.found_by_texts-requires-clause-a_fit_each
found_by_texts-requires-clause-a_fit_each g c =
    let it = c.requires.prepared in
    a_fit_each it.1 it.2 it.0 c.args.rules c.args.input c.args.consistency c.args.kept it.3 _ c.in_ok-searched.searched c.in_ok-searched.ensures.marks c.in_ok-searched.ensures.fits

pub returns-clause-ok : goal.returns-clause-ok
returns-clause-ok g c = ok_by _ c.found_by_texts.result (λ found is check core log it.
    finds_prepared core log check c.args.rules c.args.input c.args.consistency c.args.kept it _ c.in_ok-searched.searched c.in_ok-searched.ensures.marks c.in_ok-searched.ensures.fits found
    (at_ok _ _ found is c.found_by_texts.ensures.report) (at_ok _ _ found is c.found_by_texts.ensures.leaked) (at_ok _ _ found is c.found_by_texts.ensures.claims))

pub returns-clause-signs : goal.returns-clause-signs
returns-clause-signs g c = IfOk-weaker c.found_by_texts.result _ _ (λ found same. same ∙ c.in_ok-searched.ensures.signs) c.found_by_texts.ensures.signs

pub returns-clause-refused : goal.returns-clause-refused
returns-clause-refused g c = for_memory _ _ c.found_by_texts.ensures.memory

pub returns-in_err-searched-clause-refused : goal.returns-in_err-searched-clause-refused
returns-in_err-searched-clause-refused g c =
    let p = err_from_is_err_and c.from_residual.result c.from_residual.ensures.1 in
    rw (p.1, p.2) (λ other check core log it. it.faults _ (c.in_err-searched.ensures.refused other log it.lines it.here))
