-- From the lemmas of LeftLemmas.
use Rattle.std.proofs.Common.{◌∙◌}
use Rattle.std.proofs.lemmas.Result.{IfOk-weaker}
use Rattle.leak_search.proofs.SearchLemmas.{at_ok, ok_by}
use Rattle.leak_passing.proofs.LeftLemmas.{a_fit_each_listed, an_entry_each_listed, finds_listed, listed_texts, one_each_listed}
use Rattle.leak_passing.proofs.finding.find_listed.Goals as goal

pub found_by_texts-requires-clause-texts : goal.found_by_texts-requires-clause-texts
found_by_texts-requires-clause-texts g c =
    let r = c.requires in
    (r.3, listed_texts r.2 r.3 r.1 r.0 c.args.live c.args.listed c.args.consistency c.args.kept r.4 _ c.in_ok-searched.searched c.in_ok-searched.ensures.marks c.in_ok-searched.ensures.fits)

pub found_by_texts-requires-clause-one_each : goal.found_by_texts-requires-clause-one_each
found_by_texts-requires-clause-one_each g c =
    let r = c.requires in
    one_each_listed r.2 r.3 r.1 r.0 c.args.live c.args.listed c.args.consistency c.args.kept r.4 _ c.in_ok-searched.searched c.in_ok-searched.ensures.marks c.in_ok-searched.ensures.fits

pub found_by_texts-requires-clause-an_entry_each : goal.found_by_texts-requires-clause-an_entry_each
found_by_texts-requires-clause-an_entry_each g c =
    let r = c.requires in
    an_entry_each_listed r.2 r.3 r.1 r.0 c.args.live c.args.listed c.args.consistency c.args.kept r.4 _ c.in_ok-searched.searched c.in_ok-searched.ensures.marks c.in_ok-searched.ensures.fits

pub found_by_texts-requires-clause-a_fit_each : goal.found_by_texts-requires-clause-a_fit_each
found_by_texts-requires-clause-a_fit_each g c =
    let r = c.requires in
    a_fit_each_listed r.2 r.3 r.1 r.0 c.args.live c.args.listed c.args.consistency c.args.kept r.4 _ c.in_ok-searched.searched c.in_ok-searched.ensures.marks c.in_ok-searched.ensures.fits

pub returns-clause-ok : goal.returns-clause-ok
returns-clause-ok g c = ok_by _ c.found_by_texts.result (λ found is rules check core log it.
    finds_listed core log check rules c.args.live c.args.listed c.args.consistency c.args.kept it _ c.in_ok-searched.searched c.in_ok-searched.ensures.marks c.in_ok-searched.ensures.fits found
    (at_ok _ _ found is c.found_by_texts.ensures.report) (at_ok _ _ found is c.found_by_texts.ensures.leaked) (at_ok _ _ found is c.found_by_texts.ensures.claims))

pub returns-clause-signs : goal.returns-clause-signs
returns-clause-signs g c = IfOk-weaker c.found_by_texts.result _ _ (λ found same. same ∙ c.in_ok-searched.ensures.signs) c.found_by_texts.ensures.signs
