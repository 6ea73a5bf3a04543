-- From the lemmas of SearchLemmas, SearchedLemmas and SignLemmas.
use Rattle.std.proofs.Common.{◌∙◌, ap, Err, Vec, Global}
use Rattle.std.proofs.lemmas.Result.{err_from_is_err_and}
use Rattle.leak_report.specs.declared.signs.Signs.{Signs}
use Rattle.leak_pool.proofs.LeadingLemmas.{marks_by_led}
use Rattle.leak_search.proofs.InputLemmas.{as_input}
use Rattle.leak_search.proofs.SearchLemmas.{marking_refused}
use Rattle.leak_search.proofs.SearchedLemmas.{marks_read}
use Rattle.leak_search.proofs.one_core.search_from.Goals as goal

pub returns-in_err-marked-clause-refused : goal.returns-in_err-marked-clause-refused
returns-in_err-marked-clause-refused g c =
    let p = err_from_is_err_and c.from_residual-in_err-marked.result c.from_residual-in_err-marked.ensures.1 in
    rw (p.1) (λ other log lines read.
    marking_refused _ log c.args.input.now _ _ (lines, read) p.2 (λ e. c.in_err-marked.ensures.many.0 (ap Err e)) other)

pub returns-clause-marks : goal.returns-clause-marks
returns-clause-marks g c = λ log lines read.
    let lead = c.in_ok-head.ensures.leading lines (as_input _ log lines _ read) in
    marks_read log lines _ _ _ c.args.input.now _ _ c.in_ok-marked.marked _ read c.requires.skip c.in_ok-marked.ensures.many.1
    c.in_ok-head.ensures.lookup lead.roots (marks_by_led _ _ _ _ _ _ lead.led c.in_ok-marked.ensures.marks)
    (c.in_ok-searched_of.ensures.head ∙ lead.head_is)
    c.in_ok-searched_of.ensures.set c.in_ok-searched_of.ensures.heads c.in_ok-searched_of.ensures.claims

pub returns-clause-signs : goal.returns-clause-signs
returns-clause-signs g c = ap (λ (v : Vec Signs Global). v.items) c.in_ok-searched_of.ensures.signs
