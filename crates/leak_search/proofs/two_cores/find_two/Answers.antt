-- From the lemmas.
use Rattle.std.proofs.Common.{◌≡◌, ◌∙◌, ap, [], ◌∷◌, Some, Bool, Vec, Global, length, option_map, refl}
use Rattle.std.proofs.lemmas.Result.{err_from_is_err_and}
use Rattle.leak_scan.proofs.Held.{length-heads_of}
use Rattle.leak_report.specs.declared.signs.Signs.{Signs}
use Rattle.leak_report.specs.Totals.{leaked_in}
use Rattle.leak_report.specs.declared.head.Two.{Two}
use Rattle.leak_search.specs.Report.{head_with}
use Rattle.leak_search.proofs.InputLemmas.{as_input, fits_each, input_callers}
use Rattle.leak_search.proofs.SearchLemmas.{at_ok, ok_by}
use Rattle.leak_search.specs.declared.found.Found.{Found}
use Rattle.leak_search.specs.Signs.{AreSigns}
use Rattle.leak_search.proofs.SignLemmas.{are_of_two}
use Rattle.leak_search.proofs.PairLemmas.{paired}
use Rattle.leak_search.proofs.SearchedLemmas.{fits_as, report_by}
use Rattle.leak_search.proofs.TwoLemmas.{carried, finds_two, for_memory}
use Rattle.leak_search.proofs.two_cores.find_two.Goals as goal

pub compare-requires-clause-paired : goal.compare-requires-clause-paired
compare-requires-clause-paired g c κs within = (c.in_ok-inputs.ensures.read.before, c.in_ok-inputs.ensures.read.now, paired _ _ _ _ _ c.in_ok-inputs.ensures.read)

pub mark_later-requires-clause-carried : goal.mark_later-requires-clause-carried
mark_later-requires-clause-carried g c κs within = carried _ _ _ _ _ _ _ _ _ _ c.in_ok-inputs.ensures.read.second (c.in_ok-between.ensures.between _ _ (paired _ _ _ _ _ c.in_ok-inputs.ensures.read))

pub numbers_of-two-requires : goal.numbers_of-two-requires
numbers_of-two-requires g c = carried _ _ _ _ _ _ _ _ _ _ c.in_ok-inputs.ensures.read.second (c.in_ok-between.ensures.between _ _ (paired _ _ _ _ _ c.in_ok-inputs.ensures.read))

pub found_of-requires-clause-in_bytes : goal.found_of-requires-clause-in_bytes
found_of-requires-clause-in_bytes g c = input_callers _ _ _ (c.in_ok-inputs.ensures.read.now, c.in_ok-inputs.ensures.read.second)

pub found_of-requires-clause-an_entry_each : goal.found_of-requires-clause-an_entry_each
found_of-requires-clause-an_entry_each g c =
    ap length c.in_ok-searched.ensures.heads ∙ length-heads_of _ _ _ ∙ ap (λ i. length i.blocks) c.in_ok-indexed.ensures.lookup

pub found_of-requires-clause-a_fit_each : goal.found_of-requires-clause-a_fit_each
found_of-requires-clause-a_fit_each g c =
    fits_each c.in_ok-searched.searched.fits c.args.lists_misfits c.in_ok-inputs.inputs.second (fits_as c.in_ok-searched.ensures.fits c.in_ok-consistency.ensures.fits)

pub returns-in_err-searched-clause-refused : goal.returns-in_err-searched-clause-refused
returns-in_err-searched-clause-refused g c =
    let p = err_from_is_err_and c.from_residual-in_err-searched.result c.from_residual-in_err-searched.ensures.1 in
    rw (p.1) (λ other. absurd (other p.2))

pub returns-clause-refused : goal.returns-clause-refused
returns-clause-refused g c = for_memory _ _ c.found_of.ensures.memory

pub returns-clause-ok : goal.returns-clause-ok
returns-clause-ok g c = ok_by _ _ (λ found is.
    finds_two _ _ _ _ _ _ _ _ c.in_ok-inputs.inputs _ _ _ _ c.in_ok-between.between c.in_ok-retraced.retraced _ _ found c.in_ok-inputs.ensures.read c.same_words_lead_within.ensures
    (c.in_ok-between.ensures.between _ _ (paired _ _ _ _ _ c.in_ok-inputs.ensures.read)) c.in_ok-inputs.ensures.skip c.in_ok-indexed.ensures.lookup (c.in_ok-indexed.ensures.roots _ (as_input _ _ _ _ c.in_ok-inputs.ensures.read.second)) c.in_ok-retraced.ensures.traced refl refl
    (c.head_of-head.ensures ∙ ap (λ (t : Two). head_with c.in_ok-inputs.inputs.second c.in_ok-indexed.indexed.roots (Some t)) c.numbers_of-two.ensures)
    c.in_ok-consistency.ensures.fits
    (report_by c.in_ok-searched.searched _ _ _ _ _ _ found.report.items c.in_ok-searched.ensures.head (ap (λ (v : Vec Bool Global). v.items) c.in_ok-searched.ensures.set) c.in_ok-searched.ensures.heads
    (ap (option_map (λ (v : Vec Bool Global). v.items)) c.in_ok-searched.ensures.fits) (at_ok _ _ found is c.found_of.ensures.report))
    (at_ok _ _ found is c.found_of.ensures.leaked ∙ ap (λ (v : Vec Bool Global). length (leaked_in v.items c.in_ok-inputs.inputs.second.live.blocks)) c.in_ok-searched.ensures.set)
    (at_ok _ _ found is c.found_of.ensures.claims ∙ c.in_ok-searched.ensures.claims))

pub returns-clause-signs : goal.returns-clause-signs
returns-clause-signs g c = ok_by
    (λ (found : Found). AreSigns c.args.rules.other_heap (c.args.core1.now ∷ c.args.log1.now ∷ c.args.core2.now ∷ c.args.log2.now ∷ []) found.signs.items) c.found_of.result (λ found is.
    are_of_two c.args.rules.other_heap c.args.core1.now c.args.log1.now c.args.core2.now c.args.log2.now c.in_ok-inputs.inputs.first c.in_ok-inputs.inputs.second found.signs.items
    (c.in_ok-inputs.ensures.read.before, c.in_ok-inputs.ensures.read.first) (c.in_ok-inputs.ensures.read.now, c.in_ok-inputs.ensures.read.second)
    (at_ok (λ (f : Found). f.signs.items ≡ c.in_ok-searched.searched.signs.items) c.found_of.result found is c.found_of.ensures.signs
    ∙ ap (λ (v : Vec Signs Global). v.items) c.in_ok-searched.ensures.signs ∙ c.in_ok-consistency.ensures.signs))
