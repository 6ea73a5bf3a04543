-- From the lemmas of LeftLemmas.
use Rattle.std.proofs.Common.{◌∙◌, sym}
use Rattle.std.proofs.lemmas.Result.{IfErr-weaker, IfOk-weaker, err_from_is_err_and}
use Rattle.leak_search.proofs.ListedLemmas.{at_some}
use Rattle.leak_passing.proofs.LeftLemmas.{made_of}
use Rattle.leak_passing.proofs.finding.find_left.Goals as goal

pub returns-in_err-listed-clause-refused : goal.returns-in_err-listed-clause-refused
returns-in_err-listed-clause-refused g c =
    let made = made_of c.args.left _ c.in_ok-input.input c.as_slice.ensures.value c.in_ok-input.ensures.image c.in_ok-input.ensures.threads c.in_ok-input.ensures.live c.in_ok-input.ensures.skip
    c.in_ok-input.ensures.spans c.in_ok-input.ensures.torn in
    let p = err_from_is_err_and c.from_residual-in_err-listed.result c.from_residual-in_err-listed.ensures.1 in
    rw (p.1, p.2) (λ other check core log it.
    let prepared = it.prepared c.in_ok-input.input made in prepared.faults _ (c.in_err-listed.ensures.refused other log prepared.lines prepared.here))

-- ---- over the words

pub find_kept-requires-clause-prepared : goal.find_kept-requires-clause-prepared
find_kept-requires-clause-prepared g c κs within =
    let left = c.requires.left in
    let made = made_of c.args.left _ c.in_ok-input.input c.as_slice.ensures.value c.in_ok-input.ensures.image c.in_ok-input.ensures.threads c.in_ok-input.ensures.live c.in_ok-input.ensures.skip
    c.in_ok-input.ensures.spans c.in_ok-input.ensures.torn in
    (left.0, left.1, left.2, left.3.prepared c.in_ok-input.input made)

pub returns-in_default-clause-ok : goal.returns-in_default-clause-ok
returns-in_default-clause-ok g c =
    let made = made_of c.args.left _ c.in_ok-input.input c.as_slice.ensures.value c.in_ok-input.ensures.image c.in_ok-input.ensures.threads c.in_ok-input.ensures.live c.in_ok-input.ensures.skip
    c.in_ok-input.ensures.spans c.in_ok-input.ensures.torn in
    IfOk-weaker c.find_kept.result _ _ (λ found finds check core log it. finds check core log (it.prepared c.in_ok-input.input made)) c.find_kept.ensures.ok

pub returns-in_default-clause-refused : goal.returns-in_default-clause-refused
returns-in_default-clause-refused g c =
    let made = made_of c.args.left _ c.in_ok-input.input c.as_slice.ensures.value c.in_ok-input.ensures.image c.in_ok-input.ensures.threads c.in_ok-input.ensures.live c.in_ok-input.ensures.skip
    c.in_ok-input.ensures.spans c.in_ok-input.ensures.torn in
    IfErr-weaker c.find_kept.result _ _ (λ e fault other check core log it. fault other check core log (it.prepared c.in_ok-input.input made)) c.find_kept.ensures.refused

-- ---- over the lists

pub find_listed-requires-after_bounds : goal.find_listed-requires-after_bounds
find_listed-requires-after_bounds g c κs within =
    let left = c.requires.left in
    let made = made_of c.args.left _ c.in_ok-input.input c.as_slice.ensures.value c.in_ok-input.ensures.image c.in_ok-input.ensures.threads c.in_ok-input.ensures.live c.in_ok-input.ensures.skip
    c.in_ok-input.ensures.spans c.in_ok-input.ensures.torn in (
      c.args.rules,
      left.0,
      left.1,
      left.2,
      record {
        input = c.in_ok-input.input;
        prepared = left.3.prepared c.in_ok-input.input made;
        live_is = sym c.without_core-live.ensures.live;
        skip = c.in_ok-input.ensures.skip ∙ c.requires.skip;
        lists = at_some _ c.in_ok-listed.field-0 c.in-Some.listed c.in-Some.is c.in_ok-listed.ensures.listed;
      },
    )

pub returns-clause-ok : goal.returns-clause-ok
returns-clause-ok g c =
    let made = made_of c.args.left _ c.in_ok-input.input c.as_slice.ensures.value c.in_ok-input.ensures.image c.in_ok-input.ensures.threads c.in_ok-input.ensures.live c.in_ok-input.ensures.skip
    c.in_ok-input.ensures.spans c.in_ok-input.ensures.torn in
    IfOk-weaker c.find_listed.result _ _ (λ found finds check core log it. finds c.args.rules check core log (record {
      input = c.in_ok-input.input;
      prepared = it.prepared c.in_ok-input.input made;
      live_is = sym c.without_core-live.ensures.live;
      skip = c.in_ok-input.ensures.skip ∙ c.requires.skip;
      lists = at_some _ c.in_ok-listed.field-0 c.in-Some.listed c.in-Some.is c.in_ok-listed.ensures.listed;
    })) c.find_listed.ensures.ok
