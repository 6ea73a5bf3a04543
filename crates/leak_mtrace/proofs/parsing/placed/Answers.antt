-- A reading has its place up to the end that was found.
use Rattle.std.proofs.Common.{◌+◌, Some, take, arith, sym, subst, ap, ◌∙◌}
use Rattle.std.proofs.lemmas.List.{take_rest, length-take-le}
use Rattle.leak_mtrace.specs.Line.{IsAfterPlace}
use Rattle.leak_mtrace.specs.CallPlace.{IsPlaceEnd}
use Rattle.leak_mtrace.proofs.DecideLemmas.{decides_none}
use Rattle.leak_mtrace.proofs.CallPlaceLemmas.{place_end_within, place_end_place}
use Rattle.leak_mtrace.proofs.LineLemmas.{behind_no_end, behind_end_zero, behind_no_space, behind_no_call, behind_whole}
use Rattle.leak_mtrace.proofs.parsing.placed.Goals as goal

pub returns-in_err-end : goal.returns-in_err-end
returns-in_err-end c = decides_none (IsAfterPlace c.args.text.now) _ c.from_residual.ensures (behind_no_end c.args.text.now (subst (IsPlaceEnd c.args.text.now) c.in_err-end.was c.place_end.ensures))

pub returns-then-end-eq0 : goal.returns-then-end-eq0
returns-then-end-eq0 c = behind_end_zero c.args.text.now (subst (IsPlaceEnd c.args.text.now) (c.in_ok-end.was ∙ ap (λ n. Some n) c.if-end-eq0.true) c.place_end.ensures)

pub returns-in_err-rest : goal.returns-in_err-rest
returns-in_err-rest c =
    let ends : IsPlaceEnd c.args.text.now (Some c.in_ok-end.end) = c.in_ok-end.ensures in
    decides_none (IsAfterPlace c.args.text.now) _ c.from_residual-in_err-rest.ensures (behind_no_space c.args.text.now _ _ c.in_ok-end.end (take_rest c.args.text.now c.in_ok-end.end) c.as_slice.ensures ends c.in_err-rest.ensures.cases)

pub returns-in_err-call : goal.returns-in_err-call
returns-in_err-call c =
    let ends : IsPlaceEnd c.args.text.now (Some c.in_ok-end.end) = c.in_ok-end.ensures in
    let space = c.in_ok-rest.ensures.cases in
    decides_none (IsAfterPlace c.args.text.now) _ c.from_residual-in_err-call.ensures (behind_no_call c.args.text.now _ _ _ c.in_ok-end.end (take_rest c.args.text.now c.in_ok-end.end) c.as_slice.ensures space.1 ends c.in_err-call.ensures)

pub returns : goal.returns
returns c =
    let ends : IsPlaceEnd c.args.text.now (Some c.in_ok-end.end) = c.in_ok-end.ensures in
    let space = c.in_ok-rest.ensures.cases in (
      take c.in_ok-end.end c.args.text.now,
      _,
      behind_whole c.args.text.now _ _ _ c.in_ok-end.end (take_rest c.args.text.now c.in_ok-end.end) c.as_slice.ensures space.1 space.0,
      place_end_place c.args.text.now c.in_ok-end.end ends (omega arith),
      c.in_ok-call.ensures,
      ap (λ n. (2, 2 + n)) (sym (length-take-le c.in_ok-end.end c.args.text.now (place_end_within c.args.text.now c.in_ok-end.end ends))),
    )
