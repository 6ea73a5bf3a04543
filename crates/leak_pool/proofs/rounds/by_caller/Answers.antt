-- From the lemmas of StepLemmas.
use Rattle.std.proofs.Common.{◌≡◌, ◌<◌, ◌∙◌, refl, ap, subst, ◌∷◌, ◌++◌, ℕ, List, [], Vec, Global, length, map, set, arith}
use Rattle.std.specs.List.{concat}
use Rattle.std.proofs.lemmas.Result.{IfOk-weaker}
use Rattle.leak_marks.specs.Lists.{Has}
use Rattle.leak_marks.specs.Rounds.{appended_from}
use Rattle.leak_pool.specs.Items.{targets_of_block, targets_of_item}
use Rattle.leak_pool.specs.Promises.{IsScanned}
use Rattle.leak_pool.specs.SearchModel.{SearchModel}
use Rattle.leak_pool.proofs.AbsorbLemmas.{claims_more}
use Rattle.leak_pool.proofs.StepLemmas.{step_of_scan}
use Rattle.leak_pool.proofs.CourseLemmas.{one_of_scan}
use Rattle.leak_pool.proofs.rounds.by_caller.Goals as goal

abbrev items : Vec ℕ Global → List ℕ
items v = v.items

pub returns-clause-done : goal.returns-clause-done
returns-clause-done g c =
    let model = c.args.search.now in let p = c.args.state.now in let list : Vec ℕ Global = c.scan.new.list in let new : Vec ℕ Global = c.extend_from_slice.new.self in
    let same_workers : c.search.inside.workers ≡ model.workers = ap (λ (s : SearchModel). s.workers) c.search.view_is in
    let some : 0 < model.workers = let s = c.search.invariant.some in omega arith in
    let inside : 0 < length p.claims.items = let s = c.requires.ready.lists in omega (arith, s, some) in
    let longer : new.items ≡ c.index_mut-claims.result.now.items ++ list.items = c.in_ok-extend_from_slice.ensures.items ∙ ap (λ (l : List ℕ). c.index_mut-claims.result.now.items ++ l) c.as_slice.ensures.value in
    let grown : map items (set p.claims.items 0 new) ≡ appended_from 0 (map items p.claims.items) (list.items ∷ []) =
    claims_more items p.claims.items (list ∷ []) 0 c.index_mut-claims.result.now new list list _ inside (omega arith) c.index_mut-claims.ensures.value refl longer refl in
    let done : IsScanned (Has (targets_of_item model.roots model.targets c.args.item)) [] p.seat.seen c.new-list.result.items c.scan.new.seat.seen list.items =
    subst (λ (s : SearchModel). IsScanned (Has (targets_of_item s.roots s.targets c.args.item)) [] p.seat.seen c.new-list.result.items c.scan.new.seat.seen list.items) c.search.view_is c.in_ok-scan.ensures.done in
    IfOk-weaker c.append_blocks.result _ _ (λ x waiting. (
      list.items ∷ [],
      concat (list.items ∷ []),
      step_of_scan (targets_of_block model.targets) (Has (targets_of_item model.roots model.targets c.args.item)) model.workers (map items p.claims.items) p.waiting.items p.seat (map items (set p.claims.items 0 new)) c.append_blocks.new.list.items c.scan.new.seat
          c.new-list.result.items list.items (list.items ∷ []) list.items c.new-list.ensures.items refl refl some
          c.scan.ensures.same.0 c.scan.ensures.same.1 c.scan.ensures.sound c.scan.ensures.listed done grown waiting,
      one_of_scan (Has (targets_of_item model.roots model.targets c.args.item)) p.seat.seen c.new-list.result.items c.scan.new.seat.seen list.items (list.items ∷ []) c.new-list.ensures.items refl done,
    )) c.append_blocks.ensures
