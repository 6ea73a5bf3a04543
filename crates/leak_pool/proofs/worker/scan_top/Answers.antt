-- From the lemmas of FromLemmas, ListLemmas and ScanLemmas.
use Rattle.std.proofs.Common.{◌≡◌, ◌∙◌, ap, sym, subst, ◌-◌, ◌<◌, ◌++◌, ℕ, List, [], length, take, drop, append_assoc, arith}
use Rattle.std.proofs.lemmas.List.{take_rest, drop_at, length-drop, take-append-drop}
use Rattle.leak_marks.specs.Lists.{Has}
use Rattle.leak_marks.proofs.ListLemmas.{has_back}
use Rattle.leak_pool.specs.Items.{items_in}
use Rattle.leak_pool.specs.Promises.{IsScanned}
use Rattle.leak_pool.specs.SearchModel.{SearchModel, Work}
use Rattle.leak_pool.specs.Tops.{targets_of_blocks}
use Rattle.leak_pool.specs.declared.target_source.Item.{Item}
use Rattle.leak_pool.proofs.FromLemmas.{if_ok}
use Rattle.leak_pool.proofs.ScanLemmas.{kept_of_scan}
use Rattle.leak_pool.proofs.worker.scan_top.Goals as goal

abbrev work : List Item → List ℕ → SearchModel → Work
work items steps model = record { model = model; items = items; steps = steps }

pub scan_blocks-requires-clause-inside : goal.scan_blocks-requires-clause-inside
scan_blocks-requires-clause-inside g c b h =
    let is = ap (λ (w : Work). w.model) (ap (λ (s : SearchModel). work (items_in c.round.inside.items) c.round.inside.steps.now s) c.search.view_is ∙ c.round.view_is) in
    let k : ℕ = c.saturating_sub-rest.result in let all : List ℕ = c.deref.result.now in
    let of_all : Has all b = subst (λ (l : List ℕ). Has l b) (take-append-drop k all) (has_back (take k all) (drop k all) b (subst (λ (l : List ℕ). Has l b) (take_rest all k) h)) in
    subst (λ (s : SearchModel). b < length s.targets) (sym is) (c.requires.inside b (subst (λ (l : List ℕ). Has l b) c.deref.ensures.value of_all))

pub returns-clause-done : goal.returns-clause-done
returns-clause-done g c =
    let model : SearchModel = c.args.round.now.model in let hand = c.args.hand.now in
    let is = ap (λ (w : Work). w.model) (ap (λ (s : SearchModel). work (items_in c.round.inside.items) c.round.inside.steps.now s) c.search.view_is ∙ c.round.view_is) in
    let before : List ℕ = c.args.seat.now.seen in let after : List ℕ = c.scan_blocks.new.seat.seen in let longer : List ℕ = c.scan_blocks.new.list.items in
    let k : ℕ = c.saturating_sub-rest.result in let stack : List ℕ = c.deref.result.now in let top : List ℕ = drop k hand.stack.items in
    let top_is : take (length stack - k) (drop k stack) ≡ top = take_rest stack k ∙ ap (λ (l : List ℕ). drop k l) c.deref.ensures.value in
    let done : IsScanned (Has (targets_of_blocks model.targets top)) [] before hand.list.items after longer =
    subst (λ (s : SearchModel). IsScanned (Has (targets_of_blocks s.targets top)) [] before hand.list.items after longer) is
    (subst (λ (l : List ℕ). IsScanned (Has (targets_of_blocks (g.S.TargetSource.targets c.search.inside.source.now) l)) [] before hand.list.items after longer) top_is c.in_ok-scan_blocks.ensures.done) in
    let more : List ℕ = done.grown.0 in
    let base : List ℕ = c.requires.hand.listed.0 in
    let claims : c.scan_blocks.new.seat.claims ≡ base ++ longer = c.scan_blocks.ensures.listed base c.requires.hand.listed.1 in
    let all : List ℕ = c.deref-2.result.now in
    let from : ℕ = c.len-from.result in
    let claimed : take (length all - from) (drop from all) ≡ more = take_rest all from ∙ ap (λ (l : List ℕ). drop from l) (c.deref-2.ensures.value ∙ done.grown.1) ∙ drop_at hand.list.items more from (sym hand.list.ok.0 ∙ sym c.len-from.ensures) in
    let same : c.search.inside.stack ≡ model.stack = ap (λ (s : SearchModel). s.stack) is in
    let rest : List ℕ = c.truncate.new.self.items in let size : ℕ = length rest in
    if_ok _ _ c.put_away.result
    (λ x left. record {
      rest = rest;
      top = top;
      stack_was = sym (take-append-drop k hand.stack.items) ∙ ap (λ (l : List ℕ). l ++ top) (sym c.truncate.ensures.items);
      some = let l = length-drop k hand.stack.items in let o = hand.stack.ok.0 in omega (arith, l, o, c.saturating_sub-rest.ensures, c.len.ensures, c.requires.some);
      more = more;
      claims_are = claims ∙ ap (λ (l : List ℕ). base ++ l) done.grown.1 ∙ sym (append_assoc base hand.list.items more) ∙ ap (λ (l : List ℕ). l ++ more) (sym c.requires.hand.listed.1);
      list_is = done.grown.1;
      stack_is = c.put_away.ensures.stack ∙ ap (λ (l : List ℕ). rest ++ take (c.search.inside.stack - size) l) claimed ∙ ap (λ (n : ℕ). rest ++ take (n - size) more) same;
      left_is = left ∙ ap (λ (l : List ℕ). hand.left.items ++ drop (c.search.inside.stack - size) l) claimed ∙ ap (λ (n : ℕ). hand.left.items ++ drop (n - size) more) same;
      kept = kept_of_scan (Has (targets_of_blocks model.targets top)) base hand.list.items more c.args.seat.now c.scan_blocks.new.seat longer done.grown.1 claims c.scan_blocks.ensures.sound done;
    })
    c.put_away.ensures.left
