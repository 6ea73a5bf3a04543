-- From the lemmas of FromLemmas and ScanLemmas.
use Rattle.std.proofs.Common.{◌≡◌, ◌∙◌, ap, sym, subst, ◌-◌, ◌<◌, ◌++◌, ℕ, List, [], length, take, drop, append_assoc}
use Rattle.std.proofs.lemmas.List.{take_rest, drop_at}
use Rattle.leak_marks.specs.Lists.{Has}
use Rattle.leak_pool.specs.Items.{items_in}
use Rattle.leak_pool.specs.Promises.{IsScanned}
use Rattle.leak_pool.specs.SearchModel.{SearchModel, Work}
use Rattle.leak_pool.specs.Tops.{targets_of_blocks}
use Rattle.leak_pool.specs.declared.target_source.Item.{Item}
use Rattle.leak_pool.proofs.FromLemmas.{if_ok}
use Rattle.leak_pool.proofs.ScanLemmas.{kept_of_scan}
use Rattle.leak_pool.proofs.worker.scan_several.Goals as goal

abbrev work : List Item → List ℕ → SearchModel → Work
work items steps model = record { model = model; items = items; steps = steps }

pub scan_blocks-requires-clause-inside : goal.scan_blocks-requires-clause-inside
scan_blocks-requires-clause-inside g c b h =
    let is = ap (λ (w : Work). w.model) (ap (λ (s : SearchModel). work (items_in c.round.inside.items) c.round.inside.steps.now s) c.search.view_is ∙ c.round.view_is) in
    subst (λ (s : SearchModel). b < length s.targets) (sym is) (c.requires.inside b h)

pub returns-clause-done : goal.returns-clause-done
returns-clause-done g c =
    let model : SearchModel = c.args.round.now.model in let hand = c.args.hand.now in
    let is = ap (λ (w : Work). w.model) (ap (λ (s : SearchModel). work (items_in c.round.inside.items) c.round.inside.steps.now s) c.search.view_is ∙ c.round.view_is) in
    let before : List ℕ = c.args.seat.now.seen in let after : List ℕ = c.scan_blocks.new.seat.seen in let longer : List ℕ = c.scan_blocks.new.list.items in
    let blocks : List ℕ = c.args.blocks.now in
    let done : IsScanned (Has (targets_of_blocks model.targets blocks)) [] before hand.list.items after longer =
    subst (λ (s : SearchModel). IsScanned (Has (targets_of_blocks s.targets blocks)) [] before hand.list.items after longer) is c.in_ok-scan_blocks.ensures.done in
    let more : List ℕ = done.grown.0 in
    let base : List ℕ = c.requires.hand.listed.0 in
    let claims : c.scan_blocks.new.seat.claims ≡ base ++ longer = c.scan_blocks.ensures.listed base c.requires.hand.listed.1 in
    let all : List ℕ = c.deref.result.now in
    let from : ℕ = c.len-from.result in
    let claimed : take (length all - from) (drop from all) ≡ more = take_rest all from ∙ ap (λ (l : List ℕ). drop from l) (c.deref.ensures.value ∙ done.grown.1) ∙ drop_at hand.list.items more from (sym hand.list.ok.0 ∙ sym c.len-from.ensures) in
    let same : c.search.inside.stack ≡ model.stack = ap (λ (s : SearchModel). s.stack) is in
    let size : ℕ = length hand.stack.items in
    if_ok _ _ c.put_away.result
    (λ x left. record {
      more = more;
      claims_are = claims ∙ ap (λ (l : List ℕ). base ++ l) done.grown.1 ∙ sym (append_assoc base hand.list.items more) ∙ ap (λ (l : List ℕ). l ++ more) (sym c.requires.hand.listed.1);
      list_is = done.grown.1;
      stack_is = c.put_away.ensures.stack ∙ ap (λ (l : List ℕ). hand.stack.items ++ take (c.search.inside.stack - size) l) claimed ∙ ap (λ (n : ℕ). hand.stack.items ++ take (n - size) more) same;
      left_is = left ∙ ap (λ (l : List ℕ). hand.left.items ++ drop (c.search.inside.stack - size) l) claimed ∙ ap (λ (n : ℕ). hand.left.items ++ drop (n - size) more) same;
      kept = kept_of_scan (Has (targets_of_blocks model.targets blocks)) base hand.list.items more c.args.seat.now c.scan_blocks.new.seat longer done.grown.1 claims c.scan_blocks.ensures.sound done;
    })
    c.put_away.ensures.left
