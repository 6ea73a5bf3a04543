-- From the lemmas.
use Rattle.std.proofs.Common.{◌≡◌, ◌<◌, ◌∙◌, ap, sym, subst, ◌^◌, All, ℕ, List, [], ◌∷◌, ◌++◌, length, map, arith}
use Rattle.std.specs.List.{range_with_len}
use Rattle.leak_marks.specs.Lists.{Has, Within}
use Rattle.leak_marks.specs.Seats.{Held}
use Rattle.leak_pool.specs.Gates.{HavePassed}
use Rattle.leak_pool.specs.Items.{IsItem, targets_of_block, targets_of_item}
use Rattle.leak_pool.specs.declared.target_source.Item.{Item}
use Rattle.leak_pool.specs.declared.target_source.Item.TheVariants.{Root}
use Rattle.leak_pool.specs.Rounds.{graph_over}
use Rattle.leak_pool.specs.SearchModel.{SearchModel}
use Rattle.leak_pool.specs.declared.marking_state.MarkingState.{MarkingState}
use Rattle.leak_pool.specs.MarkingState.{IsReady, IsBetweenRounds, HasCourse, HasScanned, InItems, AreOfShares, claims_of}
use Rattle.leak_pool.proofs.CountLemmas.{has_at}
use Rattle.leak_pool.proofs.StepLemmas.{ok_both, one_step}
use Rattle.leak_pool.proofs.CourseLemmas.{course_first}
use Rattle.leak_pool.proofs.EndLemmas.{going_first, first_going}
use Rattle.leak_pool.proofs.FromLemmas.{if_ok}
use Rattle.leak_pool.proofs.GateLemmas.{passed_none}
use Rattle.leak_pool.proofs.ItemLemmas.{roots_long, root_at}
use Rattle.leak_pool.proofs.marking_by_rounds.first_round.Goals as goal

pub by_workers-requires-clause-items : goal.by_workers-requires-clause-items
by_workers-requires-clause-items g c κs within k d h =
    let model = c.args.search.now in
    let n : c.roots.result ≡ length model.roots = c.roots.ensures ∙ ap (λ (s : SearchModel). length s.roots) c.search.view_is in
    let l = roots_long c.roots.result in
    subst (λ (i : Item). IsItem model.roots model.targets i) (sym (root_at c.roots.result k d (omega arith))) (omega arith)

pub returns-clause-between : goal.returns-clause-between
returns-clause-between g c =
    let model = c.args.search.now in let from = c.args.state in
    let n : c.roots.result ≡ length model.roots = c.roots.ensures ∙ ap (λ (s : SearchModel). length s.roots) c.search.view_is in
    let items : List Item = map Root (range_with_len 0 c.roots.result) in
    let l : length items ≡ c.roots.result = roots_long c.roots.result in
    let given_is : c.search.inside.given.now ≡ model.given = ap (λ (s : SearchModel). s.given) c.search.view_is in
    let seat : Held = c.claim_start.new.seat in
    let mid : MarkingState = record { seat = seat; claims = from.claims; waiting = from.waiting; steps = from.steps } in
    let blocks : (b : ℕ) → Has model.given b → b < length model.targets = λ b h. (let m = has_at model.given b h in let all = subst (λ (s : SearchModel). All (λ x. x < length s.targets) s.given) c.search.view_is c.search.invariant.inside in subst (λ (x : ℕ). x < length model.targets) m.2 (all m.0 0 m.1)) in
    let law = subst (λ (s : SearchModel). (i : Item) (b : ℕ) → Has (targets_of_item s.roots s.targets i) b → b < length s.targets) c.search.view_is (λ i b h. c.targets_are_blocks.ensures i b h) in
    let begun = going_first (graph_over model.roots model.targets model.given) (length model.targets) model.workers seat (claims_of from) c.requires.unclaimed c.claim_start.ensures.sound
    (c.claim_start.ensures.same.1 ∙ c.requires.ready.whole) (subst (λ (l : List ℕ). Within l seat.seen) given_is c.claim_start.ensures.seen) (subst (λ (l : List ℕ). Within seat.claims l) given_is c.claim_start.ensures.claims) blocks in
    ok_both (IsReady model) (HasScanned (InItems model items) (AreOfShares model items) model mid) (IsBetweenRounds model) c.by_workers.result
    (λ (p : MarkingState) ready step. record {
      ready = ready;
      small = subst (λ (s : SearchModel). length s.targets < 2 ^ 32) c.search.view_is c.search.invariant.small;
      few = one_step (targets_of_block model.targets) _ model.workers (claims_of mid) (claims_of p) mid.waiting.items p.waiting.items seat p.seat step.0 step.1 c.requires.idle step.2;
      going = first_going model.roots model.targets model.given model.workers seat (claims_of from) (claims_of p) from.waiting.items p.waiting.items p.seat step.0 step.1 items
          begun c.requires.idle (l ∙ n) (λ k h. root_at c.roots.result k (Root 0) (omega arith)) law step.2;
    })
    c.by_workers.ensures.ready c.by_workers.ensures.done

pub returns-clause-course : goal.returns-clause-course
returns-clause-course g c =
    let model = c.args.search.now in let from = c.args.state in
    let n : c.roots.result ≡ length model.roots = c.roots.ensures ∙ ap (λ (s : SearchModel). length s.roots) c.search.view_is in
    let items : List Item = map Root (range_with_len 0 c.roots.result) in
    let l : length items ≡ c.roots.result = roots_long c.roots.result in
    let mid : MarkingState = record { seat = c.claim_start.new.seat; claims = from.claims; waiting = from.waiting; steps = from.steps } in
    let workers : 0 < model.workers = subst (λ (s : SearchModel). 0 < s.workers) c.search.view_is c.search.invariant.some in
    if_ok (HasScanned (InItems model items) (AreOfShares model items) model mid) (λ (p : MarkingState). HasCourse model p 1) c.by_workers.result
    (λ (p : MarkingState) step. course_first model.roots model.targets model.workers model.stack (claims_of from) (claims_of p) from.waiting.items p.waiting.items mid.seat p.seat step.0 step.1 items workers (l ∙ n)
    (λ k h. root_at c.roots.result k (Root 0) (omega arith)) c.requires.unclaimed c.requires.idle step.2 step.3)
    c.by_workers.ensures.done

pub returns-clause-gate : goal.returns-clause-gate
returns-clause-gate g c =
    let model = c.args.search.now in let from = c.args.state in
    let n : c.roots.result ≡ length model.roots = c.roots.ensures ∙ ap (λ (s : SearchModel). length s.roots) c.search.view_is in
    let items : List Item = map Root (range_with_len 0 c.roots.result) in
    let passed : ℕ → ℕ → Type 0 = g.G.Gate.passed c.args.gate.now in
    if_ok (λ (p : MarkingState). (rounds : List ℕ) → HavePassed passed model.workers rounds from.steps.items → HavePassed passed model.workers (rounds ++ length items ∷ []) p.steps.items) _ c.by_workers.result
    (λ (p : MarkingState) round. subst (λ (k : ℕ). HavePassed passed model.workers (k ∷ []) p.steps.items) (roots_long c.roots.result ∙ n) (round [] (passed_none passed model.workers from.steps.items c.requires.unmade)))
    c.by_workers.ensures.gate
