-- From the lemmas.
use Rattle.std.proofs.Common.{◌≡◌, ◌<◌, ◌∙◌, ap, sym, subst, ◌∷◌, ℕ, List, [], Vec, Global, length, map, get_or, take, drop, ◌-◌, arith, ◌++◌}
use Rattle.std.proofs.lemmas.List.{get_or_read}
use Rattle.leak_marks.specs.Lists.{Has}
use Rattle.leak_pool.specs.Gates.{HavePassed}
use Rattle.leak_pool.specs.Course.{IsCourse}
use Rattle.leak_pool.specs.Items.{IsItem, targets_of_block}
use Rattle.leak_pool.specs.declared.target_source.Item.{Item}
use Rattle.leak_pool.specs.declared.target_source.Item.TheVariants.{Block}
use Rattle.leak_pool.specs.declared.marking_state.MarkingState.{MarkingState}
use Rattle.leak_pool.specs.Rounds.{IsStep, IsGoing, graph_over}
use Rattle.leak_pool.specs.SearchModel.{SearchModel}
use Rattle.leak_pool.specs.MarkingState.{IsReady, IsBetweenRounds, HaveCome, HasRoundMore, HasScanned, InItems, AreOfShares, AreOfOne, claims_of}
use Rattle.leak_pool.proofs.CountLemmas.{at_has}
use Rattle.leak_pool.proofs.GoingLemmas.{later_round, waiting_inside, all_blocks, blocks_long, front_rest}
use Rattle.leak_pool.proofs.StepLemmas.{ok_both, two_steps}
use Rattle.leak_pool.proofs.CourseLemmas.{course_more}
use Rattle.leak_pool.proofs.FromLemmas.{if_ok}
use Rattle.leak_marks.proofs.ListLemmas.{there}
use Rattle.leak_pool.proofs.later_rounds.later_round.Goals as goal

-- what waits is of the model's blocks
waits : (model : SearchModel) (p : MarkingState) (ws : Vec ℕ Global) → IsBetweenRounds model p → ws ≡ p.waiting → (b : ℕ) → Has ws.items b → b < length model.targets
waits model p ws between is b h = waiting_inside _ _ _ _ _ _ _ between.going.1 b (subst (λ (v : Vec ℕ Global). Has v.items b) is h)

pub by_caller-requires-clause-item : goal.by_caller-requires-clause-item
by_caller-requires-clause-item g c =
    let ws = c.replace-waiting.result in
    let some : 0 < length ws.items = subst (λ (v : Vec ℕ Global). 0 < length v.items) (sym c.replace-waiting.ensures.value) c.requires.waiting in
    let first : c.index.result.now ≡ get_or ws.items 0 0 = get_or_read ws.items _ _ some c.index.ensures 0 in
    subst (λ (b : ℕ). b < length c.args.search.now.targets) (sym first) (waits c.args.search.now c.args.state ws c.requires.between c.replace-waiting.ensures.value (get_or ws.items 0 0) (at_has ws.items 0 some))

pub by_workers-requires-clause-items : goal.by_workers-requires-clause-items
by_workers-requires-clause-items g c κs within =
    let model = c.args.search.now in let all = c.replace-waiting.result in
    let some : 0 < length all.items = subst (λ (v : Vec ℕ Global). 0 < length v.items) (sym c.replace-waiting.ensures.value) c.requires.waiting in
    let ws : List ℕ = take (length all.items - 1) (drop 1 all.items) in
    let items : List Item = map Block (take (length c.deref.result.now - 1) (drop 1 c.deref.result.now)) in
    let is : items ≡ map Block ws = ap (λ (l : List ℕ). map Block (take (length l - 1) (drop 1 l))) c.deref.ensures.value in
    subst (λ (l : List Item). (k : ℕ) (d : Item) → k < length l → IsItem model.roots model.targets (get_or l k d)) (sym is)
    (all_blocks model.roots model.targets ws
    (λ b h. waits model c.args.state all c.requires.between c.replace-waiting.ensures.value b (subst (λ (l : List ℕ). Has l b) (sym (front_rest all.items some)) (there (get_or all.items 0 0) ws b h))))

pub returns-clause-size : goal.returns-clause-size
returns-clause-size g c =
    let model = c.args.search.now in let from = c.args.state in let mid = c.by_caller.new.state in
    let items : List Item = map Block (take (length c.deref.result.now - 1) (drop 1 c.deref.result.now)) in
    let first = c.in_ok-by_caller.ensures.done in
    if_ok (HasScanned (InItems model items) (AreOfShares model items) model mid) _ c.by_workers.result
    (λ (p : MarkingState) second. two_steps (targets_of_block model.targets) _ _ model.workers (claims_of from) (claims_of mid) (claims_of p) c.replace-waiting.new.dest.items mid.waiting.items p.waiting.items from.seat mid.seat p.seat first.0 second.0 first.1 second.1
    (ap (λ (v : Vec ℕ Global). v.items) c.replace-waiting.ensures.after ∙ c.new.ensures.items) first.2 second.2)
    c.by_workers.ensures.done

pub returns-clause-between : goal.returns-clause-between
returns-clause-between g c =
    let model = c.args.search.now in let from = c.args.state in let mid = c.by_caller.new.state in let all = c.replace-waiting.result in
    let some : 0 < length all.items = subst (λ (v : Vec ℕ Global). 0 < length v.items) (sym c.replace-waiting.ensures.value) c.requires.waiting in
    let ws : List ℕ = take (length all.items - 1) (drop 1 all.items) in
    let x : ℕ = get_or all.items 0 0 in
    let base : List ℕ = c.requires.between.going.0 in
    let none = ap (λ (v : Vec ℕ Global). v.items) c.replace-waiting.ensures.after ∙ c.new.ensures.items in
    let first = c.in_ok-by_caller.ensures.done in
    let items : List Item = map Block (take (length c.deref.result.now - 1) (drop 1 c.deref.result.now)) in
    let is : items ≡ map Block ws = ap (λ (l : List ℕ). map Block (take (length l - 1) (drop 1 l))) c.deref.ensures.value in
    let going : IsGoing (graph_over model.roots model.targets model.given) (length model.targets) model.workers base (claims_of from) (x ∷ ws) from.seat =
    subst (λ (l : List ℕ). IsGoing (graph_over model.roots model.targets model.given) (length model.targets) model.workers base (claims_of from) l from.seat) (sym (ap (λ (v : Vec ℕ Global). v.items) c.replace-waiting.ensures.value) ∙ front_rest all.items some) c.requires.between.going.1 in
    let blocks = targets_of_block model.targets in
    let one : IsStep blocks (Has (get_or model.targets x [])) model.workers (claims_of from) c.replace-waiting.new.dest.items from.seat (claims_of mid) mid.waiting.items mid.seat first.0 first.1 =
    subst (λ (b : ℕ). IsStep blocks (Has (get_or model.targets b [])) model.workers (claims_of from) c.replace-waiting.new.dest.items from.seat (claims_of mid) mid.waiting.items mid.seat first.0 first.1) (get_or_read all.items _ _ some c.index.ensures 0) first.2 in
    let inside = subst (λ (s : SearchModel). (k b : ℕ) → Has (get_or s.targets k []) b → b < length s.targets) c.search.view_is (λ k b h. c.targets_are_blocks.ensures (Block k) b h) in
    ok_both (IsReady model) (HasScanned (InItems model items) (AreOfShares model items) model mid) (IsBetweenRounds model) c.by_workers.result
    (λ (p : MarkingState) ready two. record {
      ready = ready;
      small = c.requires.between.small;
      few = let s = two_steps blocks _ _ model.workers (claims_of from) (claims_of mid) (claims_of p) c.replace-waiting.new.dest.items mid.waiting.items p.waiting.items from.seat mid.seat p.seat first.0 two.0 first.1 two.1 none first.2 two.2 in omega arith;
      going = (
        base,
        later_round model.roots model.targets model.given (length model.targets) model.workers base x ws (claims_of from) (claims_of mid) (claims_of p) c.replace-waiting.new.dest.items mid.waiting.items p.waiting.items
            from.seat mid.seat p.seat first.0 two.0 first.1 two.1 items
            inside is (blocks_long ws) none going one two.2,
        λ b h. two.2.kept.keeps b (one.kept.keeps b (c.requires.between.going.2 b h)),
      );
    })
    c.by_workers.ensures.ready c.by_workers.ensures.done

pub returns-clause-course : goal.returns-clause-course
returns-clause-course g c n led =
    let model = c.args.search.now in let from = c.args.state in let mid = c.by_caller.new.state in let all = c.replace-waiting.result in
    let some : 0 < length all.items = subst (λ (v : Vec ℕ Global). 0 < length v.items) (sym c.replace-waiting.ensures.value) c.requires.waiting in
    let ws : List ℕ = take (length all.items - 1) (drop 1 all.items) in
    let x : ℕ = get_or all.items 0 0 in
    let none = ap (λ (v : Vec ℕ Global). v.items) c.replace-waiting.ensures.after ∙ c.new.ensures.items in
    let first = c.in_ok-by_caller.ensures.done in
    let items : List Item = map Block (take (length c.deref.result.now - 1) (drop 1 c.deref.result.now)) in
    let is : items ≡ map Block ws = ap (λ (l : List ℕ). map Block (take (length l - 1) (drop 1 l))) c.deref.ensures.value in
    let come : HaveCome model.roots model.targets model.workers model.stack n (claims_of from) (x ∷ ws) from.seat.seen = (
      led.0,
      led.1,
      subst (λ (l : List ℕ). IsCourse model.roots model.targets model.workers model.stack (claims_of from) l led.0) (sym (ap (λ (v : Vec ℕ Global). v.items) c.replace-waiting.ensures.value) ∙ front_rest all.items some) led.2,
      led.3,
    ) in
    let blocks = targets_of_block model.targets in
    let read = get_or_read all.items _ _ some c.index.ensures 0 in
    let one : IsStep blocks (Has (get_or model.targets x [])) model.workers (claims_of from) c.replace-waiting.new.dest.items from.seat (claims_of mid) mid.waiting.items mid.seat first.0 first.1 =
    subst (λ (b : ℕ). IsStep blocks (Has (get_or model.targets b [])) model.workers (claims_of from) c.replace-waiting.new.dest.items from.seat (claims_of mid) mid.waiting.items mid.seat first.0 first.1) read first.2 in
    let alone : AreOfOne (get_or model.targets x []) first.0 first.1 = subst (λ (b : ℕ). AreOfOne (get_or model.targets b []) first.0 first.1) read first.3 in
    let workers : 0 < model.workers = subst (λ (s : SearchModel). 0 < s.workers) c.search.view_is c.search.invariant.some in
    if_ok (HasScanned (InItems model items) (AreOfShares model items) model mid) (λ (p : MarkingState). HasRoundMore model p n led.0) c.by_workers.result
    (λ (p : MarkingState) second. course_more model.roots model.targets model.workers model.stack n x ws (claims_of from) (claims_of mid) (claims_of p) c.replace-waiting.new.dest.items mid.waiting.items p.waiting.items from.seat mid.seat p.seat
    first.0 second.0 first.1 second.1 items workers is none come one alone second.2 second.3)
    c.by_workers.ensures.done

pub returns-clause-gate : goal.returns-clause-gate
returns-clause-gate g c =
    let w : ℕ = c.args.search.now.workers in let from = c.args.state in let mid = c.by_caller.new.state in let all = c.replace-waiting.result in
    let some : 0 < length all.items = subst (λ (v : Vec ℕ Global). 0 < length v.items) (sym c.replace-waiting.ensures.value) c.requires.waiting in
    let ws : List ℕ = take (length all.items - 1) (drop 1 all.items) in
    let items : List Item = map Block (take (length c.deref.result.now - 1) (drop 1 c.deref.result.now)) in
    let is : items ≡ map Block ws = ap (λ (l : List ℕ). map Block (take (length l - 1) (drop 1 l))) c.deref.ensures.value in
    let front : length all.items ≡ length (get_or all.items 0 0 ∷ ws) = ap (λ (l : List ℕ). length l) (front_rest all.items some) in
    let long : length items ≡ length ws = ap (λ (l : List Item). length l) is ∙ blocks_long ws in
    let waiting : length all.items ≡ length from.waiting.items = ap (λ (v : Vec ℕ Global). length v.items) c.replace-waiting.ensures.value in
    let size : length items ≡ length from.waiting.items - 1 = omega arith in
    let passed : ℕ → ℕ → Type 0 = g.G.Gate.passed c.args.gate.now in
    if_ok (λ (p : MarkingState). (rounds : List ℕ) → HavePassed passed w rounds mid.steps.items → HavePassed passed w (rounds ++ length items ∷ []) p.steps.items) _ c.by_workers.result
    (λ (p : MarkingState) round rounds was. subst (λ (n : ℕ). HavePassed passed w (rounds ++ n ∷ []) p.steps.items) size
    (round rounds (subst (λ (l : List ℕ). HavePassed passed w rounds l) (sym c.by_caller.ensures.steps) was)))
    c.by_workers.ensures.gate
