-- From the lemmas of StepLemmas.
use Rattle.std.proofs.Common.{◌≡◌, ◌<◌, refl, ap, subst, ℕ, List, [], Vec, Global, length, map, arith, rules}
use Rattle.std.specs.Prelude.{IfOk}
use Rattle.leak_pool.specs.Items.{items_in, targets_at, targets_of_block}
use Rattle.leak_pool.specs.Gates.{IsNextPassed, ArePassed}
use Rattle.leak_pool.specs.Promises.{IsHalf}
use Rattle.leak_pool.specs.Rounds.{AreCounted}
use Rattle.leak_pool.specs.SearchModel.{SearchModel}
use Rattle.leak_pool.specs.declared.task.Gains.{Gains}
use Rattle.leak_pool.proofs.GateLemmas.{round_more, round_none}
use Rattle.leak_pool.proofs.StepLemmas.{ok_at, step_of_half, step_of_none}
use Rattle.leak_pool.proofs.rounds.by_workers.Goals as goal

abbrev items : Vec ℕ Global → List ℕ
items v = v.items

pub returns-clause-done : goal.returns-clause-done
returns-clause-done g c =
    let model = c.args.search.now in let p = c.args.state in
    let blocks = targets_of_block model.targets in
    let targets = targets_at model.roots model.targets (items_in c.args.items) in
    let n : ℕ = length (items_in c.args.items) in
    let w : ℕ = model.workers in
    let same_workers : c.search.inside.workers ≡ w = ap (λ (s : SearchModel). s.workers) c.search.view_is in
    let some : 0 < w = let s = c.search.invariant.some in omega arith in
    let scanned = c.scan_shares-seat.ensures in
    let gains : Gains = c.in_ok-gained.gained in
    let done = subst (λ (k : ℕ). IfOk c.scan_shares-seat.result.1 (λ (g : Gains). IsHalf blocks targets model.stack n w 0 k p.seat c.scan_shares-seat.result.0 (map items g.claims.items) g.left.items)) same_workers scanned.done in
    let h = ok_at c.scan_shares-seat.result.1 gains (λ (g : Gains). IsHalf blocks targets model.stack n w 0 w p.seat c.scan_shares-seat.result.0 (map items g.claims.items) g.left.items) c.in_ok-gained.was done in (
      map items gains.claims.items,
      gains.left.items,
      step_of_half blocks targets model.stack n w (map items p.claims.items) p.waiting.items p.seat (map items c.absorb.new.claims.items) c.absorb.new.waiting.items c.scan_shares-seat.result.0 (map items gains.claims.items) gains.left.items
          some h scanned.table scanned.share scanned.sound
          c.in_ok-absorb.ensures.claims c.in_ok-absorb.ensures.waiting,
      h.own,
    )

pub returns-then-len-eq0-clause-done : goal.returns-then-len-eq0-clause-done
returns-then-len-eq0-clause-done g c =
    let model = c.args.search.now in let p = c.args.state in
    let none : length (items_in c.args.items) ≡ 0 = search rules in
    ([], [], step_of_none (targets_of_block model.targets) (targets_at model.roots model.targets (items_in c.args.items)) (length (items_in c.args.items)) model.workers (map items p.claims.items) p.waiting.items p.seat none c.requires.ready.sound, record { own = tt; full = omega arith; direct = λ z. tt; all_left = λ z. refl })

pub returns-clause-gate : goal.returns-clause-gate
returns-clause-gate g c =
    let p = c.args.state in
    let n : ℕ = length (items_in c.args.items) in let w : ℕ = c.args.search.now.workers in
    let passed : ℕ → ℕ → Type 0 = g.G.Gate.passed c.args.gate.now in
    let same_workers : c.search.inside.workers ≡ w = ap (λ (s : SearchModel). s.workers) c.search.view_is in
    let steps : c.as_slice.result.now ≡ p.steps.items = c.as_slice.ensures.value in
    let scanned : IfOk c.scan_shares-seat.result.1 (λ (g : Gains). ArePassed (IsNextPassed passed p.steps.items) n w 0 w) =
    subst (λ (l : List ℕ). IfOk c.scan_shares-seat.result.1 (λ (g : Gains). ArePassed (IsNextPassed passed l) n w 0 w)) steps
    (subst (λ (k : ℕ). IfOk c.scan_shares-seat.result.1 (λ (g : Gains). ArePassed (IsNextPassed passed c.as_slice.result.now) n w 0 k)) same_workers c.scan_shares-seat.ensures.gate) in
    let counted : AreCounted n w w p.steps.items c.count_steps.new.steps.items =
    subst (λ (k : ℕ). AreCounted n k k p.steps.items c.count_steps.new.steps.items) same_workers
    (subst (λ (k : ℕ). AreCounted k c.search.inside.workers c.search.inside.workers p.steps.items c.count_steps.new.steps.items) c.len-2.ensures c.count_steps.ensures.each) in
    λ rounds was. round_more passed w n rounds p.steps.items c.count_steps.new.steps.items
    (ok_at c.scan_shares-seat.result.1 c.in_ok-gained.gained (λ (g : Gains). ArePassed (IsNextPassed passed p.steps.items) n w 0 w) c.in_ok-gained.was scanned) counted was

pub returns-then-len-eq0-clause-gate : goal.returns-then-len-eq0-clause-gate
returns-then-len-eq0-clause-gate g c =
    let none : length (items_in c.args.items) ≡ 0 = search rules in
    λ rounds was. round_none (g.G.Gate.passed c.args.gate.now) c.args.search.now.workers (length (items_in c.args.items)) rounds c.args.state.steps.items none was
