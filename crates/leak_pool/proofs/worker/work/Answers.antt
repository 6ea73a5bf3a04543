-- From the lemmas of ListLemmas, HalfLemmas and WorkLemmas.
use Rattle.std.proofs.Common.{◌≡◌, refl, ◌<◌, ◌≤◌, ◌∙◌, ◌+◌, ◌-◌, ◌%◌, ◌^◌, ap, sym, subst, ℕ, List, [], length, map, take, drop, arith}
use Rattle.std.specs.Prelude.{slice_index_or, vec_capacity}
use Rattle.std.specs.List.{All}
use Rattle.std.proofs.lemmas.List.{length-append}
use Rattle.std.proofs.lemmas.List.Elements.{All-get_or}
use Rattle.leak_marks.specs.Lists.{Has}
use Rattle.leak_marks.proofs.ListLemmas.{has_back}
use Rattle.leak_pool.specs.Items.{InRange, IsItem, items_in, targets_of_item, share}
use Rattle.leak_pool.specs.declared.hand.Hand.{Hand}
use Rattle.leak_pool.specs.declared.target_source.Item.{Item}
use Rattle.leak_pool.specs.declared.target_source.Item.TheVariants.{Root, Block}
use Rattle.leak_pool.specs.Promises.{IsPutAway, IsWorking}
use Rattle.leak_pool.specs.SearchModel.{SearchModel, Work, blocks_of, items_of}
use Rattle.leak_pool.specs.Gates.{IsNextPassed}
use Rattle.leak_pool.specs.Tops.{IsTopScanned, targets_of_blocks}
use Rattle.leak_pool.proofs.WorkLemmas.{working_none, worker_inside, worker_few, put_top, put_item, put_items, put_few, put_grown, put_longer, put_full, top_few, top_grown, top_longer, top_full, direct_item, direct_items, of_several, all_of_several, several_inside, by_stack_none}
use Rattle.leak_pool.proofs.GateLemmas.{next_passed, first_step, next_step, steps_more, several_passed, alone_passed}
use Rattle.leak_pool.proofs.worker.work.Goals as goal

abbrev work : List Item → List ℕ → SearchModel → Work
work items steps model = record { model = model; items = items; steps = steps }

pub scan-init : goal.scan-init
scan-init g c =
    let w = c.args.round.now in let k = c.args.worker in let first = c.share_of-next.result.0 in
    let empty : length c.args.hand.now.stack.items ≡ 0 = ap (λ (l : List ℕ). length l) c.requires.none.1 in
    record {
      from = omega arith;
      to = c.share_of-next.ensures.order;
      room = c.requires.room;
      few = omega arith;
      door = (refl, refl);
      step = c.requires.door.1 ∙ first_step (slice_index_or w.steps k 0) first (subst (λ (x : ℕ). x < 2 ^ 64) c.requires.door.1 (omega arith));
      passed = λ j below. absurd (omega arith);
      working = working_none (blocks_of w) (InRange (items_of w) first first) c.args.seat.now c.args.hand.now.list.items c.args.hand.now.stack.items c.args.hand.now.left.items
          (λ b r. let from : first ≤ r.0 = r.1 in let below : r.0 < first = r.2 in absurd (omega arith)) c.requires.seat.sound c.requires.none.0 c.requires.none.1 c.requires.none.2;
      by_stack = by_stack_none w.model.stack (InRange (items_of w) first first) c.args.hand.now.list.items c.args.hand.now.left.items c.requires.none.0 c.requires.none.2;
    }

pub returns-then-next-end-clause-gate : goal.returns-then-next-end-clause-gate
returns-then-next-end-clause-gate g c =
    let w = c.args.round.now in let k = c.args.worker in let i = c.scan.invariant in
    let n : ℕ = length w.items in let m : ℕ = w.model.workers in
    let first : c.share_of-next.result.0 ≡ share k n m = c.share_of-next.ensures.start in
    let end : c.share_of-next.result.1 ≡ share (k + 1) n m = c.share_of-next.ensures.end in
    let last : c.scan.next ≡ c.share_of-next.result.1 = let t = i.to in let f = c.if-next-end.true in omega arith in
    alone_passed (IsNextPassed (g.G.Gate.passed c.args.door.now.gate.now) w.steps) n m k
    (λ j below. i.passed j (let b : j < share (k + 1) n m - share k n m = below in omega arith))

pub returns-then-next-end-clause-once : goal.returns-then-next-end-clause-once
returns-then-next-end-clause-once g c =
    let w = c.args.round.now in let k = c.args.worker in let i = c.scan.invariant in
    let n : ℕ = length w.items in let m : ℕ = w.model.workers in
    let first : c.share_of-next.result.0 ≡ share k n m = c.share_of-next.ensures.start in
    let end : c.share_of-next.result.1 ≡ share (k + 1) n m = c.share_of-next.ensures.end in
    let last : c.scan.next ≡ c.share_of-next.result.1 = let t = i.to in let f = c.if-next-end.true in omega arith in
    let size : c.scan.next - c.share_of-next.result.0 ≡ share (k + 1) n m - share k n m = omega arith in
    i.step ∙ ap (λ (x : ℕ). (slice_index_or w.steps k 0 + x) % 2 ^ 64) size
    ∙ ap (λ (x : ℕ). (x + (share (k + 1) n m - share k n m)) % 2 ^ 64) (sym c.requires.door.1)

pub scan_top-requires-clause-inside : goal.scan_top-requires-clause-inside
scan_top-requires-clause-inside g c b h =
    let w = c.args.round.now in
    let is = ap (λ (v : Work). v.model) (ap (λ (s : SearchModel). work (items_in c.round.inside.items) c.round.inside.steps.now s) c.search.view_is ∙ c.round.view_is) in
    let inside = subst (λ (s : SearchModel). (i : Item) (b : ℕ) → Has (targets_of_item s.roots s.targets i) b → b < length s.targets) is (λ i b h. c.targets_are_blocks.ensures i b h) in
    let working = c.scan.invariant.working in
    worker_inside w (length w.model.targets) inside c.share_of-next.result.0 c.scan.next c.args.seat.now c.scan.seat c.scan.hand.list.items c.scan.hand.stack.items c.scan.hand.left.items working b
    (working.of_list b (has_back c.scan.hand.left.items c.scan.hand.stack.items b h))

pub scan-preserved-in-Continue-1 : goal.scan-preserved-in-Continue-1
scan-preserved-in-Continue-1 g c =
    let w = c.args.round.now in let i = c.scan.invariant in
    let hand : Hand = c.scan.hand in let later : Hand = c.scan_top.new.hand in let after = c.scan_top.new.seat in
    let p : IsTopScanned w.model.targets w.model.stack c.scan.seat after hand later = c.in_ok-scan_top.ensures.done in
    record {
      from = i.from;
      to = i.to;
      room = let a = i.room in let b : vec_capacity later.stack ≡ vec_capacity hand.stack = c.in_ok-scan_top.ensures.room in omega arith;
      few = top_few w.model.targets w.model.stack c.scan.seat after hand later p i.few;
      door = i.door;
      step = i.step;
      passed = i.passed;
      working = put_top w w.model.stack c.share_of-next.result.0 c.scan.next c.args.seat.now c.scan.seat after hand later i.working
          c.scan_top.ensures.same.0 c.scan_top.ensures.same.1 c.scan_top.ensures.sound p;
      by_stack = record {
        full = top_full w.model.targets w.model.stack c.scan.seat after hand later p i.working.few i.few i.by_stack.full;
        direct = λ z. absurd (let f = i.few in let s = p.some in
            let l : length hand.stack.items ≡ length p.rest + length p.top = ap (λ (l : List ℕ). length l) p.stack_was ∙ length-append p.rest p.top in omega arith);
      };
    }

pub scan-smaller-in-Continue-1 : goal.scan-smaller-in-Continue-1
scan-smaller-in-Continue-1 g c =
    let w = c.args.round.now in let i = c.scan.invariant in
    let is = ap (λ (v : Work). v.model) (ap (λ (s : SearchModel). work (items_in c.round.inside.items) c.round.inside.steps.now s) c.search.view_is ∙ c.round.view_is) in
    let inside = subst (λ (s : SearchModel). (i : Item) (b : ℕ) → Has (targets_of_item s.roots s.targets i) b → b < length s.targets) is (λ i b h. c.targets_are_blocks.ensures i b h) in
    let hand : Hand = c.scan.hand in let later : Hand = c.scan_top.new.hand in let after = c.scan_top.new.seat in
    let p : IsTopScanned w.model.targets w.model.stack c.scan.seat after hand later = c.in_ok-scan_top.ensures.done in
    let working : IsWorking (blocks_of w) (InRange (items_of w) c.share_of-next.result.0 c.scan.next) c.args.seat.now after later.list.items later.stack.items later.left.items =
    put_top w w.model.stack c.share_of-next.result.0 c.scan.next c.args.seat.now c.scan.seat after hand later i.working
    c.scan_top.ensures.same.0 c.scan_top.ensures.same.1 c.scan_top.ensures.sound p in
    let few : length later.list.items ≤ length w.model.targets = worker_few w (length w.model.targets) inside c.share_of-next.result.0 c.scan.next c.args.seat.now after later.list.items later.stack.items later.left.items working in
    let grown : length later.stack.items + length hand.list.items < length hand.stack.items + length later.list.items = top_grown w.model.targets w.model.stack c.scan.seat after hand later p in
    let longer : length hand.list.items ≤ length later.list.items = top_longer w.model.targets w.model.stack c.scan.seat after hand later p in
    omega arith

pub scan_one-requires-clause-item : goal.scan_one-requires-clause-item
scan_one-requires-clause-item g c =
    let w = c.args.round.now in
    let items : (items_in c.round.inside.items) ≡ w.items = ap (λ (v : Work). v.items) c.round.view_is in
    let each : All (IsItem w.model.roots w.model.targets) w.items = subst (λ (v : Work). All (IsItem v.model.roots v.model.targets) v.items) c.round.view_is c.round.invariant.each in
    let next : c.scan.next < c.share_of-next.result.1 = c.if-next-end.false in
    subst (λ (i : Item). IsItem w.model.roots w.model.targets i) (sym (c.at.ensures (Root 0) ∙ ap (λ (l : List Item). slice_index_or l c.scan.next (Root 0)) items))
    (All-get_or (λ i. IsItem w.model.roots w.model.targets i) w.items c.scan.next (Root 0) (omega (arith, next, c.share_of-next.ensures.within)) each)

pub scan-preserved : goal.scan-preserved
scan-preserved g c =
    let w = c.args.round.now in let i = c.scan.invariant in
    let hand : Hand = c.scan.hand in let later : Hand = c.scan_one.new.hand in let after = c.scan_one.new.seat in
    let items : (items_in c.round.inside.items) ≡ w.items = ap (λ (v : Work). v.items) c.round.view_is in
    let p : IsPutAway (items_of w c.scan.next) w.model.stack c.scan.seat after hand later =
    subst (λ (l : List Item). IsPutAway (targets_of_item w.model.roots w.model.targets (slice_index_or l c.scan.next (Root 0))) w.model.stack c.scan.seat after hand later) items
    (subst (λ (i : Item). IsPutAway (targets_of_item w.model.roots w.model.targets i) w.model.stack c.scan.seat after hand later) (c.at.ensures (Root 0)) c.in_ok-scan_one.ensures.done) in
    record {
      from = let f = i.from in omega arith;
      to = let t = c.if-next-end.false in omega arith;
      room = let a = i.room in let b : vec_capacity later.stack ≡ vec_capacity hand.stack = c.in_ok-scan_one.ensures.room in omega arith;
      few = put_few _ w.model.stack c.scan.seat after hand later i.few p;
      door = (c.pass.ensures.same.0 ∙ i.door.0, c.pass.ensures.same.1 ∙ i.door.1);
      step = c.pass.ensures.counted ∙ next_step (slice_index_or w.steps c.args.worker 0) c.share_of-next.result.0 c.scan.next c.scan.door.step i.from i.step;
      passed = next_passed (g.G.Gate.passed c.args.door.now.gate.now) w.steps c.args.worker c.share_of-next.result.0 c.scan.next c.scan.door.step i.from i.step
          (subst (λ (k : ℕ). g.G.Gate.passed c.args.door.now.gate.now k c.scan.door.step) (i.door.1 ∙ c.requires.door.0)
          (subst (λ d. g.G.Gate.passed d.now c.scan.door.worker c.scan.door.step) i.door.0 c.pass.ensures.passed)) i.passed;
      working = put_item w w.model.stack c.share_of-next.result.0 c.scan.next c.args.seat.now c.scan.seat after hand later i.from i.working
          c.scan_one.ensures.same.0 c.scan_one.ensures.same.1 c.scan_one.ensures.sound p;
      by_stack = record {
        full = put_full _ w.model.stack c.scan.seat after hand later i.working.few i.few i.by_stack.full p;
        direct = λ z. direct_item (items_of w) c.share_of-next.result.0 c.scan.next w.model.stack c.scan.seat after hand later i.from z (i.by_stack.direct z) p;
      };
    }

pub scan-smaller : goal.scan-smaller
scan-smaller g c =
    let w = c.args.round.now in let i = c.scan.invariant in
    let is = ap (λ (v : Work). v.model) (ap (λ (s : SearchModel). work (items_in c.round.inside.items) c.round.inside.steps.now s) c.search.view_is ∙ c.round.view_is) in
    let inside = subst (λ (s : SearchModel). (i : Item) (b : ℕ) → Has (targets_of_item s.roots s.targets i) b → b < length s.targets) is (λ i b h. c.targets_are_blocks.ensures i b h) in
    let hand : Hand = c.scan.hand in let later : Hand = c.scan_one.new.hand in let after = c.scan_one.new.seat in
    let items : (items_in c.round.inside.items) ≡ w.items = ap (λ (v : Work). v.items) c.round.view_is in
    let p : IsPutAway (items_of w c.scan.next) w.model.stack c.scan.seat after hand later =
    subst (λ (l : List Item). IsPutAway (targets_of_item w.model.roots w.model.targets (slice_index_or l c.scan.next (Root 0))) w.model.stack c.scan.seat after hand later) items
    (subst (λ (i : Item). IsPutAway (targets_of_item w.model.roots w.model.targets i) w.model.stack c.scan.seat after hand later) (c.at.ensures (Root 0)) c.in_ok-scan_one.ensures.done) in
    let working : IsWorking (blocks_of w) (InRange (items_of w) c.share_of-next.result.0 (c.scan.next + 1)) c.args.seat.now after later.list.items later.stack.items later.left.items =
    put_item w w.model.stack c.share_of-next.result.0 c.scan.next c.args.seat.now c.scan.seat after hand later i.from i.working
    c.scan_one.ensures.same.0 c.scan_one.ensures.same.1 c.scan_one.ensures.sound p in
    let few : length later.list.items ≤ length w.model.targets = worker_few w (length w.model.targets) inside c.share_of-next.result.0 (c.scan.next + 1) c.args.seat.now after later.list.items later.stack.items later.left.items working in
    let grown : length later.stack.items + length hand.list.items ≤ length hand.stack.items + length later.list.items = put_grown _ w.model.stack c.scan.seat after hand later p in
    let longer : length hand.list.items ≤ length later.list.items = put_longer _ w.model.stack c.scan.seat after hand later p in
    let next : c.scan.next < c.share_of-next.result.1 = c.if-next-end.false in
    omega arith

-- the next blocks

pub scan_several-requires-clause-inside : goal.scan_several-requires-clause-inside
scan_several-requires-clause-inside g c b h =
    let w = c.args.round.now in
    let items : (items_in c.round.inside.items) ≡ w.items = ap (λ (v : Work). v.items) c.round.view_is in
    several_inside w.model.roots w.model.targets w.items c.in-Some.blocks.now c.scan.next (subst (λ (l : List Item). map Block c.in-Some.blocks.now ≡ take (length c.in-Some.blocks.now) (drop c.scan.next l)) items c.in-Some.ensures.are)
    (subst (λ (v : Work). All (IsItem v.model.roots v.model.targets) v.items) c.round.view_is c.round.invariant.each)
    (omega (arith, c.in-Some.ensures.within, c.share_of-next.ensures.within)) b h

pub scan-preserved-in-Some : goal.scan-preserved-in-Some
scan-preserved-in-Some g c =
    let w = c.args.round.now in let i = c.scan.invariant in let first : ℕ = c.share_of-next.result.0 in let next : ℕ = c.scan.next in
    let hand : Hand = c.scan.hand in let later : Hand = c.scan_several.new.hand in let after = c.scan_several.new.seat in let blocks : List ℕ = c.in-Some.blocks.now in
    let items : (items_in c.round.inside.items) ≡ w.items = ap (λ (v : Work). v.items) c.round.view_is in
    let are : map Block blocks ≡ take (length blocks) (drop next w.items) = subst (λ (l : List Item). map Block blocks ≡ take (length blocks) (drop next l)) items c.in-Some.ensures.are in
    let of_items = of_several w.model.roots w.model.targets w.items blocks next are in let all = all_of_several w.model.roots w.model.targets w.items blocks next are in
    let p : IsPutAway (targets_of_blocks w.model.targets blocks) w.model.stack c.scan.seat after hand later = c.in_ok-scan_several.ensures.done in
    let up : next ≤ next + length blocks = omega arith in
    record {
      from = let f = i.from in omega arith;
      to = c.in-Some.ensures.within;
      room = let a = i.room in let b : vec_capacity later.stack ≡ vec_capacity hand.stack = c.in_ok-scan_several.ensures.room in omega arith;
      few = put_few _ w.model.stack c.scan.seat after hand later i.few p;
      door = (c.pass_items.ensures.same.0 ∙ i.door.0, c.pass_items.ensures.same.1 ∙ i.door.1);
      step = c.pass_items.ensures.counted ∙ steps_more (slice_index_or w.steps c.args.worker 0) first next c.scan.door.step (length blocks) i.from i.step;
      passed = several_passed (g.G.Gate.passed c.args.door.now.gate.now) w.steps c.args.worker first next c.scan.door.step (length blocks) i.from i.step
          (λ j below. subst (λ (k : ℕ). g.G.Gate.passed c.args.door.now.gate.now k ((c.scan.door.step + j) % 2 ^ 64)) (i.door.1 ∙ c.requires.door.0)
          (subst (λ d. g.G.Gate.passed d.now c.scan.door.worker ((c.scan.door.step + j) % 2 ^ 64)) i.door.0 (c.pass_items.ensures.passed j below))) i.passed;
      working = put_items w w.model.stack first next (next + length blocks) (targets_of_blocks w.model.targets blocks) i.from up of_items all c.args.seat.now c.scan.seat after hand later i.working
          c.scan_several.ensures.same.0 c.scan_several.ensures.same.1 c.scan_several.ensures.sound p;
      by_stack = record {
        full = put_full _ w.model.stack c.scan.seat after hand later i.working.few i.few i.by_stack.full p;
        direct = λ z. direct_items (λ s. []) (items_of w) first next (next + length blocks) (targets_of_blocks w.model.targets blocks) i.from up of_items all w.model.stack c.scan.seat after hand later z (i.by_stack.direct z) p;
      };
    }

pub scan-smaller-in-Some : goal.scan-smaller-in-Some
scan-smaller-in-Some g c =
    let w = c.args.round.now in let i = c.scan.invariant in let first : ℕ = c.share_of-next.result.0 in let next : ℕ = c.scan.next in
    let is = ap (λ (v : Work). v.model) (ap (λ (s : SearchModel). work (items_in c.round.inside.items) c.round.inside.steps.now s) c.search.view_is ∙ c.round.view_is) in
    let inside = subst (λ (s : SearchModel). (i : Item) (b : ℕ) → Has (targets_of_item s.roots s.targets i) b → b < length s.targets) is (λ i b h. c.targets_are_blocks.ensures i b h) in
    let hand : Hand = c.scan.hand in let later : Hand = c.scan_several.new.hand in let after = c.scan_several.new.seat in let blocks : List ℕ = c.in-Some.blocks.now in
    let items : (items_in c.round.inside.items) ≡ w.items = ap (λ (v : Work). v.items) c.round.view_is in
    let are : map Block blocks ≡ take (length blocks) (drop next w.items) = subst (λ (l : List Item). map Block blocks ≡ take (length blocks) (drop next l)) items c.in-Some.ensures.are in
    let of_items = of_several w.model.roots w.model.targets w.items blocks next are in let all = all_of_several w.model.roots w.model.targets w.items blocks next are in
    let p : IsPutAway (targets_of_blocks w.model.targets blocks) w.model.stack c.scan.seat after hand later = c.in_ok-scan_several.ensures.done in
    let up : next ≤ next + length blocks = omega arith in
    let working : IsWorking (blocks_of w) (InRange (items_of w) first (next + length blocks)) c.args.seat.now after later.list.items later.stack.items later.left.items =
    put_items w w.model.stack first next (next + length blocks) (targets_of_blocks w.model.targets blocks) i.from up of_items all c.args.seat.now c.scan.seat after hand later i.working
    c.scan_several.ensures.same.0 c.scan_several.ensures.same.1 c.scan_several.ensures.sound p in
    let few : length later.list.items ≤ length w.model.targets = worker_few w (length w.model.targets) inside first (next + length blocks) c.args.seat.now after later.list.items later.stack.items later.left.items working in
    let grown : length later.stack.items + length hand.list.items ≤ length hand.stack.items + length later.list.items = put_grown _ w.model.stack c.scan.seat after hand later p in
    let longer : length hand.list.items ≤ length later.list.items = put_longer _ w.model.stack c.scan.seat after hand later p in
    let some : 0 < length blocks = c.in-Some.ensures.some in let within : next + length blocks ≤ c.share_of-next.result.1 = c.in-Some.ensures.within in
    omega arith
