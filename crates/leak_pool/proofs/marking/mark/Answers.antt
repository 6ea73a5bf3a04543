-- From the lemmas of FromLemmas.
use Rattle.std.proofs.Common.{◌<◌, ℕ, List, [], length, ap, subst, arith, ◌≡◌}
use Rattle.leak_blocks.specs.declared.block.Block.{Block}
use Rattle.leak_pool.specs.Course.{IsByRounds, IsThroughGate}
use Rattle.leak_pool.specs.Depth.{AreByDepth}
use Rattle.leak_pool.specs.Marking.{MarksFromRoots, graph_of_roots}
use Rattle.leak_pool.specs.declared.start.Part.{Part}
use Rattle.leak_pool.proofs.DepthOfCores.{depth_of_roots}
use Rattle.leak_pool.proofs.FromLemmas.{if_ok, marks_from_none}
use Rattle.leak_pool.proofs.StepLemmas.{ok_both}
use Rattle.leak_pool.proofs.marking.mark.Goals as goal

pub returns-clause-marks : goal.returns-clause-marks
returns-clause-marks g c =
    let w = g.W.Words.word_at c.args.words.now in let i = g.L.Lookup.index c.args.lookup.now in
    if_ok _ (MarksFromRoots w i c.args.roots.now c.args.plan.workers) c.mark_from.result (λ m from. marks_from_none w i c.args.roots.now _ _ c.args.plan.workers m c.new.ensures.items c.new-2.ensures.items from) c.mark_from.ensures.marks

-- no part is scanned again, so the pages don't count
pub returns-clause-course : goal.returns-clause-course
returns-clause-course g c =
    let w = g.W.Words.word_at c.args.words.now in let i = g.L.Lookup.index c.args.lookup.now in
    if_ok _ (IsByRounds w i c.args.roots.now [] [] c.args.plan) c.mark_from.result (λ m led. subst (λ (l : List (ℕ × Part)). IsByRounds w i c.args.roots.now c.unwrap-pages.result l c.args.plan m) c.new-2.ensures.items led) c.mark_from.ensures.course

pub returns-clause-depth : goal.returns-clause-depth
returns-clause-depth g c =
    let w = g.W.Words.word_at c.args.words.now in let i = g.L.Lookup.index c.args.lookup.now in
    let e = ap (λ (l : List Block). length l) c.requires in
    ok_both (MarksFromRoots w i c.args.roots.now c.args.plan.workers) (IsByRounds w i c.args.roots.now [] [] c.args.plan)
    (λ m. c.args.plan.stack ≡ 0 → 0 < length c.args.live.now.blocks → AreByDepth (graph_of_roots w i c.args.roots.now) m.rounds) c.mark_from.result
    (λ m marks by none blocks. depth_of_roots w i c.args.roots.now c.args.plan m none (omega (arith, e, blocks)) by marks) (returns-clause-marks g c) (returns-clause-course g c)

pub returns-clause-gate : goal.returns-clause-gate
returns-clause-gate g c =
    let w = g.W.Words.word_at c.args.words.now in let i = g.L.Lookup.index c.args.lookup.now in
    let passed : ℕ → ℕ → Type 0 = g.G.Gate.passed c.args.gate.now in
    if_ok _ (IsThroughGate passed w i c.args.roots.now [] [] c.args.plan) c.mark_from.result (λ m gone. subst (λ (l : List (ℕ × Part)). IsThroughGate passed w i c.args.roots.now c.unwrap-pages.result l c.args.plan m) c.new-2.ensures.items gone) c.mark_from.ensures.gate
