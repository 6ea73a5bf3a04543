-- The run's last block is popped; any other is looked for in the map, with all blocks in it.
use Rattle.std.proofs.Common.{◌≡◌, ℕ, ◌+◌, ◌-◌, ◌<◌, not, List, ◌++◌, ◌∷◌, [], length, length-append, take, slice_get, Some, sym, ap, ◌∙◌, subst, arith}
use Rattle.leak_mtrace.specs.declared.line.Line.{Line}
use Rattle.leak_blocks.specs.declared.block.Block.{Block}
use Rattle.leak_blocks.specs.Numbers.{IsAllocationAt}
use Rattle.leak_blocks.specs.Runs.{IsRunAfter}
use Rattle.leak_blocks.proofs.RunLemmas.{last_got}
use Rattle.leak_blocks.proofs.StepLemmas.{unknown_fits}
use Rattle.leak_blocks.proofs.PlacedLemmas.{placed_as, number_within}
use Rattle.leak_blocks.proofs.OngoingReplayLemmas.{given_above, after_popping, after_giving, after_missing}
use Rattle.leak_blocks.proofs.GrowthLemmas.{allocates_nothing}
use Rattle.leak_blocks.proofs.WindowLemmas.{grown_kept}
use Rattle.leak_blocks.proofs.ongoing_replay.OngoingReplay.give_back.Goals as goal
use Rattle.leak_blocks.proofs.ongoing_replay.OngoingReplay.give_back.Goals.{in-Some+else-block_at-line, in_default}

pub block_at-requires : goal.block_at-requires
block_at-requires c = subst (λ (l : List Block). c.in-Some.last.now < length l) (sym c.as_slice.ensures.value) (number_within c.requires.so_far.0 c.args.self.now.allocated.items c.args.self.now.numbers.entries c.args.self.now.run.items c.args.self.now.low c.args.self.now.high c.args.self.now.unknown c.args.self.now.displaced c.requires.so_far.2
    c.deref.result.now (length c.deref.result.now - 1) c.in-Some.last.now c.deref.ensures.value (sym c.in-Some.ensures.value))

pub returns-then-block_at-line-clause-after : goal.returns-then-block_at-line-clause-after
returns-then-block_at-line-clause-after c = λ lines n so_far.
    let got : slice_get c.args.self.now.run.items (length c.args.self.now.run.items - 1) ≡ Some c.in-Some.last.now =
    subst (λ (ns : List ℕ). slice_get ns (length ns - 1) ≡ Some c.in-Some.last.now) c.deref.ensures.value (sym c.in-Some.ensures.value) in
    let popped : c.pop.new.self.items ≡ take (length c.args.self.now.run.items - 1) c.args.self.now.run.items =
    c.pop.ensures.rest ∙ ap (λ (k : ℕ). take (k - 1) c.args.self.now.run.items) (sym c.deref.ensures.len ∙ ap length c.deref.ensures.value) in
    let above : 0 < c.args.line.now.addr = given_above c.args.line.now c.requires.gives_back in
    after_popping lines c.args.line.now c.args.self.now.allocated.items c.args.self.now.numbers.entries c.args.self.now.run.items c.args.self.now.low c.args.self.now.high c.args.self.now.unknown c.args.self.now.displaced so_far c.requires.gives_back
    c.pop.new.self.items c.in-Some.last.now c.block_at.result (last_got c.args.self.now.run.items c.in-Some.last.now got ∙ ap (λ (ns : List ℕ). ns ++ c.in-Some.last.now ∷ []) (sym popped))
    (subst (λ l. IsAllocationAt l c.in-Some.last.now c.block_at.result) c.as_slice.ensures.value c.block_at.ensures) c.if-block_at-line.true (c.args.line.now.addr - 1) (omega arith)

pub overflow_add-self : goal.overflow_add-self
overflow_add-self c =
    let lines : List Line = c.requires.so_far.0 in
    let same : c.match-last.self ≡ c.args.self.now = elim c.match-last.branch [ in-Some+else-block_at-line w ↦ w.self-is | in_default w ↦ w.self-is ] in
    let so_far : IsRunAfter lines c.match-last.self.allocated.items c.match-last.self.numbers.entries c.match-last.self.run.items c.match-last.self.low c.match-last.self.high c.match-last.self.unknown c.match-last.self.displaced =
    subst (λ self. IsRunAfter lines self.allocated.items self.numbers.entries self.run.items self.low self.high self.unknown self.displaced) (sym same) (c.requires.so_far.2) in
    let missed : IsRunAfter (lines ++ c.args.line.now ∷ []) c.match-last.self.allocated.items c.remove.new.self.entries c.clear.new.self.items c.match-last.self.low c.match-last.self.high (c.match-last.self.unknown + 1) c.match-last.self.displaced =
    after_missing lines c.args.line.now c.match-last.self.allocated.items c.match-last.self.numbers.entries c.match-last.self.run.items c.match-last.self.low c.match-last.self.high c.match-last.self.unknown c.match-last.self.displaced so_far c.requires.gives_back
    c.place.new.numbers.entries c.remove.new.self.entries c.clear.new.self.items c.remove.result (placed_as c.match-last.self.allocated.items c.as_slice-2.result.now c.match-last.self.numbers.entries c.place.new.numbers.entries c.match-last.self.run.items c.deref-2.result.now c.as_slice-2.ensures.value c.deref-2.ensures.value c.in_ok-place.ensures) c.clear.ensures.items c.remove.ensures.entries c.remove.ensures.value
    (c.is_none.ensures ∙ ap not c.if-is_none.true) in
    omega (arith, missed.missed, c.requires.so_far.1, length-append lines (c.args.line.now ∷ []), unknown_fits (lines ++ c.args.line.now ∷ []))

pub returns-then-is_none-clause-after : goal.returns-then-is_none-clause-after
returns-then-is_none-clause-after c = λ lines n after.
    let same : c.match-last.self ≡ c.args.self.now = elim c.match-last.branch [ in-Some+else-block_at-line w ↦ w.self-is | in_default w ↦ w.self-is ] in
    let so_far : IsRunAfter lines c.match-last.self.allocated.items c.match-last.self.numbers.entries c.match-last.self.run.items c.match-last.self.low c.match-last.self.high c.match-last.self.unknown c.match-last.self.displaced =
    subst (λ self. IsRunAfter lines self.allocated.items self.numbers.entries self.run.items self.low self.high self.unknown self.displaced) (sym same) after in
    after_missing lines c.args.line.now c.match-last.self.allocated.items c.match-last.self.numbers.entries c.match-last.self.run.items c.match-last.self.low c.match-last.self.high c.match-last.self.unknown c.match-last.self.displaced so_far c.requires.gives_back
    c.place.new.numbers.entries c.remove.new.self.entries c.clear.new.self.items c.remove.result (placed_as c.match-last.self.allocated.items c.as_slice-2.result.now c.match-last.self.numbers.entries c.place.new.numbers.entries c.match-last.self.run.items c.deref-2.result.now c.as_slice-2.ensures.value c.deref-2.ensures.value c.in_ok-place.ensures) c.clear.ensures.items c.remove.ensures.entries c.remove.ensures.value
    (c.is_none.ensures ∙ ap not c.if-is_none.true)

pub returns-else-is_none-clause-after : goal.returns-else-is_none-clause-after
returns-else-is_none-clause-after c = λ lines n after.
    let same : c.match-last.self ≡ c.args.self.now = elim c.match-last.branch [ in-Some+else-block_at-line w ↦ w.self-is | in_default w ↦ w.self-is ] in
    let so_far : IsRunAfter lines c.match-last.self.allocated.items c.match-last.self.numbers.entries c.match-last.self.run.items c.match-last.self.low c.match-last.self.high c.match-last.self.unknown c.match-last.self.displaced =
    subst (λ self. IsRunAfter lines self.allocated.items self.numbers.entries self.run.items self.low self.high self.unknown self.displaced) (sym same) after in
    after_giving lines c.args.line.now c.match-last.self.allocated.items c.match-last.self.numbers.entries c.match-last.self.run.items c.match-last.self.low c.match-last.self.high c.match-last.self.unknown c.match-last.self.displaced so_far c.requires.gives_back
    c.place.new.numbers.entries c.remove.new.self.entries c.clear.new.self.items c.remove.result (placed_as c.match-last.self.allocated.items c.as_slice-2.result.now c.match-last.self.numbers.entries c.place.new.numbers.entries c.match-last.self.run.items c.deref-2.result.now c.as_slice-2.ensures.value c.deref-2.ensures.value c.in_ok-place.ensures) c.clear.ensures.items c.remove.ensures.entries c.remove.ensures.value
    (c.is_none.ensures ∙ ap not c.if-is_none.false)

pub returns-then-block_at-line-clause-allocated : goal.returns-then-block_at-line-clause-allocated
returns-then-block_at-line-clause-allocated c = grown_kept c.args.number c.args.line.now c.args.self.now.allocated.items (allocates_nothing c.args.line.now c.requires.gives_back)

pub returns-then-is_none-clause-allocated : goal.returns-then-is_none-clause-allocated
returns-then-is_none-clause-allocated c =
    let same : c.match-last.self ≡ c.args.self.now = elim c.match-last.branch [ in-Some+else-block_at-line w ↦ w.self-is | in_default w ↦ w.self-is ] in
    ap (λ self. self.allocated.items) same ∙ grown_kept c.args.number c.args.line.now c.args.self.now.allocated.items (allocates_nothing c.args.line.now c.requires.gives_back)

pub returns-else-is_none-clause-allocated : goal.returns-else-is_none-clause-allocated
returns-else-is_none-clause-allocated c =
    let same : c.match-last.self ≡ c.args.self.now = elim c.match-last.branch [ in-Some+else-block_at-line w ↦ w.self-is | in_default w ↦ w.self-is ] in
    ap (λ self. self.allocated.items) same ∙ grown_kept c.args.number c.args.line.now c.args.self.now.allocated.items (allocates_nothing c.args.line.now c.requires.gives_back)
