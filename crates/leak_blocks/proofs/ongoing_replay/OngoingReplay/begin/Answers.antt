-- All blocks go into the map, those that are met are taken out, and the new one begins a run.
use Rattle.std.proofs.Common.{◌≡◌, ◌+◌, ◌-◌, ◌<◌, ◌≤◌, ◌⊎◌, max, ℕ, List, ◌++◌, ◌∷◌, [], arith, length, length-append, sym, ap, ◌∙◌, subst}
use Rattle.std.specs.List.{AllByRecursion}
use Rattle.leak_mtrace.specs.declared.line.Line.{Line}
use Rattle.leak_blocks.specs.declared.block.Block.{Block}
use Rattle.leak_blocks.specs.Live.{block_of}
use Rattle.leak_blocks.specs.Numbers.{AreOf}
use Rattle.leak_blocks.specs.Runs.{IsRunAfter, ArePlacedOf}
use Rattle.leak_blocks.proofs.ChangeLemmas.{unmet}
use Rattle.leak_blocks.proofs.PartLemmas.{own_limit}
use Rattle.leak_blocks.proofs.StepLemmas.{displaced_fits}
use Rattle.leak_blocks.proofs.PlacedLemmas.{of_as, placed_as, placed_of}
use Rattle.leak_blocks.proofs.OngoingReplayLemmas.{left_of, ended, after_displacing}
use Rattle.leak_blocks.proofs.WindowLemmas.{grown_allocated}
use Rattle.leak_blocks.proofs.ongoing_replay.OngoingReplay.begin.Goals as goal
use Rattle.leak_blocks.proofs.ongoing_replay.OngoingReplay.begin.Goals.{then-near, else-near}

pub displace-requires-clause-held : goal.displace-requires-clause-held
displace-requires-clause-held c =
    let so_far : IsRunAfter c.requires.so_far.0 c.args.self.now.allocated.items c.args.self.now.numbers.entries c.args.self.now.run.items c.args.self.now.low c.args.self.now.high c.args.self.now.unknown c.args.self.now.displaced = c.requires.so_far.2 in
    let placed : ArePlacedOf c.args.self.now.allocated.items c.args.self.now.numbers.entries c.args.self.now.run.items c.place.new.numbers.entries = placed_as c.args.self.now.allocated.items c.as_slice.result.now c.args.self.now.numbers.entries c.place.new.numbers.entries c.args.self.now.run.items c.deref.result.now c.as_slice.ensures.value c.deref.ensures.value c.in_ok-place.ensures in
    (so_far.numbered, of_as _ _ _ _ c.as_slice-2.ensures.value (placed_of c.requires.so_far.0 c.args.self.now.allocated.items c.args.self.now.numbers.entries c.args.self.now.run.items c.args.self.now.low c.args.self.now.high c.args.self.now.unknown c.args.self.now.displaced so_far c.place.new.numbers.entries placed))

pub overflow_add-self : goal.overflow_add-self
overflow_add-self c =
    let lines : List Line = c.requires.so_far.0 in
    let so_far : IsRunAfter lines c.args.self.now.allocated.items c.args.self.now.numbers.entries c.args.self.now.run.items c.args.self.now.low c.args.self.now.high c.args.self.now.unknown c.args.self.now.displaced = c.requires.so_far.2 in
    let placed : ArePlacedOf c.args.self.now.allocated.items c.args.self.now.numbers.entries c.args.self.now.run.items c.place.new.numbers.entries = placed_as c.args.self.now.allocated.items c.as_slice.result.now c.args.self.now.numbers.entries c.place.new.numbers.entries c.args.self.now.run.items c.deref.result.now c.as_slice.ensures.value c.deref.ensures.value c.in_ok-place.ensures in
    let of : AreOf c.args.self.now.allocated.items c.place.new.numbers.entries so_far.numbered = placed_of lines c.args.self.now.allocated.items c.args.self.now.numbers.entries c.args.self.now.run.items c.args.self.now.low c.args.self.now.high c.args.self.now.unknown c.args.self.now.displaced so_far c.place.new.numbers.entries placed in
    let m : c.max.result ≡ max c.args.line.now.size 1 = c.max.ensures in
    omega (
      arith,
      c.requires.so_far.1,
      length-append lines (c.args.line.now ∷ []),
      displaced_fits (lines ++ c.args.line.now ∷ []),
      ended lines c.args.line.now c.args.self.now.allocated.items c.args.self.now.numbers.entries c.args.self.now.run.items c.args.self.now.low c.args.self.now.high c.args.self.now.unknown c.args.self.now.displaced so_far c.requires.allocates (c.args.line.now.addr + (c.max.result - 1)) (omega arith) c.displace.result (c.displace.ensures.count _ (of_as _ _ _ _ c.as_slice-2.ensures.value of)),
    )

pub limit-high-requires : goal.limit-high-requires
limit-high-requires c =
    let lines : List Line = c.requires.so_far.0 in
    let so_far : IsRunAfter lines c.args.self.now.allocated.items c.args.self.now.numbers.entries c.args.self.now.run.items c.args.self.now.low c.args.self.now.high c.args.self.now.unknown c.args.self.now.displaced = c.requires.so_far.2 in
    let placed : ArePlacedOf c.args.self.now.allocated.items c.args.self.now.numbers.entries c.args.self.now.run.items c.place.new.numbers.entries = placed_as c.args.self.now.allocated.items c.as_slice.result.now c.args.self.now.numbers.entries c.place.new.numbers.entries c.args.self.now.run.items c.deref.result.now c.as_slice.ensures.value c.deref.ensures.value c.in_ok-place.ensures in
    let of : AreOf c.args.self.now.allocated.items c.place.new.numbers.entries so_far.numbered = placed_of lines c.args.self.now.allocated.items c.args.self.now.numbers.entries c.args.self.now.run.items c.args.self.now.low c.args.self.now.high c.args.self.now.unknown c.args.self.now.displaced so_far c.place.new.numbers.entries placed in
    (unmet c.args.line.now so_far.numbered, of_as _ _ _ _ c.as_slice-then-near.ensures.value (left_of lines c.args.line.now c.args.self.now.allocated.items c.args.self.now.numbers.entries c.args.self.now.run.items c.args.self.now.low c.args.self.now.high c.args.self.now.unknown c.args.self.now.displaced so_far c.displace.new.numbers.entries (c.displace.ensures.unmet _ (of_as _ _ _ _ c.as_slice-2.ensures.value of))))

pub returns-clause-after : goal.returns-clause-after
returns-clause-after c = λ lines n after.
    let so_far : IsRunAfter lines c.args.self.now.allocated.items c.args.self.now.numbers.entries c.args.self.now.run.items c.args.self.now.low c.args.self.now.high c.args.self.now.unknown c.args.self.now.displaced = after in
    let placed : ArePlacedOf c.args.self.now.allocated.items c.args.self.now.numbers.entries c.args.self.now.run.items c.place.new.numbers.entries = placed_as c.args.self.now.allocated.items c.as_slice.result.now c.args.self.now.numbers.entries c.place.new.numbers.entries c.args.self.now.run.items c.deref.result.now c.as_slice.ensures.value c.deref.ensures.value c.in_ok-place.ensures in
    let of : AreOf c.args.self.now.allocated.items c.place.new.numbers.entries so_far.numbered = placed_of lines c.args.self.now.allocated.items c.args.self.now.numbers.entries c.args.self.now.run.items c.args.self.now.low c.args.self.now.high c.args.self.now.unknown c.args.self.now.displaced so_far c.place.new.numbers.entries placed in
    let left : AreOf c.args.self.now.allocated.items c.displace.new.numbers.entries (unmet c.args.line.now so_far.numbered) = left_of lines c.args.line.now c.args.self.now.allocated.items c.args.self.now.numbers.entries c.args.self.now.run.items c.args.self.now.low c.args.self.now.high c.args.self.now.unknown c.args.self.now.displaced so_far c.displace.new.numbers.entries (c.displace.ensures.unmet _ (of_as _ _ _ _ c.as_slice-2.ensures.value of)) in
    let m : c.max.result ≡ max c.args.line.now.size 1 = c.max.ensures in
    let last : ℕ = c.args.line.now.addr + (c.max.result - 1) in
    let bound : AllByRecursion (λ b. (b.start < last) ⊎ (c.if-near.high ≤ b.start)) (unmet c.args.line.now so_far.numbered) =
    elim c.if-near.branch [
      | then-near w ↦ subst (λ (h : ℕ). AllByRecursion (λ b. (b.start < last) ⊎ (h ≤ b.start)) (unmet c.args.line.now so_far.numbered)) (sym w.high-is) (w.limit-high.ensures _ (of_as _ _ _ _ w.as_slice-then-near.ensures.value left))
      | else-near w ↦ subst (λ (h : ℕ). AllByRecursion (λ b. (b.start < last) ⊎ (h ≤ b.start)) (unmet c.args.line.now so_far.numbered)) (sym w.high-is) (own_limit last _)
    ] in
    let longer : c.push-2.new.self.items ≡ c.args.self.now.allocated.items ++ block_of (length lines + 1) c.args.line.now ∷ [] =
    c.in_ok-push-2.ensures.items ∙ ap (λ (b : Block). c.args.self.now.allocated.items ++ b ∷ []) (c.block_of.ensures ∙ ap (λ (k : ℕ). block_of k c.args.line.now) n) in
    let number : c.len.result ≡ length c.args.self.now.allocated.items = c.len.ensures ∙ c.args.self.now.allocated.ok.0 in
    after_displacing lines c.args.line.now c.args.self.now.allocated.items c.args.self.now.numbers.entries c.args.self.now.run.items c.args.self.now.low c.args.self.now.high c.args.self.now.unknown c.args.self.now.displaced so_far c.requires.allocates last (omega arith) c.push-2.new.self.items longer
    c.displace.new.numbers.entries c.displace.result c.if-near.high c.push.new.self.items (c.displace.ensures.unmet _ (of_as _ _ _ _ c.as_slice-2.ensures.value of)) (c.displace.ensures.count _ (of_as _ _ _ _ c.as_slice-2.ensures.value of))
    bound (c.in_ok-push.ensures.items ∙ ap (λ (l : List ℕ). l ++ c.len.result ∷ []) c.clear.ensures.items ∙ ap (λ (k : ℕ). k ∷ []) number)

pub returns-clause-allocated : goal.returns-clause-allocated
returns-clause-allocated c =
    grown_allocated c.args.number c.args.line.now c.args.self.now.allocated.items c.push-2.new.self.items c.requires.allocates
    (c.in_ok-push-2.ensures.items ∙ ap (λ (b : Block). c.args.self.now.allocated.items ++ b ∷ []) c.block_of.ensures)
