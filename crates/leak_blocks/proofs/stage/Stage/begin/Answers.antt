-- All numbers are placed in the empty map, and the run is empty.
use Rattle.std.proofs.Common.{sym, subst, List, ℕ}
use Rattle.leak_blocks.specs.declared.block.Block.{Block}
use Rattle.leak_blocks.specs.Runs.{MayBePlaced, ArePlacedOf}
use Rattle.leak_blocks.proofs.PlacedLemmas.{first_may_be_placed, run_after}
use Rattle.leak_blocks.proofs.stage.Stage.begin.Goals as goal

pub place-requires : goal.place-requires
place-requires c = subst (λ (l : List Block). MayBePlaced l c.new-numbers.result.entries c.as_slice-2.result.now) (sym c.as_slice.ensures.value) (subst (λ (ns : List ℕ). MayBePlaced c.args.self.allocated.items c.new-numbers.result.entries ns) (sym c.as_slice-2.ensures.value)
    (first_may_be_placed c.requires.0 c.args.self.allocated.items c.args.self.numbers.items c.args.self.unknown c.args.self.displaced c.requires.1 c.new-numbers.result.entries c.new-numbers.ensures.empty))

pub returns-clause-after : goal.returns-clause-after
returns-clause-after c = λ lines after.
    let placed : ArePlacedOf c.args.self.allocated.items c.new-numbers.result.entries c.args.self.numbers.items c.place.new.numbers.entries =
    subst (λ (l : List Block). ArePlacedOf l c.new-numbers.result.entries c.args.self.numbers.items c.place.new.numbers.entries) c.as_slice.ensures.value
    (subst (λ (ns : List ℕ). ArePlacedOf c.as_slice.result.now c.new-numbers.result.entries ns c.place.new.numbers.entries) c.as_slice-2.ensures.value c.in_ok-place.ensures) in
    run_after lines c.args.self.allocated.items c.args.self.numbers.items c.args.self.unknown c.args.self.displaced after c.new-numbers.result.entries c.place.new.numbers.entries c.clear.new.self.items c.new-numbers.ensures.empty placed c.clear.ensures.items
