-- A line that is neither an allocation nor a give-back changes nothing.
use Rattle.std.proofs.Common.{sym, ◌∙◌}
use Rattle.leak_blocks.proofs.OngoingReplayLemmas.{after_other}
use Rattle.leak_blocks.proofs.WindowLemmas.{grown_kept}
use Rattle.leak_blocks.proofs.ongoing_replay.OngoingReplay.step.Goals as goal

pub returns-else-is_give_back-clause-after : goal.returns-else-is_give_back-clause-after
returns-else-is_give_back-clause-after c = λ lines n so_far. after_other lines c.args.line.now c.args.self.now.allocated.items c.args.self.now.numbers.entries c.args.self.now.run.items c.args.self.now.low c.args.self.now.high c.args.self.now.unknown c.args.self.now.displaced so_far
    (sym c.is_allocation.ensures ∙ c.if-is_allocation.false) (sym c.is_give_back.ensures ∙ c.if-is_give_back.false)

pub returns-else-is_give_back-clause-allocated : goal.returns-else-is_give_back-clause-allocated
returns-else-is_give_back-clause-allocated c = grown_kept c.args.number c.args.line.now c.args.self.now.allocated.items (sym c.is_allocation.ensures ∙ c.if-is_allocation.false)
