-- The block is pushed where it lies between the run and what is above it.
use Rattle.std.proofs.Common.{◌≡◌, ◌+◌, ◌-◌, ◌∙◌, ap, max, ℕ, ◌++◌, ◌∷◌, [], length, arith}
use Rattle.leak_blocks.specs.declared.block.Block.{Block}
use Rattle.leak_blocks.specs.Live.{block_of}
use Rattle.leak_blocks.proofs.OngoingReplayLemmas.{after_pushing}
use Rattle.leak_blocks.proofs.WindowLemmas.{grown_allocated}
use Rattle.leak_blocks.proofs.ongoing_replay.OngoingReplay.allocate.Goals as goal

pub returns-clause-after : goal.returns-clause-after
returns-clause-after c = λ lines n so_far.
    let m : c.max.result ≡ max c.args.line.now.size 1 = c.max.ensures in
    let last : ℕ = c.args.line.now.addr + (c.max.result - 1) in
    let longer : c.push-2.new.self.items ≡ c.args.self.now.allocated.items ++ block_of (length lines + 1) c.args.line.now ∷ [] =
    c.in_ok-push-2.ensures.items ∙ ap (λ (b : Block). c.args.self.now.allocated.items ++ b ∷ []) (c.block_of.ensures ∙ ap (λ (k : ℕ). block_of k c.args.line.now) n) in
    after_pushing lines c.args.line.now c.args.self.now.allocated.items c.args.self.now.numbers.entries c.args.self.now.run.items c.args.self.now.low c.args.self.now.high c.args.self.now.unknown c.args.self.now.displaced so_far
    c.requires.allocates last (omega arith) c.push-2.new.self.items longer (omega arith) (omega arith) c.push.new.self.items
    (c.in_ok-push.ensures.items ∙ ap (λ (k : ℕ). c.args.self.now.run.items ++ k ∷ []) (c.len.ensures ∙ c.args.self.now.allocated.ok.0))

pub returns-clause-allocated : goal.returns-clause-allocated
returns-clause-allocated c =
    grown_allocated c.args.number c.args.line.now c.args.self.now.allocated.items c.push-2.new.self.items c.requires.allocates
    (c.in_ok-push-2.ensures.items ∙ ap (λ (b : Block). c.args.self.now.allocated.items ++ b ∷ []) c.block_of.ensures)
