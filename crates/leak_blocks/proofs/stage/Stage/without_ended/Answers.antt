-- The blocks are the live ones, numbered anew.
use Rattle.std.proofs.Common.{◌≡◌, ◌∙◌, ap, sym, subst, ℕ, List, length}
use Rattle.std.specs.List.{range_with_len}
use Rattle.leak_mtrace.specs.declared.line.Line.{Line}
use Rattle.leak_blocks.specs.declared.block.Block.{Block}
use Rattle.leak_blocks.specs.Live.{replay_of}
use Rattle.leak_blocks.specs.Numbers.{AreBlocksOf, AreNumbered, IsStageAfter}
use Rattle.leak_blocks.proofs.GatherLemmas.{as_many}
use Rattle.leak_blocks.proofs.RenumberLemmas.{numbered_anew}
use Rattle.leak_blocks.proofs.stage.Stage.without_ended.Goals as goal

pub returns-clause-after : goal.returns-clause-after
returns-clause-after c = λ lines after.
    let live : c.in_ok-blocks.blocks.items ≡ (replay_of lines).blocks =
    subst (λ (ns : List ℕ). AreBlocksOf c.args.self.allocated.items ns c.in_ok-blocks.blocks.items) c.as_slice.ensures.value c.in_ok-blocks.ensures (replay_of lines).blocks after.blocks in
    let many : length c.args.self.numbers.items ≡ length c.in_ok-blocks.blocks.items = as_many c.args.self.allocated.items (replay_of lines).blocks c.args.self.numbers.items after.blocks ∙ ap length (sym live) in
    record {
      blocks = subst (AreNumbered c.in_ok-blocks.blocks.items c.in_ok-counted_up.field-0.items) live
          (numbered_anew c.in_ok-blocks.blocks.items c.in_ok-counted_up.field-0.items (c.in_ok-counted_up.ensures ∙ ap (range_with_len 0) many));
      missed = after.missed;
      ended = after.ended;
    }

pub returns-clause-live : goal.returns-clause-live
returns-clause-live c = λ lines after.
    subst (λ (ns : List ℕ). AreBlocksOf c.args.self.allocated.items ns c.in_ok-blocks.blocks.items) c.as_slice.ensures.value c.in_ok-blocks.ensures (replay_of lines).blocks after.blocks
