-- The first block that doesn't begin before the address tells.
use Rattle.std.proofs.Common.{◌≡◌, ◌+◌, ◌∙◌, ap, sym, arith}
use Rattle.std.proofs.lemmas.Bool.{le-ltb}
use Rattle.leak_chunks.specs.FreeLinks.{has_start}
use Rattle.leak_chunks.proofs.Starts.{first_tells, all_start_before, none_past_the_last}
use Rattle.leak_chunks.proofs.free_link.has_start.Goals as goal

pub returns-in_default : goal.returns-in_default
returns-in_default c = sym (none_past_the_last c.args.blocks.now (c.args.addr + c.args.bytes) c.requires.addressed (omega (arith, c.in_default.ensures)))

pub returns-then-at-blocks : goal.returns-then-at-blocks
returns-then-at-blocks c =
    let same : c.in-Some.start ≡ c.args.addr + c.args.bytes = c.in-Some.ensures.1 in
    first_tells c.args.blocks.now c.in-Some.start c.count_before-at.result c.requires.disjoint c.count_before-at.ensures c.if-at-blocks.true ∙ ap (has_start c.args.blocks.now) same

pub returns-else-at-blocks : goal.returns-else-at-blocks
returns-else-at-blocks c =
    let same : c.in-Some.start ≡ c.args.addr + c.args.bytes = c.in-Some.ensures.1 in
    le-ltb _ _ c.if-at-blocks.false ∙ sym (all_start_before c.args.blocks.now c.in-Some.start c.count_before-at.result c.count_before-at.ensures c.if-at-blocks.false) ∙ ap (has_start c.args.blocks.now) same
