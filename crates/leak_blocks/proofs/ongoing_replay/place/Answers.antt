-- The block of each number goes between those below it and those above.
use Rattle.std.proofs.Common.{◌≡◌, ◌∙◌, ap, subst, arith, ◌++◌, ℕ, ◌+◌, ◌<◌, length, drop, get_or}
use Rattle.std.proofs.lemmas.List.{drop_more}
use Rattle.std.proofs.lemmas.Option.{slice_get_within}
use Rattle.leak_blocks.proofs.BuildLemmas.{IsNext, next_built, none_left}
use Rattle.leak_blocks.proofs.RunLemmas.{ArePlaced, placed_at_first, next_placed, placed_at_last}
use Rattle.leak_blocks.proofs.ongoing_replay.place.Goals as goal

pub loop-number-init : goal.loop-number-init
loop-number-init c = λ below held above b. placed_at_first c.args.allocated.now c.args.numbers.now.entries c.args.run.now below held above b

pub block_at-requires : goal.block_at-requires
block_at-requires c =
    let p : ArePlaced (c.requires.0 ++ c.requires.1) c.requires.2 c.loop-number.numbers.entries (drop c.loop-number.number-index c.args.run.now) = c.loop-number.invariant c.requires.0 c.requires.1 c.requires.2 c.requires.3 in
    let n : IsNext c.args.allocated.now (c.requires.0 ++ c.requires.1) p.placed (get_or c.args.run.now c.loop-number.number-index 0) (drop (c.loop-number.number-index + 1) c.args.run.now) =
    next_built c.args.allocated.now (c.requires.0 ++ c.requires.1) p.placed _ _ _ c.requires.3.numbered p.built (drop_more c.args.run.now c.loop-number.number-index 0 c.loop-number-test.true) in
    subst (λ (k : ℕ). k < length c.args.allocated.now) n.is_number (slice_get_within c.args.allocated.now n.block.line n.is_numbered.0 n.is_numbered.1.at)

pub loop-number-preserved : goal.loop-number-preserved
loop-number-preserved c = λ below held above b.
    next_placed c.args.allocated.now (below ++ held) above c.loop-number.numbers.entries c.insert.new.self.entries _ (drop (c.loop-number.number-index + 1) c.args.run.now) _ c.block_at.result b.numbered b.disjoint
    (c.loop-number.invariant below held above b) (drop_more c.args.run.now c.loop-number.number-index 0 c.loop-number-test.true) c.block_at.ensures c.in_ok-insert.ensures.entries

pub returns : goal.returns
returns c = λ below held above b.
    let last : c.loop-number.number-index ≡ length c.args.run.now = omega arith in
    placed_at_last (below ++ held) above c.loop-number.numbers.entries (drop c.loop-number.number-index c.args.run.now) (c.loop-number.invariant below held above b)
    (ap (λ (k : ℕ). drop k c.args.run.now) last ∙ none_left c.args.run.now)
