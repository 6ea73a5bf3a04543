-- From the lemmas of WordLemmas.
use Rattle.std.proofs.Common.{List, slice_get, ap, ◌∙◌, ◌+◌, get_or}
use Rattle.std.proofs.lemmas.Option.{slice_get-get_or}
use Rattle.leak_blocks.specs.declared.block.Block.{Block}
use Rattle.leak_scan.specs.Targets.{block_targets}
use Rattle.leak_why.proofs.WordLemmas.{none_target}
use Rattle.leak_why.proofs.tracing.link_to.Goals as goal

pub unreachable-requires : goal.unreachable-requires
unfolding block_targets
unreachable-requires g c =
    let nothing : Block = record { start = 0; size = 0; line = 0; caller = (0, 0) } in
    let of : Block = get_or c.args.blocks.now c.args.holder nothing in
    none_target (g.W.Words.word_at c.args.words.now) (g.L.Lookup.index c.args.lookup.now) of.start (of.start + of.size) c.args.block c.in_default.ensures.none (c.requires.leads nothing)

pub returns-clause-link : goal.returns-clause-link
returns-clause-link g c = let nothing : Block = record { start = 0; size = 0; line = 0; caller = (0, 0) } in record {
  holder = get_or c.args.blocks.now c.args.holder nothing;
  is_holder = ap (λ (l : List Block). slice_get l c.args.holder) c.requires.blocks ∙ slice_get-get_or c.args.blocks.now c.args.holder nothing c.requires.holder;
  lies = record { from_start = c.in-Some.ensures.some.from_start; to_end = c.in-Some.ensures.some.to_end };
  word = c.in-Some.ensures.some.word_is;
  leads = c.in-Some.ensures.some.leads;
}
