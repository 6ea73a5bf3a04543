-- The words at the addresses of the block that are on listed pages.
use Rattle.std.proofs.Common.{◌≡◌, ◌+◌, ◌-◌, ◌∙◌, ap, arith, filter, filter_map}
use Rattle.std.specs.List.{range_with_len}
use Rattle.leak_scan.specs.Positions.{words_from}
use Rattle.leak_scan.specs.Targets.{targets_of, block_words_on, is_on}
use Rattle.leak_scan.proofs.Advance.{filtered}
use Rattle.leak_scan.proofs.targets.Targets.of_block_pages.Goals as goal

pub returns : goal.returns
unfolding words_from block_words_on
returns g c =
    let b = c.args.block.now in
    let count : c.saturating_sub-count.result ≡ b.start + b.size - 7 - b.start = omega arith in
    c.over.ensures ∙ ap (targets_of (g.L.Lookup.index c.args.lookup.now)) (filtered (g.W.Words.word_at c.args.words.now) (is_on c.args.pages.now) (range_with_len b.start c.saturating_sub-count.result))
    ∙ ap (λ n. targets_of (g.L.Lookup.index c.args.lookup.now) (filter_map (g.W.Words.word_at c.args.words.now) (filter (is_on c.args.pages.now) (range_with_len b.start n)))) count
