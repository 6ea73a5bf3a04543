-- The words at the addresses of the block.
use Rattle.std.proofs.Common.{◌≡◌, ◌+◌, ◌-◌, ◌∙◌, ap, arith}
use Rattle.std.specs.List.{range_with_len, filter_map}
use Rattle.leak_elf.specs.Words.{words_between}
use Rattle.leak_scan.specs.Positions.{words_from}
use Rattle.leak_scan.specs.Targets.{targets_of}
use Rattle.leak_scan.proofs.targets.Targets.of_block.Goals as goal

pub returns : goal.returns
unfolding words_between words_from
returns g c =
    let b = c.args.block.now in
    let count : c.saturating_sub-count.result ≡ b.start + b.size - 7 - b.start = omega arith in
    c.over.ensures ∙ ap (λ n. targets_of (g.L.Lookup.index c.args.lookup.now) (filter_map (g.W.Words.word_at c.args.words.now) (range_with_len b.start n))) count
