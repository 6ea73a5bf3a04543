-- From the lemma of KeptWords.
use Rattle.std.proofs.Common.{arith}
use Rattle.leak_scan.proofs.KeptWords.{read_kept}
use Rattle.leak_scan.proofs.reading.kept_on.Goals as goal

pub returns : goal.returns
returns g c =
    let count = c.div_ceil-count.result in
    read_kept (g.L.Lookup.index c.args.lookup.now) (g.W.Words.word_at c.args.words.now) c.args.from c.args.window count c.in_ok-kept.kept
    (g.met.W.Words.aligned c.args.words.now) c.in_ok-kept.ensures.place.0 c.in-Zero.ensures c.in_ok-kept.ensures.kept
    (omega (arith, c.div_ceil-count.ensures, c.requires)) (omega (arith, c.div_ceil-count.ensures)) (omega (arith, c.div_ceil-count.ensures))
