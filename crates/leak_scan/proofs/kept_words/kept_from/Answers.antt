-- From the lemma of KeptWords.
use Rattle.leak_scan.proofs.KeptWords.{kept_of_bytes}
use Rattle.leak_scan.proofs.kept_words.kept_from.Goals as goal

pub returns : goal.returns
returns g c =
    kept_of_bytes (g.L.Lookup.index c.args.lookup.now) (g.W.Words.word_at c.args.words.now) c.args.from c.args.size c.in_ok-kept.kept.now
    (g.met.W.Words.aligned c.args.words.now) c.in_ok-kept.ensures.place.0 c.in-Zero.ensures c.in_ok-kept.ensures.kept
