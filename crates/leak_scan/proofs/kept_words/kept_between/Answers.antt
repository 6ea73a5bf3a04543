-- From the lemmas of KeptWords.
use Rattle.std.proofs.Common.{ap, ◌∙◌}
use Rattle.std.proofs.lemmas.Option.{IfSome_then}
use Rattle.leak_scan.specs.Targets.{targets_of}
use Rattle.leak_scan.proofs.KeptWords.{by_size}
use Rattle.leak_scan.proofs.kept_words.kept_between.Goals as goal

pub returns : goal.returns
returns g c =
    let index = g.L.Lookup.index c.args.lookup.now in
    let same = by_size (g.W.Words.word_at c.args.words.now) c.args.from c.args.to c.saturating_sub.result c.saturating_sub.ensures in
    IfSome_then c.kept_from.result c.kept_from.ensures (λ kept leads. leads ∙ ap (targets_of index) same)
