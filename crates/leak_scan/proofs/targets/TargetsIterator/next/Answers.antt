-- Nothing is left.
use Rattle.std.proofs.Common.{◌≡◌, ◌∙◌, ap, sym, ◌++◌, []}
use Rattle.std.specs.List.{cons_option}
use Rattle.leak_index.specs.Hits.{hits_in}
use Rattle.leak_scan.specs.Scans.{targets_ahead}
use Rattle.leak_scan.proofs.targets.TargetsIterator.next.Goals as goal

pub returns-in-Zero-clause-steps : goal.returns-in-Zero-clause-steps
returns-in-Zero-clause-steps g c =
    let f = g.W.Words.word_at c.self.inside.words.now in
    let index = g.L.Lookup.index c.self.inside.lookup.now in
    let later = c.next_on-hits.result.1 in
    let none : targets_ahead f index later ≡ [] = c.next_on-hits.ensures.end c.in-Zero.is in (
      sym c.self.view_is
          ∙ ap (λ o. cons_option o (targets_ahead f index c.self.inside.scan)) (sym c.take.ensures.value ∙ c.in_default.is)
          ∙ c.next_on-hits.ensures.split ∙ ap (λ h. hits_in h ++ targets_ahead f index later) c.in-Zero.is ∙ none,
      ap (λ o. cons_option o (targets_ahead f index later)) c.take.ensures.after ∙ none,
    )
