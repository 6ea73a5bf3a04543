-- From the lemmas of SiteLemmas.
use Rattle.std.proofs.Common.{get_or, length, subst, sym, ap, ◌∙◌}
use Rattle.leak_report.specs.declared.caller_texts.CallerTexts.{CallerTexts}
use Rattle.leak_report.specs.Sites.{HaveSites, sited}
use Rattle.leak_report.proofs.SiteLemmas.{caller_at}
use Rattle.leak_report.proofs.caller_texts.CallerTexts.site.Goals as goal

pub returns-in-Few : goal.returns-in-Few
returns-in-Few c d =
    let have = subst (λ (t : CallerTexts). HaveSites t (length c.args.blocks.now)) c.in-Few.is c.requires.sites in
    caller_at c.in-Few.places.ranges.now c.in-Few.numbers.now c.args.blocks.now c.args.i (record { start = 0; size = 0; line = 0; caller = (0, 0) }) d have.0 c.requires.inside
    ∙ ap (λ (t : CallerTexts). get_or (sited t c.args.blocks.now) c.args.i d) (sym c.in-Few.is)

pub returns-in-Many : goal.returns-in-Many
returns-in-Many c d =
    let have = subst (λ (t : CallerTexts). HaveSites t (length c.args.blocks.now)) c.in-Many.is c.requires.sites in
    caller_at c.in-Many.places.ranges.now c.in-Many.numbers.now c.args.blocks.now c.args.i (record { start = 0; size = 0; line = 0; caller = (0, 0) }) d have.0 c.requires.inside
    ∙ ap (λ (t : CallerTexts). get_or (sited t c.args.blocks.now) c.args.i d) (sym c.in-Many.is)
