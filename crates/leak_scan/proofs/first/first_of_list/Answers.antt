-- One more word.
use Rattle.std.proofs.Common.{◌≡◌, ◌∷◌, ◌∙◌, ap, ◌++◌, rules, sym}
use Rattle.leak_scan.specs.Targets.{targets_of}
use Rattle.leak_scan.proofs.Ahead.{targets_skip, targets_more}
use Rattle.leak_scan.proofs.first.first_of_list.Goals as goal

pub loop-word-preserved : goal.loop-word-preserved
loop-word-preserved g c =
    let more : c.loop-word.rest.now ≡ c.in-Some.word.now ∷ c.in-Some.others.now = search rules in
    c.loop-word.invariant ∙ ap (targets_of (g.L.Lookup.index c.args.lookup.now)) more ∙ targets_skip (g.L.Lookup.index c.args.lookup.now) _ _ c.in-Zero.ensures

pub returns-in_default-hits : goal.returns-in_default-hits
returns-in_default-hits g c =
    let more : c.loop-word.rest.now ≡ c.in-Some.word.now ∷ c.in-Some.others.now = search rules in
    let index = g.L.Lookup.index c.args.lookup.now in
    record {
      split = c.loop-word.invariant ∙ ap (targets_of index) more ∙ targets_more index _ _ ∙ ap (λ ts. ts ++ targets_of index c.in-Some.others.now) (sym c.hits.ensures);
      end = λ e. absurd (c.in_default-hits.not-Zero e);
    }
