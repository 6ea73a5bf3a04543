-- One more word.
use Rattle.std.proofs.Common.{◌≡◌, ◌∷◌, ◌∙◌, ap, ◌++◌, sym}
use Rattle.leak_scan.specs.Positions.{words_in}
use Rattle.leak_scan.specs.Targets.{targets_of}
use Rattle.leak_scan.proofs.Ahead.{targets_skip, targets_more}
use Rattle.leak_scan.proofs.Runs.{words_more, words_none}
use Rattle.leak_scan.proofs.first.first_of_run.Goals as goal

pub loop-rest-preserved : goal.loop-rest-preserved
loop-rest-preserved g c =
    let more : words_in c.loop-rest.rest.now ≡ c.split_word-word.result.0 ∷ words_in c.split_word-word.result.1.now = rw (c.split_word-word.ensures.word, c.split_word-word.ensures.rest) (words_more _ c.loop-rest-test.true) in
    c.loop-rest.invariant ∙ ap (targets_of (g.L.Lookup.index c.args.lookup.now)) more ∙ targets_skip (g.L.Lookup.index c.args.lookup.now) _ _ c.in-Zero.ensures

pub returns-in_default : goal.returns-in_default
returns-in_default g c =
    let more : words_in c.loop-rest.rest.now ≡ c.split_word-word.result.0 ∷ words_in c.split_word-word.result.1.now = rw (c.split_word-word.ensures.word, c.split_word-word.ensures.rest) (words_more _ c.loop-rest-test.true) in
    let index = g.L.Lookup.index c.args.lookup.now in
    record {
      split = c.loop-rest.invariant ∙ ap (targets_of index) more ∙ targets_more index _ _ ∙ ap (λ ts. ts ++ targets_of index (words_in c.split_word-word.result.1.now)) (sym c.hits.ensures);
      end = λ e. absurd (c.in_default.not-Zero e);
    }

pub returns-clause-end : goal.returns-clause-end
returns-clause-end g c = λ e. words_none _ c.loop-rest-test.false
