-- A word that is 0 leads nowhere.
use Rattle.std.proofs.Common.{◌≡◌, ◌-◌, [], ◌∷◌, ◌∙◌, sym, ap, length, arith}
use Rattle.std.proofs.lemmas.List.{length-drop}
use Rattle.leak_index.specs.Hits.{hits_of}
use Rattle.leak_scan.specs.Positions.{words_in}
use Rattle.leak_scan.specs.Targets.{targets_of}
use Rattle.leak_scan.proofs.Ahead.{targets_skip}
use Rattle.leak_scan.proofs.Runs.{words_more}
use Rattle.leak_scan.proofs.run_targets.past_zeros.Goals as goal

pub loop-word-preserved : goal.loop-word-preserved
loop-word-preserved c =
    let more : words_in c.loop-word.rest.now ≡ c.split_word-word.result.0 ∷ words_in c.split_word-word.result.1.now = rw (c.split_word-word.ensures.word, c.split_word-word.ensures.rest) (words_more _ c.if-rest-ge8.true) in
    record {
      led = λ index none.
          let nowhere : hits_of index c.split_word-word.result.0 ≡ [] = ap (hits_of index) c.if-word-ne0.false ∙ none c.loop-word-test.true in
          sym (targets_skip index c.split_word-word.result.0 (words_in c.split_word-word.result.1.now) (sym nowhere)) ∙ ap (targets_of index) (sym more)
          ∙ c.loop-word.invariant.led index none;
      shorter =
          let cut : length c.split_word-word.result.1.now ≡ length c.loop-word.rest.now - 8 = ap length c.split_word-word.ensures.rest ∙ length-drop 8 c.loop-word.rest.now in
          let less = c.loop-word.invariant.shorter in
          omega (arith, cut, less);
    }
