-- One more word.
use Rattle.std.proofs.Common.{◌≡◌, ◌∙◌, sym, subst, ℕ, List, Some, ◌+◌, arith}
use Rattle.leak_elf.specs.Words.{IsRun}
use Rattle.leak_scan.proofs.RootRanges.{range_hit, range_passed, run_first, run_rest}
use Rattle.leak_scan.proofs.root_words.first_held.Goals as goal

pub loop-rest-preserved : goal.loop-rest-preserved
loop-rest-preserved g c =
    let f = g.W.Words.word_at c.args.words.now in
    let here : f c.loop-rest.at ≡ Some c.split_word-word.result.0 = run_first f _ _ _ c.loop-rest.invariant.run c.loop-rest-test.true c.split_word-word.ensures.word in
    record {
      on = omega (arith, c.loop-rest.invariant.on);
      same = c.loop-rest.invariant.same ∙ range_passed f (g.L.Lookup.index c.args.lookup.now) c.loop-rest.at c.args.to (c.loop-rest.at + 8) _ (g.met.W.Words.aligned c.args.words.now) here (omega arith) (omega arith) c.in-Zero.ensures;
      run = subst (λ (bytes : List ℕ). IsRun f (c.loop-rest.at + 8) bytes) (sym c.split_word-word.ensures.rest) (run_rest f _ _ c.loop-rest.invariant.run c.loop-rest-test.true);
    }

pub returns-in_default : goal.returns-in_default
returns-in_default g c =
    let f = g.W.Words.word_at c.args.words.now in
    let here : f c.loop-rest.at ≡ Some c.split_word-word.result.0 = run_first f _ _ _ c.loop-rest.invariant.run c.loop-rest-test.true c.split_word-word.ensures.word in
    record {
      split = c.loop-rest.invariant.same ∙ range_hit f (g.L.Lookup.index c.args.lookup.now) c.loop-rest.at c.args.to (c.loop-rest.at + 8) _ c.held_by.result (g.met.W.Words.aligned c.args.words.now) here (omega arith) (omega arith) c.held_by.ensures;
      on = omega (arith, c.loop-rest.invariant.on);
    }
