-- One more word, which fits or does not.
use Rattle.std.proofs.Common.{◌≡◌, ◌∷◌, ◌++◌, ◌∙◌, ◌^◌, sym, ap, subst, ◌<◌, ℕ, List, length, arith, rules}
use Rattle.std.specs.List.{AllByRecursion}
use Rattle.leak_scan.specs.Positions.{words_in}
use Rattle.leak_scan.proofs.Blocks.{word_listed, all_listed, all_over, all_small, kept_on}
use Rattle.leak_scan.proofs.Runs.{words_more, words_none}
use Rattle.leak_scan.proofs.run_targets.list_run.Goals as goal

pub list_hits-requires-clause-small : goal.list_hits-requires-clause-small
list_hits-requires-clause-small g c =
    let index = g.L.Lookup.index c.args.lookup.now in
    subst (λ (l : List ℕ). AllByRecursion (λ b. b < 2 ^ 32) l) (sym c.hits.ensures)
    (all_small (length index.blocks) (2 ^ 32) _ (omega (arith, c.requires.few)) (c.hits_are_blocks.ensures index c.split_word-word.result.0))

pub loop-rest-preserved : goal.loop-rest-preserved
loop-rest-preserved g c =
    let index = g.L.Lookup.index c.args.lookup.now in
    let more : words_in c.loop-rest.rest.now ≡ c.split_word-word.result.0 ∷ words_in c.split_word-word.result.1.now = rw (c.split_word-word.ensures.word, c.split_word-word.ensures.rest) (words_more _ c.loop-rest-test.true) in
    record {
      within = c.in_ok-list_hits.ensures.within;
      kept = kept_on c.args.targets.now.items c.loop-rest.targets.items c.list_hits.new.targets.items c.loop-rest.invariant.kept c.in_ok-list_hits.ensures.kept;
      listed = ap (λ (led : List ℕ). c.list_hits.new.targets.items ++ led) (c.past_zeros-rest-in-loop-rest.ensures.led index c.zeros_lead_nowhere-skips.ensures)
          ∙ word_listed index c.loop-rest.targets.items _ _ (words_in c.loop-rest.rest.now) (words_in c.split_word-word.result.1.now) _ c.split_word-word.result.0 more c.hits.ensures (c.in_ok-list_hits.ensures.listed (search rules)) c.loop-rest.invariant.listed;
    }

pub returns-clause-listed : goal.returns-clause-listed
returns-clause-listed g c _ = all_listed (g.L.Lookup.index c.args.lookup.now) _ (words_in c.loop-rest.rest.now) _ (words_none c.loop-rest.rest.now c.loop-rest-test.false) c.loop-rest.invariant.listed

pub returns-then-not-branch-clause-over : goal.returns-then-not-branch-clause-over
returns-then-not-branch-clause-over g c _ =
    let index = g.L.Lookup.index c.args.lookup.now in
    let more : words_in c.loop-rest.rest.now ≡ c.split_word-word.result.0 ∷ words_in c.split_word-word.result.1.now = rw (c.split_word-word.ensures.word, c.split_word-word.ensures.rest) (words_more _ c.loop-rest-test.true) in
    all_over index c.loop-rest.targets.items _ _ (words_in c.loop-rest.rest.now) (words_in c.split_word-word.result.1.now) _ c.split_word-word.result.0 _ more c.hits.ensures c.loop-rest.invariant.listed (c.in_ok-list_hits.ensures.over (search rules))
