-- One more word, which fits or does not.
use Rattle.std.proofs.Common.{◌≡◌, ◌∷◌, ◌∙◌, ◌+◌, ◌++◌, ◌^◌, ap, add-one, drop, drop-cons, get_or, sym, subst, ◌<◌, ℕ, List, arith, rules, length}
use Rattle.std.proofs.Math.ListN.{drop_of_length-le}
use Rattle.std.specs.List.{AllByRecursion}
use Rattle.leak_scan.specs.Targets.{targets_of}
use Rattle.leak_scan.proofs.Blocks.{word_listed, all_listed, all_over, all_small, kept_on}
use Rattle.leak_scan.proofs.run_targets.list_words.Goals as goal

-- the word at a place, and those after it
next_word : (words : List ℕ) (n : ℕ) → n < length words → drop n words ≡ get_or words n 0 ∷ drop (n + 1) words
next_word words n inside = drop-cons words n 0 inside ∙ ap (λ (m : ℕ). get_or words n 0 ∷ drop m words) (sym (add-one n))

pub list_hits-requires-clause-small : goal.list_hits-requires-clause-small
list_hits-requires-clause-small g c =
    let index = g.L.Lookup.index c.args.lookup.now in
    subst (λ (l : List ℕ). AllByRecursion (λ b. b < 2 ^ 32) l) (sym c.hits.ensures)
    (all_small (length index.blocks) (2 ^ 32) _ (omega (arith, c.requires.few)) (c.hits_are_blocks.ensures index _))

pub loop-word-preserved : goal.loop-word-preserved
loop-word-preserved g c =
    let words = c.args.words.now in let n = c.loop-word.word-index in let index = g.L.Lookup.index c.args.lookup.now in
    record {
      within = c.in_ok-list_hits.ensures.within;
      kept = kept_on c.args.targets.now.items c.loop-word.targets.items c.list_hits.new.targets.items c.loop-word.invariant.kept c.in_ok-list_hits.ensures.kept;
      listed = word_listed index c.loop-word.targets.items _ _ (drop n words) (drop (n + 1) words) (c.args.targets.now.items ++ targets_of index words) (get_or words n 0)
          (next_word words n c.loop-word-test.true) c.hits.ensures (c.in_ok-list_hits.ensures.listed (search rules)) c.loop-word.invariant.listed;
    }

pub returns-clause-listed : goal.returns-clause-listed
returns-clause-listed g c _ =
    all_listed (g.L.Lookup.index c.args.lookup.now) _ (drop c.loop-word.word-index c.args.words.now) _ (drop_of_length-le c.args.words.now c.loop-word-test.false) c.loop-word.invariant.listed

pub returns-then-not-branch-clause-over : goal.returns-then-not-branch-clause-over
returns-then-not-branch-clause-over g c _ =
    let words = c.args.words.now in let n = c.loop-word.word-index in
    all_over (g.L.Lookup.index c.args.lookup.now) c.loop-word.targets.items _ _ (drop n words) (drop (n + 1) words) _ (get_or words n 0) _
    (next_word words n c.loop-word-test.true) c.hits.ensures c.loop-word.invariant.listed (c.in_ok-list_hits.ensures.over (search rules))
