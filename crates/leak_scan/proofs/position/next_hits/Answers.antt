-- Each step keeps what is ahead, except words that lead nowhere.
use Rattle.std.proofs.Common.{◌∙◌, ap, ◌++◌, sym, refl, []}
use Rattle.std.specs.Option.{option_copied}
use Rattle.leak_scan.specs.Positions.{listed_word, words_left, words_in, words_found, words_from}
use Rattle.leak_scan.specs.Targets.{targets_of}
use Rattle.leak_scan.proofs.Ahead.{list_hit, list_passed, run_hit, run_passed, found_list, found_run, found_word, ahead_none, targets_skip, targets_more}
use Rattle.leak_scan.proofs.Ranges.{no_addresses}
use Rattle.leak_scan.proofs.position.next_hits.Goals as goal

pub loop-hits-init : goal.loop-hits-init
loop-hits-init g c = refl

pub returns-in_default : goal.returns-in_default
returns-in_default g c =
    let index = g.L.Lookup.index c.args.lookup.now in
    let f = listed_word (g.W.Words.word_at c.args.words.now) (option_copied c.args.pages) in
    record {
      split = c.loop-hits.invariant ∙ list_hit index f _ c.first_of_list-hits.result.1.now _ _ _ _ c.first_of_list-hits.ensures.split;
      end = λ e. absurd (c.in_default.not-Zero e);
    }

pub returns-in_default-hits : goal.returns-in_default-hits
returns-in_default-hits g c =
    let index = g.L.Lookup.index c.args.lookup.now in
    let f = listed_word (g.W.Words.word_at c.args.words.now) (option_copied c.args.pages) in
    let list = c.first_of_list-hits.result.1.now in
    let empty = c.first_of_list-hits.ensures.end c.in-Zero.is in
    let listed = c.loop-hits.invariant ∙ list_passed index f _ list _ _ _ c.first_of_list-hits.result.0 c.first_of_list-hits.ensures.split c.in-Zero.is in
    record {
      split = listed ∙ run_hit index f list _ c.first_of_run-hits.result.1.now _ _ _ empty c.first_of_run-hits.ensures.split;
      end = λ e. absurd (c.in_default-hits.not-Zero e);
    }

pub returns-then-position-eq0 : goal.returns-then-position-eq0
returns-then-position-eq0 g c =
    let index = g.L.Lookup.index c.args.lookup.now in
    let f = listed_word (g.W.Words.word_at c.args.words.now) (option_copied c.args.pages) in
    let list = c.first_of_list-hits.result.1.now in
    let empty = c.first_of_list-hits.ensures.end c.in-Zero.is in
    let listed = c.loop-hits.invariant ∙ list_passed index f _ list _ _ _ c.first_of_list-hits.result.0 c.first_of_list-hits.ensures.split c.in-Zero.is in
    let used = c.first_of_run-hits.ensures.end c.in-Zero-hits.is in
    let passed = listed ∙ run_passed index f _ _ c.first_of_run-hits.result.1.now _ _ c.first_of_run-hits.result.0 empty c.first_of_run-hits.ensures.split c.in-Zero-hits.is in
    record {
      split = passed;
      end = λ e. ahead_none f list _ _ _ empty used (ap (words_from f c.loop-hits.position.from) c.if-position-eq0.true ∙ no_addresses f c.loop-hits.position.from);
    }

pub loop-hits-preserved-in-Nothing : goal.loop-hits-preserved-in-Nothing
loop-hits-preserved-in-Nothing g c =
    let index = g.L.Lookup.index c.args.lookup.now in
    let f = listed_word (g.W.Words.word_at c.args.words.now) (option_copied c.args.pages) in
    let list = c.first_of_list-hits.result.1.now in
    let empty = c.first_of_list-hits.ensures.end c.in-Zero.is in
    let listed = c.loop-hits.invariant ∙ list_passed index f _ list _ _ _ c.first_of_list-hits.result.0 c.first_of_list-hits.ensures.split c.in-Zero.is in
    let used = c.first_of_run-hits.ensures.end c.in-Zero-hits.is in
    let passed = listed ∙ run_passed index f _ _ c.first_of_run-hits.result.1.now _ _ c.first_of_run-hits.result.0 empty c.first_of_run-hits.ensures.split c.in-Zero-hits.is in
    passed ∙ found_run index f _ _ c.first_of_run-hits.result.1.now [] _ _ _ _ empty used (c.advance-step.ensures.split ∙ ap (λ x. targets_of index (words_found x) ++ targets_of index (words_from f c.advance-step.result.from c.advance-step.result.count)) c.in-Nothing.is) used

pub loop-hits-preserved-in-Bytes : goal.loop-hits-preserved-in-Bytes
loop-hits-preserved-in-Bytes g c =
    let index = g.L.Lookup.index c.args.lookup.now in
    let f = listed_word (g.W.Words.word_at c.args.words.now) (option_copied c.args.pages) in
    let list = c.first_of_list-hits.result.1.now in
    let empty = c.first_of_list-hits.ensures.end c.in-Zero.is in
    let listed = c.loop-hits.invariant ∙ list_passed index f _ list _ _ _ c.first_of_list-hits.result.0 c.first_of_list-hits.ensures.split c.in-Zero.is in
    let used = c.first_of_run-hits.ensures.end c.in-Zero-hits.is in
    let passed = listed ∙ run_passed index f _ _ c.first_of_run-hits.result.1.now _ _ c.first_of_run-hits.result.0 empty c.first_of_run-hits.ensures.split c.in-Zero-hits.is in
    passed ∙ found_run index f _ _ c.in-Bytes.run'.now (words_in c.in-Bytes.run'.now) _ _ _ _ empty used (c.advance-step.ensures.split ∙ ap (λ x. targets_of index (words_found x) ++ targets_of index (words_from f c.advance-step.result.from c.advance-step.result.count)) c.in-Bytes.is) refl

pub loop-hits-preserved-in-Kept : goal.loop-hits-preserved-in-Kept
loop-hits-preserved-in-Kept g c =
    let index = g.L.Lookup.index c.args.lookup.now in
    let f = listed_word (g.W.Words.word_at c.args.words.now) (option_copied c.args.pages) in
    let list = c.first_of_list-hits.result.1.now in
    let empty = c.first_of_list-hits.ensures.end c.in-Zero.is in
    let listed = c.loop-hits.invariant ∙ list_passed index f _ list _ _ _ c.first_of_list-hits.result.0 c.first_of_list-hits.ensures.split c.in-Zero.is in
    let used = c.first_of_run-hits.ensures.end c.in-Zero-hits.is in
    let passed = listed ∙ run_passed index f _ _ c.first_of_run-hits.result.1.now _ _ c.first_of_run-hits.result.0 empty c.first_of_run-hits.ensures.split c.in-Zero-hits.is in
    passed ∙ found_list index f _ _ c.in-Kept.list.now _ _ _ _ empty used (c.advance-step.ensures.split ∙ ap (λ x. targets_of index (words_found x) ++ targets_of index (words_from f c.advance-step.result.from c.advance-step.result.count)) c.in-Kept.is)

pub loop-hits-preserved : goal.loop-hits-preserved
loop-hits-preserved g c =
    let index = g.L.Lookup.index c.args.lookup.now in
    let f = listed_word (g.W.Words.word_at c.args.words.now) (option_copied c.args.pages) in
    let list = c.first_of_list-hits.result.1.now in
    let empty = c.first_of_list-hits.ensures.end c.in-Zero.is in
    let listed = c.loop-hits.invariant ∙ list_passed index f _ list _ _ _ c.first_of_list-hits.result.0 c.first_of_list-hits.ensures.split c.in-Zero.is in
    let used = c.first_of_run-hits.ensures.end c.in-Zero-hits.is in
    let passed = listed ∙ run_passed index f _ _ c.first_of_run-hits.result.1.now _ _ c.first_of_run-hits.result.0 empty c.first_of_run-hits.ensures.split c.in-Zero-hits.is in
    passed ∙ found_word index f _ _ _ _ _ _ c.in-Word.word empty used (c.advance-step.ensures.split ∙ ap (λ x. targets_of index (words_found x) ++ targets_of index (words_from f c.advance-step.result.from c.advance-step.result.count)) c.in-Word.is)
    ∙ targets_skip index _ _ c.in-Zero-hits-2.ensures

pub returns-in_default-hits-2 : goal.returns-in_default-hits-2
returns-in_default-hits-2 g c =
    let index = g.L.Lookup.index c.args.lookup.now in
    let f = listed_word (g.W.Words.word_at c.args.words.now) (option_copied c.args.pages) in
    let list = c.first_of_list-hits.result.1.now in
    let empty = c.first_of_list-hits.ensures.end c.in-Zero.is in
    let listed = c.loop-hits.invariant ∙ list_passed index f _ list _ _ _ c.first_of_list-hits.result.0 c.first_of_list-hits.ensures.split c.in-Zero.is in
    let used = c.first_of_run-hits.ensures.end c.in-Zero-hits.is in
    let passed = listed ∙ run_passed index f _ _ c.first_of_run-hits.result.1.now _ _ c.first_of_run-hits.result.0 empty c.first_of_run-hits.ensures.split c.in-Zero-hits.is in
    record {
      split = passed ∙ found_word index f _ _ _ _ _ _ c.in-Word.word empty used (c.advance-step.ensures.split ∙ ap (λ x. targets_of index (words_found x) ++ targets_of index (words_from f c.advance-step.result.from c.advance-step.result.count)) c.in-Word.is)
          ∙ targets_more index _ _ ∙ ap (λ ts. ts ++ targets_of index (words_left f list c.first_of_run-hits.result.1.now c.advance-step.result.from c.advance-step.result.count)) (sym c.hits.ensures);
      end = λ e. absurd (c.in_default-hits-2.not-Zero e);
    }
