-- What is skipped leads nowhere.
use Rattle.std.proofs.Common.{◌∙◌, sym, ◌+◌, arith}
use Rattle.leak_scan.proofs.RootRanges.{none_held, range_end, range_hit, range_later, range_none, range_passed}
use Rattle.leak_scan.proofs.root_words.next_held.Goals as goal

pub returns-then-saturating_sub-lt8-clause-split : goal.returns-then-saturating_sub-lt8-clause-split
returns-then-saturating_sub-lt8-clause-split g c =
    let f = g.W.Words.word_at c.args.words.now in let index = g.L.Lookup.index c.args.lookup.now in
    c.loop-hits.invariant ∙ none_held f index _ _ _ _ c.in-Zero.is c.first_held-hits.ensures.split
    ∙ range_none f index _ _ (λ a l u. absurd (omega (arith, l, u))) ∙ sym (range_end f index c.args.to)

pub returns-then-saturating_sub-lt8-clause-end : goal.returns-then-saturating_sub-lt8-clause-end
returns-then-saturating_sub-lt8-clause-end g c = λ e. range_end (g.W.Words.word_at c.args.words.now) (g.L.Lookup.index c.args.lookup.now) c.args.to

pub returns-in_default-next-clause-split : goal.returns-in_default-next-clause-split
returns-in_default-next-clause-split g c =
    let f = g.W.Words.word_at c.args.words.now in let index = g.L.Lookup.index c.args.lookup.now in
    c.loop-hits.invariant ∙ none_held f index _ _ _ _ c.in-Zero.is c.first_held-hits.ensures.split
    ∙ range_none f index _ _ (λ a l u. c.in_default-next.ensures.least a l) ∙ sym (range_end f index c.args.to)

pub returns-in_default-next-clause-end : goal.returns-in_default-next-clause-end
returns-in_default-next-clause-end g c = λ e. range_end (g.W.Words.word_at c.args.words.now) (g.L.Lookup.index c.args.lookup.now) c.args.to

pub returns-then-saturating_sub-lt8-2-clause-split : goal.returns-then-saturating_sub-lt8-2-clause-split
returns-then-saturating_sub-lt8-2-clause-split g c =
    let f = g.W.Words.word_at c.args.words.now in let index = g.L.Lookup.index c.args.lookup.now in
    c.loop-hits.invariant ∙ none_held f index _ _ _ _ c.in-Zero.is c.first_held-hits.ensures.split
    ∙ range_none f index _ _ (λ a l u. c.in-Some.ensures.least.2 a l (omega (arith, u))) ∙ sym (range_end f index c.args.to)

pub returns-then-saturating_sub-lt8-2-clause-end : goal.returns-then-saturating_sub-lt8-2-clause-end
returns-then-saturating_sub-lt8-2-clause-end g c = λ e. range_end (g.W.Words.word_at c.args.words.now) (g.L.Lookup.index c.args.lookup.now) c.args.to

pub loop-hits-preserved : goal.loop-hits-preserved
loop-hits-preserved g c =
    let f = g.W.Words.word_at c.args.words.now in let index = g.L.Lookup.index c.args.lookup.now in
    c.loop-hits.invariant ∙ none_held f index _ _ _ _ c.in-Zero.is c.first_held-hits.ensures.split
    ∙ range_later f index _ _ c.in-Some.place c.in-Some.ensures.least.0 (λ a l u. c.in-Some.ensures.least.2 a l u)
    ∙ range_passed f index c.in-Some.place c.args.to (c.in-Some.place + 8) _ (g.met.W.Words.aligned c.args.words.now) (sym c.in-Some-word.ensures.value) (omega arith) (omega arith) c.in-Zero-held_by.ensures

pub returns-in_default-held_by : goal.returns-in_default-held_by
returns-in_default-held_by g c =
    let f = g.W.Words.word_at c.args.words.now in let index = g.L.Lookup.index c.args.lookup.now in
    record {
      split = c.loop-hits.invariant ∙ none_held f index _ _ _ _ c.in-Zero.is c.first_held-hits.ensures.split
          ∙ range_later f index _ _ c.in-Some.place c.in-Some.ensures.least.0 (λ a l u. c.in-Some.ensures.least.2 a l u)
          ∙ range_hit f index c.in-Some.place c.args.to (c.in-Some.place + 8) _ c.held_by.result (g.met.W.Words.aligned c.args.words.now) (sym c.in-Some-word.ensures.value) (omega arith) (omega arith) c.held_by.ensures;
      end = λ e. absurd (c.in_default-held_by.not-Zero e);
    }
