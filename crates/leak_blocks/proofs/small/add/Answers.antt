-- From the lemmas of SmallLemmas.
use Rattle.std.proofs.Common.{◌≤◌, ◌||◌, List, append-nil, ap, sym, subst, ◌∙◌}
use Rattle.leak_blocks.specs.declared.small.Span.{Span}
use Rattle.leak_blocks.specs.Small.{holds, is_covered, AreSpans}
use Rattle.leak_blocks.proofs.SmallLemmas.{covered_one, covered_longer, last_span}
use Rattle.leak_blocks.proofs.small.add.Goals as goal

pub returns-in_default-clause-same : goal.returns-in_default-clause-same
returns-in_default-clause-same c = λ a.
    ap (λ (xs : List Span). is_covered xs a) c.in_ok-push.ensures.items
    ∙ covered_one c.pop.new.self.items c.args.span a
    ∙ ap (λ (xs : List Span). is_covered xs a || holds a c.args.span) (sym (c.in_default.ensures.items ∙ append-nil c.pop.new.self.items))

pub returns-then-last-span-clause-same : goal.returns-then-last-span-clause-same
returns-then-last-span-clause-same c = λ a.
    let some : c.in-Some.last.first ≤ c.in-Some.last.last = last_span c.pop.new.self.items c.in-Some.last (subst AreSpans c.in-Some.ensures.items c.requires.each) in
    ap (λ (xs : List Span). is_covered xs a) c.in_ok-push-2.ensures.items
    ∙ covered_longer c.pop.new.self.items c.in-Some.last c.args.span (record { first = c.args.span.first; last = c.max-longer.result }) a
    c.if-last-span.true some (sym c.if-last-span.true) c.max-longer.ensures
    ∙ ap (λ (xs : List Span). is_covered xs a || holds a c.args.span) (sym c.in-Some.ensures.items)

pub returns-clause-same : goal.returns-clause-same
returns-clause-same c = λ a.
    ap (λ (xs : List Span). is_covered xs a) c.in_ok-push-4.ensures.items
    ∙ covered_one c.push-2.new.self.items c.args.span a
    ∙ ap (λ (xs : List Span). is_covered xs a || holds a c.args.span) (c.in_ok-push-3.ensures.items ∙ sym c.in-Some.ensures.items)
