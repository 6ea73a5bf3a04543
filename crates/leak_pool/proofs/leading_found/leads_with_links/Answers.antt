-- From the lemmas of WordLemmas and LeadingLemmas.
use Rattle.std.proofs.Common.{◌∙◌, ℕ, List, false, length, nat_lt, ap, refl}
use Rattle.leak_pool.proofs.LeadingLemmas.{some_first}
use Rattle.leak_pool.proofs.WordLemmas.{led_with}
use Rattle.leak_pool.proofs.leading_found.leads_with_links.Goals as goal

pub returns-in-Some : goal.returns-in-Some
returns-in-Some g c =
    let led = led_with false (g.W.Words.word_at c.args.words.now) (g.L.Lookup.index c.args.lookup.now) (g.met.W.Words.aligned c.args.words.now) c.args.range.0 c.args.range.1 c.requires refl in
    c.lead_somewhere.ensures ∙ ap (λ (l : List ℕ). nat_lt 0 (length l)) (c.in-Some.ensures ∙ led)

pub returns : goal.returns
returns g c =
    let led = led_with false (g.W.Words.word_at c.args.words.now) (g.L.Lookup.index c.args.lookup.now) (g.met.W.Words.aligned c.args.words.now) c.args.range.0 c.args.range.1 c.requires refl in
    c.is_some.ensures ∙ some_first c.of_range.result c.next.new.self c.next.result c.next.ensures.steps ∙ ap (λ (l : List ℕ). nat_lt 0 (length l)) (c.of_range.ensures ∙ led)
