-- From the lemmas of LeadingLemmas, once all shares were asked.
use Rattle.std.proofs.Common.{◌≡◌, ℕ, List, Vec, Global, filter, subst, sym, ap, ◌∙◌}
use Rattle.std.proofs.lemmas.Result.{IfOk-at_ok}
use Rattle.leak_roots.specs.Places.{Places, AreRanges}
use Rattle.leak_pool.specs.Leading.{leading, leads}
use Rattle.leak_pool.specs.Marking.{led_by_roots}
use Rattle.leak_pool.proofs.AloneLemmas.{range_at}
use Rattle.leak_pool.proofs.LeadingLemmas.{led_by_leading, ranges_left}
use Rattle.leak_pool.proofs.leading.leading_roots.Goals as goal

pub leading_shares-requires-clause-ranges : goal.leading_shares-requires-clause-ranges
leading_shares-requires-clause-ranges g c κs within = λ k d h. range_at c.memory-ranges.result.now k d h c.memory-ranges.ensures.ranges

pub with_memory-requires : goal.with_memory-requires
with_memory-requires g c =
    let test = leads c.args.roots.skips_links (g.W.Words.word_at c.args.words.now) (g.L.Lookup.index c.args.lookup.now) in
    let ranges = c.memory-ranges.result.now in
    let is = IfOk-at_ok (λ (kept : Vec (ℕ × ℕ) Global). kept.items ≡ filter test ranges) c.in_ok-memory.was c.leading_shares.ensures in
    subst AreRanges (sym is) (ranges_left test ranges c.memory-ranges.ensures.ranges)

pub returns-clause-value : goal.returns-clause-value
unfolding leading
returns-clause-value g c =
    let places = c.args.roots in
    let test = leads places.skips_links (g.W.Words.word_at c.args.words.now) (g.L.Lookup.index c.args.lookup.now) in
    let is = IfOk-at_ok (λ (kept : Vec (ℕ × ℕ) Global). kept.items ≡ filter test c.memory-ranges.result.now) c.in_ok-memory.was c.leading_shares.ensures in
    c.with_memory.ensures ∙ ap (λ (l : List (ℕ × ℕ)). record places { memory = l }) (is ∙ ap (filter test) c.memory-ranges.ensures.value)

pub returns-clause-led : goal.returns-clause-led
returns-clause-led g c =
    let w = g.W.Words.word_at c.args.words.now in let i = g.L.Lookup.index c.args.lookup.now in
    ap (λ (p : Places). led_by_roots w i p) (returns-clause-value g c) ∙ led_by_leading w i c.args.roots
