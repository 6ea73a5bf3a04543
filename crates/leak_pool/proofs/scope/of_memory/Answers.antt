-- From the lemmas of WordLemmas.
use Rattle.std.proofs.Common.{◌∙◌, sym}
use Rattle.leak_pool.proofs.WordLemmas.{led_with, led_without}
use Rattle.leak_pool.proofs.scope.of_memory.Goals as goal

pub returns-then-skips_links : goal.returns-then-skips_links
returns-then-skips_links g c =
    c.of_root_range.ensures
    ∙ led_without c.args.roots.now.skips_links (g.W.Words.word_at c.args.words.now) (g.L.Lookup.index c.args.lookup.now) (g.met.W.Words.aligned c.args.words.now) c.args.range.0 c.args.range.1 c.requires.range (sym c.skips_links.ensures ∙ c.if-skips_links.true)

pub returns-else-skips_links : goal.returns-else-skips_links
returns-else-skips_links g c =
    c.of_range.ensures
    ∙ led_with c.args.roots.now.skips_links (g.W.Words.word_at c.args.words.now) (g.L.Lookup.index c.args.lookup.now) (g.met.W.Words.aligned c.args.words.now) c.args.range.0 c.args.range.1 c.requires.range (sym c.skips_links.ensures ∙ c.if-skips_links.false)
