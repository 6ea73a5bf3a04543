-- From the lemmas of SlackLemmas.
use Rattle.std.proofs.Common.{sym, ◌∙◌}
use Rattle.leak_chunks.proofs.SlackLemmas.{none_unaligned, none_wordless, none_misfit, of_fitting}
use Rattle.leak_chunks.proofs.slack.slack_of.Goals as goal

pub returns-then-block-ne0 : goal.returns-then-block-ne0
returns-then-block-ne0 g c = none_unaligned (g.W.Words.word_at c.args.words.now) c.args.block.now c.if-block-ne0.true

pub returns-in_default : goal.returns-in_default
returns-in_default g c = none_wordless (g.W.Words.word_at c.args.words.now) c.args.block.now c.if-block-ne0.false (sym c.in_default.ensures.value)

pub returns-then-not-fits_word : goal.returns-then-not-fits_word
returns-then-not-fits_word g c =
    none_misfit (g.W.Words.word_at c.args.words.now) c.args.block.now c.in-Some.word c.if-block-ne0.false (sym c.in-Some.ensures.value) (sym c.fits_word.ensures ∙ c.if-not-fits_word.true)

pub returns : goal.returns
returns g c =
    c.slack_by.ensures
    ∙ of_fitting (g.W.Words.word_at c.args.words.now) c.args.block.now c.in-Some.word c.if-block-ne0.false (sym c.in-Some.ensures.value) (sym c.fits_word.ensures ∙ c.if-not-fits_word.false)
