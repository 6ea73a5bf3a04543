-- From the lemmas of SlackLemmas.
use Rattle.std.proofs.Common.{sym, ap, subst, ◌∙◌, List, get_or}
use Rattle.std.specs.Result.{IfOk}
use Rattle.leak_blocks.specs.declared.small.Span.{Span}
use Rattle.leak_blocks.specs.Small.{CoverSame}
use Rattle.leak_index.specs.Ranks.{none}
use Rattle.leak_chunks.specs.Slack.{slack_of, slack_spans_of}
use Rattle.leak_chunks.proofs.SlackLemmas.{slack_first, slack_same, slack_more, slack_all}
use Rattle.leak_chunks.proofs.slack.slack_spans.Goals as goal
use Rattle.leak_chunks.proofs.slack.slack_spans.Goals.{in-Some+in_ok-push, in_default}

pub loop-block-init : goal.loop-block-init
loop-block-init g c = (c.new-near.ensures, rw c.new-spans.ensures.items (slack_first (g.W.Words.word_at c.args.words.now) c.blocks-blocks.result.now))

pub loop-block-preserved : goal.loop-block-preserved
loop-block-preserved g c =
    let word_at = g.W.Words.word_at c.args.words.now in
    let blocks = c.blocks-blocks.result.now in
    let same = c.go_to.ensures ∙ c.loop-block.invariant.0 in
    let told = c.slack_of.ensures ∙ ap (λ words. slack_of (g.W.Words.word_at words) (get_or blocks c.loop-block.block-index none)) same in
    elim c.match-slack_of.branch [
      | in-Some+in_ok-push w ↦ (
        same,
        rw (w.spans-is, w.in_ok-push.ensures.items)
            (slack_more word_at blocks c.loop-block.block-index none c.loop-block.spans.items w.in-Some.span c.loop-block.invariant.1 c.loop-block-test.true (sym told ∙ w.in-Some.is)),
      )
      | in_default w ↦ (same, rw w.spans-is (slack_same word_at blocks c.loop-block.block-index none c.loop-block.spans.items c.loop-block.invariant.1 c.loop-block-test.true (sym told ∙ w.in_default.is)))
    ]

pub joined-requires : goal.joined-requires
joined-requires g c = c.loop-block.invariant.1.each

pub returns : goal.returns
returns g c =
    let word_at = g.W.Words.word_at c.args.words.now in
    let blocks = c.blocks-blocks.result.now in
    let found = slack_all word_at blocks c.loop-block.block-index c.loop-block.spans.items c.loop-block.invariant.1 c.loop-block-test.false in
    subst (λ (spans : List Span). IfOk c.joined.result (λ ranges. CoverSame ranges spans)) (found ∙ ap (slack_spans_of word_at) c.blocks-blocks.ensures.value) c.joined.ensures
