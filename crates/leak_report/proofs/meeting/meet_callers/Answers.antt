-- From the lemmas of MeetingLemmas.
use Rattle.std.proofs.Common.{◌≡◌, List, ℕ, ◌+◌, ◌++◌, [], ◌∷◌, take, sym, subst, ◌∙◌, ap}
use Rattle.std.proofs.lemmas.List.{map_more, take_all}
use Rattle.leak_blocks.specs.declared.block.Block.{Block}
use Rattle.leak_report.specs.Totals.{text_at}
use Rattle.leak_report.specs.Numbered.{bytes_each, texts_of}
use Rattle.leak_report.proofs.MeetingLemmas.{AreSoFar, so_far_more, all_met}
use Rattle.leak_report.proofs.meeting.meet_callers.Goals as goal

none : Block
none = record { start = 0; size = 0; line = 0; caller = (0, 0) }

pub loop-block-preserved : goal.loop-block-preserved
unfolding none
loop-block-preserved c =
    let blocks : List Block = c.args.blocks.now in
    let log : List ℕ = c.args.log.now in
    let i : ℕ = c.loop-block.block-index in
    let more : texts_of log (take (i + 1) blocks) ≡ texts_of log (take i blocks) ++ c.caller_text-text.result.now ∷ [] =
    map_more (λ (b : Block). text_at log b.caller) blocks i none c.loop-block-test.true
    ∙ ap (λ (t : List ℕ). texts_of log (take i blocks) ++ t ∷ []) (sym c.caller_text-text.ensures) in
    let so : AreSoFar (texts_of log (take i blocks) ++ c.caller_text-text.result.now ∷ []) (bytes_each c.meet_again.new.texts.items) (c.loop-block.numbers.items ++ c.in_ok-number.number ∷ []) =
    so_far_more (texts_of log (take i blocks)) (bytes_each c.loop-block.texts.items) (bytes_each c.meet_again.new.texts.items) c.loop-block.numbers.items c.caller_text-text.result.now c.in_ok-number.number
    c.loop-block.invariant.1 c.in_ok-number.ensures.number in
    (c.in_ok-number.ensures.more, rw (more, c.in_ok-push.ensures.items) so)

pub returns : goal.returns
returns c =
    all_met c.loop-block.found (texts_of c.args.log.now c.args.blocks.now) (bytes_each c.loop-block.texts.items) c.loop-block.numbers.items c.loop-block.invariant.0
    (subst (λ (bs : List Block). AreSoFar (texts_of c.args.log.now bs) (bytes_each c.loop-block.texts.items) c.loop-block.numbers.items)
    (take_all c.loop-block.block-index c.args.blocks.now c.loop-block-test.false) c.loop-block.invariant.1)
