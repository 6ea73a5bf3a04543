-- From the lemmas of NumberingLemmas.
use Rattle.std.proofs.Common.{◌≡◌, ◌∙◌, ℕ, ◌+◌, List, [], ◌∷◌, ◌++◌, length, take, get_or, ap, sym, subst, append-nil, append_assoc}
use Rattle.std.proofs.lemmas.List.{take_more}
use Rattle.leak_lemmas.proofs.Members.{All-from_each}
use Rattle.leak_blocks.specs.declared.block.Block.{Block}
use Rattle.leak_report.specs.Totals.{text_at}
use Rattle.leak_texts.specs.Texts.{IsNumbered}
use Rattle.leak_replaying.specs.Numbering.{AreNumberedBy, IsBehind, moved_back}
use Rattle.leak_replaying.proofs.NumberingLemmas.{in_whole, one_more, text_behind, wider}
use Rattle.leak_replaying.proofs.numbering.number_callers.Goals as goal

none : Block
none = record { start = 0; size = 0; line = 0; caller = (0, 0) }

pub loop-block-init : goal.loop-block-init
loop-block-init c = λ log others e are.
    subst (λ (bs : List Block). AreNumberedBy (log ++ c.args.window.now) bs c.args.texts.now c.args.numbers.now.items) (sym (append-nil others))
    (wider log c.args.window.now others c.args.texts.now c.args.numbers.now.items are)

pub loop-block-preserved : goal.loop-block-preserved
unfolding none
loop-block-preserved c = λ log others e are.
    let window : List ℕ = c.args.window.now in
    let i : ℕ = c.loop-block.block-index in
    let b : Block = get_or c.args.blocks.now i none in
    let behind : IsBehind (length log) (length window) b.caller =
    subst (λ (n : ℕ). IsBehind n (length window) b.caller) (sym e)
    (All-from_each (λ (x : Block). IsBehind c.args.before (length window) x.caller) c.args.blocks.now c.requires i none c.loop-block-test.true) in
    let text : c.caller_text-text.result.now ≡ text_at (log ++ window) b.caller =
    c.caller_text-text.ensures ∙ ap (text_at window) (c.moved_back.ensures ∙ ap (λ (n : ℕ). moved_back n b.caller) (sym e)) ∙ text_behind log window b.caller behind in
    let is : IsNumbered c.loop-block.texts (text_at (log ++ window) b.caller) c.number.new.self c.in_ok-number.field-0 =
    subst (λ (t : List ℕ). IsNumbered c.loop-block.texts t c.number.new.self c.in_ok-number.field-0) text c.in_ok-number.ensures.ok in
    let more : (others ++ take i c.args.blocks.now) ++ b ∷ [] ≡ others ++ take (i + 1) c.args.blocks.now =
    append_assoc others (take i c.args.blocks.now) (b ∷ []) ∙ ap (λ (bs : List Block). others ++ bs) (sym (take_more c.args.blocks.now i none c.loop-block-test.true)) in
    rw (← more, c.in_ok-push.ensures.items)
    (one_more (log ++ window) (others ++ take i c.args.blocks.now) c.loop-block.texts c.loop-block.numbers.items (c.loop-block.invariant log others e are) b
    (in_whole log window b.caller behind) c.number.new.self c.in_ok-number.field-0 is)
