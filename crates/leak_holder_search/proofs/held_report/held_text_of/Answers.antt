-- From what is known of the blocks.
use Rattle.std.proofs.Common.{◌++◌, ◌∙◌, ap, codes, sym, subst, List, ℕ}
use Rattle.leak_blocks.specs.declared.block.Block.{Block}
use Rattle.leak_report.specs.Totals.{HaveCallersIn}
use Rattle.leak_why.specs.Text.{numbered_line}
use Rattle.leak_holder_search.specs.Analyses.{blocks_in, texts_in}
use Rattle.leak_holder_search.specs.Held.{held_lines, held_text}
use Rattle.leak_holder_search.proofs.held_report.held_text_of.Goals as goal

pub push_numbered-requires : goal.push_numbered-requires
push_numbered-requires c =
    subst (λ (bs : List Block). HaveCallersIn c.args.analysis.now.logs.log.now bs) (sym c.blocks-2.ensures.value) c.requires.known.callers

pub returns : goal.returns
unfolding held_text
returns c =
    let a = c.args.analysis.now in
    let choice = c.args.choice.now in
    let lines : List ℕ = held_lines choice.question.side (blocks_in a) choice.own.items c.args.held.now.told.items (texts_in a) c.args.held.now.parts.items in
    c.in_ok-push_answer.ensures
    ∙ ap (λ (out : List ℕ). out ++ lines)
    (c.in_ok-push_numbered.ensures ∙ ap (λ (out : List ℕ). out ++ numbered_line (codes "asked") a.logs.log.now c.blocks-2.result.now choice.block) c.new-out.ensures.items
    ∙ ap (λ (bs : List Block). numbered_line (codes "asked") a.logs.log.now bs choice.block) c.blocks-2.ensures.value)
