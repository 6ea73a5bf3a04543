-- A report goes by the texts of callers, and these are where they were kept.
use Rattle.std.proofs.Common.{◌≡◌, ◌∙◌, ℕ, List, option_map, Vec, Bool, Global, sym, ap₂, subst}
use Rattle.std.proofs.lemmas.Result.{IfOk-weaker}
use Rattle.leak_blocks.specs.declared.block.Block.{Block}
use Rattle.leak_report.specs.Report.{text_of}
use Rattle.leak_report.specs.Sites.{bytes_at, with_callers}
use Rattle.leak_report.specs.Totals.{HaveCallersIn}
use Rattle.leak_replaying.specs.Texts.{numbers_in}
use Rattle.leak_passing.proofs.reporting.found_by_texts.Goals as goal

pub found_of-requires-clause-sites : goal.found_of-requires-clause-sites
found_of-requires-clause-sites c = c.callers.ensures.each c.args.live.blocks c.requires.texts.1.one_each c.requires.texts.1.within

pub found_of-requires-clause-in_bytes : goal.found_of-requires-clause-in_bytes
found_of-requires-clause-in_bytes c =
    let kept = c.args.kept in let placed : List Block = with_callers kept.places.items (numbers_in kept.numbers) c.args.live.blocks in
    let same = c.reports_go_by_texts.ensures c.requires.texts.0 kept.bytes.items kept.places.items (numbers_in kept.numbers) c.args.live.blocks c.requires.texts.1 in
    subst (λ (bs : List Block). HaveCallersIn (bytes_at c.callers.result) bs) (sym (c.callers.ensures.sites c.args.live.blocks))
    (subst (λ (bytes : List ℕ). HaveCallersIn bytes placed) (sym c.callers.ensures.bytes) same.in_kept)

pub returns-clause-report : goal.returns-clause-report
returns-clause-report c = IfOk-weaker c.found_of.result _ _ (λ found made log texts.
    let s = c.args.searched in let kept = c.args.kept in
    let same = c.reports_go_by_texts.ensures log kept.bytes.items kept.places.items (numbers_in kept.numbers) c.args.live.blocks texts in
    made
    ∙ ap₂ (λ (blocks : List Block) (bytes : List ℕ). text_of s.head blocks s.set.items s.heads.items (option_map (λ (v : Vec Bool Global). v.items) s.fits) bytes)
    (c.callers.ensures.sites c.args.live.blocks) c.callers.ensures.bytes
    ∙ same.report s.head s.set.items s.heads.items (option_map (λ (v : Vec Bool Global). v.items) s.fits)) c.found_of.ensures.report
