-- From the lemmas of SumLemmas.
use Rattle.std.proofs.Common.{◌≡◌, ℕ, List, ◌++◌, flat_map, map, sym, ap, ◌∙◌}
use Rattle.leak_blocks.specs.declared.block.Block.{Block}
use Rattle.leak_blocks.proofs.SumLemmas.{sum_fits}
use Rattle.leak_growth.specs.declared.rows.Row.{Row}
use Rattle.leak_growth.specs.Rows.{Growth, plain}
use Rattle.leak_growth.specs.Lines.{growth_line}
use Rattle.leak_growth.specs.Report.{growths_of, report_of, sums_of_logs}
use Rattle.leak_growth.proofs.report.text.Goals as goal

pub growths-requires-clause-first_fits : goal.growths-requires-clause-first_fits
growths-requires-clause-first_fits c = sum_fits c.blocks-2.result.now c.blocks-2.ensures.addressed c.blocks-2.ensures.disjoint

pub growths-requires-clause-second_fits : goal.growths-requires-clause-second_fits
growths-requires-clause-second_fits c = sum_fits c.blocks-3.result.now c.blocks-3.ensures.addressed c.blocks-3.ensures.disjoint

pub returns : goal.returns
unfolding report_of
returns c =
    let l = c.args.logs.now in
    let rows : map plain c.as_slice.result.now ≡ growths_of l.log1.now l.earlier.now.blocks l.log2.now l.later.now.blocks l.after =
    ap (map plain) c.as_slice.ensures.value ∙ c.in_ok-rows.ensures
    ∙ ap (λ (bs : List Block). growths_of l.log1.now bs l.log2.now c.blocks-3.result.now l.after) c.blocks-2.ensures.value
    ∙ ap (λ (bs : List Block). growths_of l.log1.now l.earlier.now.blocks l.log2.now bs l.after) c.blocks-3.ensures.value in
    c.in_ok-push_rows.ensures
    ∙ ap (λ (o : List ℕ). o ++ flat_map growth_line (map plain c.as_slice.result.now)) (ap (λ v. v.items) c.into_bytes-out.ensures.value ∙ c.in_ok-sums.ensures)
    ∙ ap (λ (gs : List Growth). sums_of_logs l.earlier.now l.later.now l.torn l.after ++ flat_map growth_line gs) rows
