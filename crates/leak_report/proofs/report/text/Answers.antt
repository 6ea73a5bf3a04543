-- From the lemmas of Leaks, Orders, SiteLemmas and Texts.
use Rattle.std.proofs.Common.{◌≡◌, ℕ, List, length, sym, subst, ap, ap₂, ◌∙◌, ◌++◌, flat_map, string_bytes, option_copied, arith}
use Rattle.std.specs.List.{AllByRecursion}
use Rattle.leak_blocks.specs.declared.block.Block.{Block}
use Rattle.leak_report.specs.declared.totals.CallerRow.{CallerRow}
use Rattle.leak_report.specs.Totals.{Leak, HaveCallersIn, IsIn, bytes_of, leaks_in, rows_of}
use Rattle.leak_report.specs.Lines.{caller_line, leak_line}
use Rattle.leak_report.specs.Misfits.{misfit_sums, misfit_lines}
use Rattle.leak_report.specs.Report.{text_of, sums_of}
use Rattle.leak_report.specs.Sites.{HaveSites, bytes_at, sited}
use Rattle.leak_report.proofs.Leaks.{bytes_of-leaked, length-leaked}
use Rattle.leak_report.proofs.MisfitLemmas.{misfit_sums-same}
use Rattle.leak_report.proofs.Orders.{each_leak, rows_of-in}
use Rattle.leak_report.proofs.SiteLemmas.{bytes_sited, length_sited}
use Rattle.leak_report.proofs.TextLemmas.{sums_by_number}
use Rattle.leak_report.proofs.report.text.Goals as goal

pub sums-requires-clause-few : goal.sums-requires-clause-few
sums-requires-clause-few c =
    let callers = c.args.callers in let blocks : List Block = c.args.live.now.blocks in
    omega (arith, c.in_ok-totals.ensures.count, length-leaked c.args.set.now (sited callers blocks), length_sited callers blocks c.requires.sites)

pub sums-requires-clause-small : goal.sums-requires-clause-small
sums-requires-clause-small c =
    let callers = c.args.callers in let blocks : List Block = c.args.live.now.blocks in
    omega (arith, c.in_ok-totals.ensures.bytes, bytes_of-leaked c.args.set.now (sited callers blocks), bytes_sited callers blocks c.requires.sites)

pub push_callers-requires : goal.push_callers-requires
push_callers-requires c =
    let callers = c.args.callers in let sites : List Block = sited callers c.args.live.now.blocks in
    let leaks : List Leak = leaks_in c.args.set.now c.args.heads.now sites in
    subst (λ (bytes : List ℕ). AllByRecursion (λ row. IsIn bytes row.caller) c.as_slice.result.now) (sym c.bytes.ensures)
    (subst (λ (rows : List CallerRow). AllByRecursion (λ row. IsIn (bytes_at callers) row.caller) rows) (sym (c.as_slice.ensures.value ∙ c.in_ok-totals.ensures.rows))
    (rows_of-in (bytes_at callers) leaks (each_leak (λ b. IsIn (bytes_at callers) b.caller) c.args.set.now c.args.heads.now sites c.requires.in_bytes)))

pub push_leaks-requires-clause-sites : goal.push_leaks-requires-clause-sites
push_leaks-requires-clause-sites c = subst (λ (bs : List Block). HaveSites c.args.callers (length bs)) (sym c.blocks-blocks.ensures.value) c.requires.sites

pub push_leaks-requires-clause-in_bytes : goal.push_leaks-requires-clause-in_bytes
push_leaks-requires-clause-in_bytes c =
    subst (λ (bs : List Block). HaveCallersIn (bytes_at c.args.callers) (sited c.args.callers bs)) (sym c.blocks-blocks.ensures.value) c.requires.in_bytes

pub push_misfits-requires-clause-sites : goal.push_misfits-requires-clause-sites
push_misfits-requires-clause-sites c = subst (λ (bs : List Block). HaveSites c.args.callers (length bs)) (sym c.blocks-blocks.ensures.value) c.requires.sites

pub push_misfits-requires-clause-in_bytes : goal.push_misfits-requires-clause-in_bytes
push_misfits-requires-clause-in_bytes c =
    subst (λ (bs : List Block). HaveCallersIn (bytes_at c.args.callers) (sited c.args.callers bs)) (sym c.blocks-blocks.ensures.value) c.requires.in_bytes

pub returns : goal.returns
unfolding text_of
returns c =
    let callers = c.args.callers in let blocks : List Block = c.args.live.now.blocks in let sites : List Block = sited callers blocks in let bytes : List ℕ = bytes_at callers in
    let set = c.args.set.now in let heads = c.args.heads.now in let leaks : List Leak = leaks_in set heads sites in
    let long : length sites ≡ length blocks = length_sited callers blocks c.requires.sites in
    let front : string_bytes c.in_ok-first.first ≡ sums_of c.args.head.now sites set heads =
    c.in_ok-first.ensures
    ∙ sums_by_number c.args.head.now sites set heads (length blocks) (bytes_of blocks) c.in_ok-totals.totals.blocks c.in_ok-totals.totals.bytes c.in_ok-totals.totals.heads
    (sym long) (sym (bytes_sited callers blocks c.requires.sites)) (omega (arith, long, c.requires.one_each))
    c.in_ok-totals.ensures.count c.in_ok-totals.ensures.bytes c.in_ok-totals.ensures.heads in
    let sums : c.into_bytes-out.result.items ≡ sums_of c.args.head.now sites set heads ++ misfit_sums (option_copied c.args.fits) sites =
    ap (λ v. v.items) c.into_bytes-out.ensures.value ∙ c.in_ok-push_number.ensures
    ∙ ap (λ bs. string_bytes c.in_ok-first.first ++ misfit_sums (option_copied c.args.fits) bs) c.blocks-blocks.ensures.value
    ∙ ap₂ (λ (first second : List ℕ). first ++ second) front (misfit_sums-same c.args.fits blocks sites (sym long) c.requires.a_fit_each) in
    let rows : c.as_slice.result.now ≡ rows_of bytes leaks = c.as_slice.ensures.value ∙ c.in_ok-totals.ensures.rows in
    let callers_lines : c.push_callers.new.out.items
    ≡ sums_of c.args.head.now sites set heads ++ misfit_sums (option_copied c.args.fits) sites ++ flat_map (caller_line bytes) (rows_of bytes leaks) =
    c.in_ok-push_callers.ensures
    ∙ ap₂ (λ (b : List ℕ) (rs : List CallerRow). c.into_bytes-out.result.items ++ flat_map (caller_line b) rs) c.bytes.ensures rows
    ∙ ap (λ o. o ++ flat_map (caller_line bytes) (rows_of bytes leaks)) sums in
    let leaks_lines : c.push_leaks.new.out.items
    ≡ sums_of c.args.head.now sites set heads ++ misfit_sums (option_copied c.args.fits) sites ++ flat_map (caller_line bytes) (rows_of bytes leaks) ++ flat_map (leak_line bytes) leaks =
    c.in_ok-push_leaks.ensures
    ∙ ap (λ bs. c.push_callers.new.out.items ++ flat_map (leak_line bytes) (leaks_in set heads (sited callers bs))) c.blocks-blocks.ensures.value
    ∙ ap (λ o. o ++ flat_map (leak_line bytes) leaks) callers_lines in
    c.in_ok-push_misfits.ensures
    ∙ ap (λ bs. c.push_leaks.new.out.items ++ misfit_lines bytes (option_copied c.args.fits) (sited callers bs)) c.blocks-blocks.ensures.value
    ∙ ap (λ o. o ++ misfit_lines bytes (option_copied c.args.fits) sites) leaks_lines
