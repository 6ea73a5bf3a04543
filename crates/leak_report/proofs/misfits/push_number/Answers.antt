-- From the lemmas of MisfitLemmas.
use Rattle.std.proofs.Common.{◌≡◌, ◌++◌, ◌∙◌, ap, sym, subst, length, string_bytes, IfSome, OnOk, option_copied}
use Rattle.leak_report.specs.Misfits.{misfit_sums, number_line}
use Rattle.leak_report.proofs.MisfitLemmas.{length-misfits}
use Rattle.leak_report.proofs.misfits.push_number.Goals as goal

pub returns-in-Some : goal.returns-in-Some
returns-in-Some c =
    let each = subst (λ fits. IfSome fits (λ f. length f.now ≡ length c.args.blocks.now)) c.in-Some.is c.requires in
    let line : number_line c.count_clear.result ≡ misfit_sums (option_copied c.args.fits) c.args.blocks.now =
    ap number_line (c.count_clear.ensures ∙ sym (length-misfits c.in-Some.fits.now c.args.blocks.now each))
    ∙ ap (λ fits. misfit_sums (option_copied fits) c.args.blocks.now) (sym c.in-Some.is) in
    subst (λ text. OnOk c.push_misfit_number.result (string_bytes c.push_misfit_number.new.out ≡ string_bytes c.args.out.now ++ text)) line c.push_misfit_number.ensures
