-- From lemmas of std.
use Rattle.std.proofs.Common.{◌≡◌, ◌++◌, ap, sym, subst, ◌∙◌, string_bytes, if◌then◌else◌, []}
use Rattle.std.proofs.lemmas.Bool.{ne_eqb}
use Rattle.std.specs.Result.{OnOk}
use Rattle.leak_report.specs.Warnings.{misfits_text, misfits_line, warning_line}
use Rattle.leak_report.proofs.warning.push_misfits.Goals as goal

pub returns : goal.returns
returns c =
    let text : c.as_str.result.now ≡ misfits_text c.args.misfits c.args.live =
    c.as_str.ensures.value ∙ c.in_ok-write.ensures.bytes ∙ ap (λ t. t ++ misfits_text c.args.misfits c.args.live) c.new-text.ensures.bytes in
    let shown : misfits_line c.args.input c.args.misfits c.args.live ≡ warning_line c.args.input (misfits_text c.args.misfits c.args.live) =
    ap (λ none. if none then [] else warning_line c.args.input (misfits_text c.args.misfits c.args.live)) (ne_eqb c.args.misfits 0 c.if-misfits-eq0.false) in
    subst (λ line. OnOk c.push_warning.result (string_bytes c.push_warning.new.out ≡ string_bytes c.args.out.now ++ line))
    (ap (λ t. warning_line c.args.input t) text ∙ sym shown) c.push_warning.ensures
