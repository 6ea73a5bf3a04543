-- From the lemmas of MisfitLemmas and SiteLemmas.
use Rattle.std.proofs.Common.{◌≡◌, ◌<◌, ℕ, List, length, flat_map, false, get_or, ap, ◌++◌, ◌∙◌, refl, sym, subst, arith}
use Rattle.std.proofs.lemmas.List.{take_all}
use Rattle.leak_blocks.specs.declared.block.Block.{Block}
use Rattle.leak_lemmas.proofs.Members.{All-from_each as all_at}
use Rattle.leak_report.specs.Totals.{IsIn}
use Rattle.leak_report.specs.Misfits.{misfit_line}
use Rattle.leak_report.specs.Sites.{bytes_at, sited}
use Rattle.leak_report.proofs.MisfitLemmas.{misfit_more, misfit_none}
use Rattle.leak_report.proofs.SiteLemmas.{length_sited}
use Rattle.leak_report.proofs.misfits.push_each.Goals as goal
use Rattle.leak_report.proofs.misfits.push_each.Goals.{then-not-fit+in_ok-push_misfit, else-not-fit}

nothing : Block
nothing = record { start = 0; size = 0; line = 0; caller = (0, 0) }

pub push_misfit-requires : goal.push_misfit-requires
push_misfit-requires c =
    let blocks : List Block = sited c.args.callers c.args.blocks.now in
    let long : length blocks ≡ length c.args.blocks.now = length_sited c.args.callers c.args.blocks.now c.requires.sites in
    let here : IsIn (bytes_at c.args.callers) (get_or blocks c.loop-i.i nothing).caller =
    all_at (λ (b : Block). IsIn (bytes_at c.args.callers) b.caller) blocks c.requires.in_bytes c.loop-i.i nothing (omega (arith, c.requires.one_each, long, c.loop-i-test.true)) in
    subst (λ (b : Block). IsIn c.bytes-bytes.result.now b.caller) (sym (c.site-block.ensures nothing))
    (subst (λ (bytes : List ℕ). IsIn bytes (get_or blocks c.loop-i.i nothing).caller) (sym c.bytes-bytes.ensures) here)

pub loop-i-preserved : goal.loop-i-preserved
loop-i-preserved c =
    let blocks : List Block = sited c.args.callers c.args.blocks.now in let i : ℕ = c.loop-i.i in
    let long : length blocks ≡ length c.args.blocks.now = length_sited c.args.callers c.args.blocks.now c.requires.sites in
    let line : Block → List ℕ = misfit_line (bytes_at c.args.callers) in
    let of_blocks : i < length blocks = omega (arith, long, c.requires.one_each, c.loop-i-test.true) in
    elim c.if-not-fit.branch [
      | then-not-fit+in_ok-push_misfit w ↦
          ap (λ v. v.items) w.out-is ∙ w.in_ok-push_misfit.ensures
          ∙ ap (λ (bytes : List ℕ). c.loop-i.out.items ++ misfit_line bytes w.site-block.result) c.bytes-bytes.ensures
          ∙ ap (λ (b : Block). c.loop-i.out.items ++ line b) (w.site-block.ensures nothing)
          ∙ ap (λ o. o ++ line (get_or blocks i nothing)) c.loop-i.invariant
          ∙ misfit_more line c.args.fits.now blocks i false nothing c.args.out.now.items c.loop-i-test.true of_blocks w.if-not-fit.true
      | else-not-fit w ↦
          ap (λ v. v.items) w.out-is ∙ c.loop-i.invariant
          ∙ misfit_none line c.args.fits.now blocks i false c.args.out.now.items c.loop-i-test.true of_blocks w.if-not-fit.false
    ]

pub returns : goal.returns
returns c =
    let blocks : List Block = sited c.args.callers c.args.blocks.now in
    let long : length blocks ≡ length c.args.blocks.now = length_sited c.args.callers c.args.blocks.now c.requires.sites in
    c.loop-i.invariant
    ∙ ap (λ (bs : List Block). c.args.out.now.items ++ flat_map (misfit_line (bytes_at c.args.callers)) bs)
    (rw (take_all c.loop-i.i c.args.fits.now c.loop-i-test.false, take_all c.loop-i.i blocks (omega (arith, c.requires.one_each, long, c.loop-i-test.false))) refl)
