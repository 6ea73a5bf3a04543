-- From the lemmas of SiteLemmas and Texts.
use Rattle.std.proofs.Common.{◌≡◌, ◌<◌, ℕ, List, length, flat_map, false, get_or, ap, ◌++◌, ◌∙◌, refl, sym, subst, arith}
use Rattle.std.proofs.lemmas.List.{take_all}
use Rattle.leak_blocks.specs.declared.block.Block.{Block}
use Rattle.leak_lemmas.proofs.Members.{All-from_each as all_at}
use Rattle.leak_report.specs.Lines.{leak_line}
use Rattle.leak_report.specs.Sites.{bytes_at, sited}
use Rattle.leak_report.specs.Totals.{IsIn, Leak}
use Rattle.leak_report.proofs.SiteLemmas.{length_sited}
use Rattle.leak_report.proofs.TextLemmas.{leaked_line, no_line}
use Rattle.leak_report.proofs.report.push_leaks.Goals as goal
use Rattle.leak_report.proofs.report.push_leaks.Goals.{then-not-marked+in_ok-push_leak, else-not-marked}

nothing : Block
nothing = record { start = 0; size = 0; line = 0; caller = (0, 0) }

pub push_leak-requires : goal.push_leak-requires
push_leak-requires c =
    let blocks : List Block = sited c.args.callers c.args.blocks.now in
    let long : length blocks ≡ length c.args.blocks.now = length_sited c.args.callers c.args.blocks.now c.requires.sites in
    let here : IsIn (bytes_at c.args.callers) (get_or blocks c.loop-i.i nothing).caller =
    all_at (λ (b : Block). IsIn (bytes_at c.args.callers) b.caller) blocks c.requires.in_bytes c.loop-i.i nothing (omega (arith, c.requires.one_each, long, c.loop-i-test.true)) in
    subst (λ (b : Block). IsIn c.bytes-bytes.result.now b.caller) (sym (c.site-block.ensures nothing))
    (subst (λ (bytes : List ℕ). IsIn bytes (get_or blocks c.loop-i.i nothing).caller) (sym c.bytes-bytes.ensures) here)

pub loop-i-preserved : goal.loop-i-preserved
loop-i-preserved c =
    let blocks : List Block = sited c.args.callers c.args.blocks.now in let i : ℕ = c.loop-i.i in
    let set = c.args.set.now in let heads = c.args.heads.now in
    let long : length blocks ≡ length c.args.blocks.now = length_sited c.args.callers c.args.blocks.now c.requires.sites in
    let line : Leak → List ℕ = leak_line (bytes_at c.args.callers) in
    let of_set : i < length set = c.loop-i-test.true in
    let of_heads : i < length heads = omega (arith, c.requires.one_each, c.requires.an_entry_each, c.loop-i-test.true) in
    let of_blocks : i < length blocks = omega (arith, long, c.requires.one_each, c.loop-i-test.true) in
    elim c.if-not-marked.branch [
      | then-not-marked+in_ok-push_leak w ↦
          let head = get_or heads i false in
          ap (λ v. v.items) w.out-is ∙ w.in_ok-push_leak.ensures
          ∙ ap (λ (bytes : List ℕ). c.loop-i.out.items ++ leak_line bytes (record { block = w.site-block.result; head = head })) c.bytes-bytes.ensures
          ∙ ap (λ (b : Block). c.loop-i.out.items ++ line (record { block = b; head = head })) (w.site-block.ensures nothing)
          ∙ ap (λ o. o ++ line (record { block = get_or blocks i nothing; head = head })) c.loop-i.invariant
          ∙ leaked_line line set heads blocks i false false nothing c.args.out.now.items of_set of_heads of_blocks w.if-not-marked.true
      | else-not-marked w ↦
          ap (λ v. v.items) w.out-is ∙ c.loop-i.invariant
          ∙ no_line line set heads blocks i false c.args.out.now.items of_set of_heads of_blocks w.if-not-marked.false
    ]

pub returns : goal.returns
returns c =
    let blocks : List Block = sited c.args.callers c.args.blocks.now in
    let long : length blocks ≡ length c.args.blocks.now = length_sited c.args.callers c.args.blocks.now c.requires.sites in
    c.loop-i.invariant
    ∙ ap (λ (ls : List Leak). c.args.out.now.items ++ flat_map (leak_line (bytes_at c.args.callers)) ls)
    (rw (
      take_all c.loop-i.i c.args.set.now c.loop-i-test.false,
      take_all c.loop-i.i c.args.heads.now (omega (arith, c.requires.one_each, c.requires.an_entry_each, c.loop-i-test.false)),
      take_all c.loop-i.i blocks (omega (arith, c.requires.one_each, long, c.loop-i-test.false)),
    ) refl)
