-- From the lemmas of Leaks and SiteLemmas.
use Rattle.std.proofs.Common.{◌≡◌, ◌<◌, ℕ, List, ◌∷◌, [], ◌++◌, length, take, get_or, false, refl, sym, ap, ◌∙◌, add-one, arith}
use Rattle.std.proofs.lemmas.List.{take_all}
use Rattle.leak_blocks.specs.declared.block.Block.{Block}
use Rattle.leak_report.specs.Sites.{sited}
use Rattle.leak_report.specs.Totals.{Leak, leaks_in}
use Rattle.leak_report.proofs.Leaks.{leaks_push, leaks_stay}
use Rattle.leak_report.proofs.SiteLemmas.{length_sited}
use Rattle.leak_report.proofs.leaked.leaks_of.Goals as goal
use Rattle.leak_report.proofs.leaked.leaks_of.Goals.{then-not-marked+in_ok-push, else-not-marked}

pub loop-i-preserved : goal.loop-i-preserved
loop-i-preserved c =
    let nothing : Block = record { start = 0; size = 0; line = 0; caller = (0, 0) } in
    let set = c.args.set.now in let heads = c.args.heads.now in let blocks : List Block = sited c.args.callers c.args.blocks.now in
    let i : ℕ = c.loop-i.i in let before : List Leak = leaks_in (take i set) (take i heads) (take i blocks) in
    let long : length blocks ≡ length c.args.blocks.now = length_sited c.args.callers c.args.blocks.now c.requires.sites in
    let of_set : i < length set = c.loop-i-test.true in
    let of_heads : i < length heads = omega (arith, c.requires.one_each, c.requires.an_entry_each, c.loop-i-test.true) in
    let of_blocks : i < length blocks = omega (arith, c.requires.one_each, long, c.loop-i-test.true) in
    let next = ap (λ (n : ℕ). leaks_in (take n set) (take n heads) (take n blocks)) (sym (add-one i)) in
    elim c.if-not-marked.branch [
      | then-not-marked+in_ok-push w ↦
          ap (λ v. v.items) w.leaks-is ∙ w.in_ok-push.ensures.items
          ∙ ap (λ (ls : List Leak). ls ++ record { block = w.site-block.result; head = get_or heads i false } ∷ []) c.loop-i.invariant
          ∙ ap (λ (b : Block). before ++ record { block = b; head = get_or heads i false } ∷ []) (w.site-block.ensures nothing)
          ∙ sym (leaks_push set heads blocks i false false nothing of_set of_heads of_blocks w.if-not-marked.true)
          ∙ next
      | else-not-marked w ↦
          ap (λ v. v.items) w.leaks-is ∙ c.loop-i.invariant ∙ sym (leaks_stay set heads blocks i false of_set of_heads of_blocks w.if-not-marked.false) ∙ next
    ]

pub returns : goal.returns
returns c =
    let blocks : List Block = sited c.args.callers c.args.blocks.now in
    let long : length blocks ≡ length c.args.blocks.now = length_sited c.args.callers c.args.blocks.now c.requires.sites in
    c.loop-i.invariant
    ∙ rw (
      take_all c.loop-i.i c.args.set.now c.loop-i-test.false,
      take_all c.loop-i.i c.args.heads.now (omega (arith, c.requires.one_each, c.requires.an_entry_each, c.loop-i-test.false)),
      take_all c.loop-i.i blocks (omega (arith, c.requires.one_each, long, c.loop-i-test.false)),
    ) refl
