-- From the lemmas of Leaks, Orders and SiteLemmas.
use Rattle.std.proofs.Common.{◌≡◌, ℕ, Bool, List, length, sym, subst, ap, ap₂, ◌∙◌, arith}
use Rattle.std.proofs.lemmas.Result.{IfOk-weaker}
use Rattle.leak_blocks.specs.declared.block.Block.{Block}
use Rattle.leak_blocks.proofs.SumLemmas.{sum_fits}
use Rattle.leak_report.specs.declared.caller_texts.CallerTexts.{CallerTexts}
use Rattle.leak_report.specs.Sites.{bytes_at, sited}
use Rattle.leak_report.specs.Totals.{Leak, AreLeaksIn, IsIn, bytes_in, bytes_of, heads_in, leaks_in, rows_of}
use Rattle.leak_report.proofs.Leaks.{bytes_in-leaks, bytes-leaks_leaked, length-leaks_leaked}
use Rattle.leak_report.proofs.Orders.{each_leak}
use Rattle.leak_report.proofs.SiteLemmas.{bytes_sited, length_sited}
use Rattle.leak_report.proofs.totals.Totals.of_sites.Goals as goal

-- the leaked blocks of these live blocks
leaks_same : (callers : CallerTexts) (set heads : List Bool) (leaks : List Leak) (listed blocks : List Block) → leaks ≡ leaks_in set heads (sited callers listed) → listed ≡ blocks
    → leaks ≡ leaks_in set heads (sited callers blocks)
leaks_same callers set heads leaks listed blocks are same = are ∙ ap (λ bs. leaks_in set heads (sited callers bs)) same

pub of_leaks-requires-clause-fits : goal.of_leaks-requires-clause-fits
of_leaks-requires-clause-fits c =
    let callers = c.args.callers in let blocks : List Block = c.args.live.now.blocks in
    let are = leaks_same callers c.args.set.now c.args.heads.now c.as_slice.result.now c.blocks-blocks.result.now blocks (c.as_slice.ensures.value ∙ c.in_ok-leaks.ensures) c.blocks-blocks.ensures.value in
    omega (
      arith,
      ap bytes_in are,
      bytes_in-leaks c.args.set.now c.args.heads.now (sited callers blocks),
      bytes_sited callers blocks c.requires.sites,
      ap bytes_of c.blocks-blocks.ensures.value,
      sum_fits c.blocks-blocks.result.now c.blocks-blocks.ensures.addressed c.blocks-blocks.ensures.disjoint,
    )

pub of_leaks-requires-clause-in_log : goal.of_leaks-requires-clause-in_log
of_leaks-requires-clause-in_log c =
    let callers = c.args.callers in let blocks : List Block = c.args.live.now.blocks in
    let are = leaks_same callers c.args.set.now c.args.heads.now c.as_slice.result.now c.blocks-blocks.result.now blocks (c.as_slice.ensures.value ∙ c.in_ok-leaks.ensures) c.blocks-blocks.ensures.value in
    subst (λ (b : List ℕ). AreLeaksIn b c.as_slice.result.now) (sym c.bytes.ensures)
    (subst (λ (ls : List Leak). AreLeaksIn (bytes_at callers) ls) (sym are)
    (each_leak (λ b. IsIn (bytes_at callers) b.caller) c.args.set.now c.args.heads.now (sited callers blocks) c.requires.in_bytes))

pub returns-clause-count : goal.returns-clause-count
returns-clause-count c = IfOk-weaker c.of_leaks.result _ _ (λ totals is.
    let callers = c.args.callers in let blocks : List Block = c.args.live.now.blocks in
    let are = leaks_same callers c.args.set.now c.args.heads.now c.as_slice.result.now c.blocks-blocks.result.now blocks (c.as_slice.ensures.value ∙ c.in_ok-leaks.ensures) c.blocks-blocks.ensures.value in
    is ∙ ap (λ (ls : List Leak). length ls) are
    ∙ length-leaks_leaked c.args.set.now c.args.heads.now (sited callers blocks) (c.requires.an_entry_each ∙ sym (length_sited callers blocks c.requires.sites))) c.of_leaks.ensures.count

pub returns-clause-bytes : goal.returns-clause-bytes
returns-clause-bytes c = IfOk-weaker c.of_leaks.result _ _ (λ totals is.
    let callers = c.args.callers in let blocks : List Block = c.args.live.now.blocks in
    let are = leaks_same callers c.args.set.now c.args.heads.now c.as_slice.result.now c.blocks-blocks.result.now blocks (c.as_slice.ensures.value ∙ c.in_ok-leaks.ensures) c.blocks-blocks.ensures.value in
    is ∙ ap bytes_in are
    ∙ bytes-leaks_leaked c.args.set.now c.args.heads.now (sited callers blocks) (c.requires.an_entry_each ∙ sym (length_sited callers blocks c.requires.sites))) c.of_leaks.ensures.bytes

pub returns-clause-heads : goal.returns-clause-heads
returns-clause-heads c = IfOk-weaker c.of_leaks.result _ _ (λ totals is.
    let are = leaks_same c.args.callers c.args.set.now c.args.heads.now c.as_slice.result.now c.blocks-blocks.result.now c.args.live.now.blocks (c.as_slice.ensures.value ∙ c.in_ok-leaks.ensures) c.blocks-blocks.ensures.value in
    is ∙ ap heads_in are) c.of_leaks.ensures.heads

pub returns-clause-rows : goal.returns-clause-rows
returns-clause-rows c = IfOk-weaker c.of_leaks.result _ _ (λ totals is.
    let are = leaks_same c.args.callers c.args.set.now c.args.heads.now c.as_slice.result.now c.blocks-blocks.result.now c.args.live.now.blocks (c.as_slice.ensures.value ∙ c.in_ok-leaks.ensures) c.blocks-blocks.ensures.value in
    is ∙ ap₂ rows_of c.bytes.ensures are) c.of_leaks.ensures.rows
