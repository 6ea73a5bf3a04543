-- From the lemmas of ByteLemmas, DifferLemmas and PieceLemmas.
use Rattle.std.proofs.Common.{◌≡◌, ◌+◌, ◌*◌, ◌-◌, ◌<◌, ◌∙◌, refl, ap, sym, ℕ, Bool, List, [], ◌∷◌, ◌++◌, if◌then◌else◌, length, drop, take, arith}
use Rattle.leak_elf.specs.Words.{word_of}
use Rattle.leak_elf.specs.Aligned.{aligned_words}
use Rattle.leak_later.specs.Differing.{differs}
use Rattle.leak_later.proofs.ByteLemmas.{page_in_run, page_in_run_long}
use Rattle.leak_later.proofs.DifferLemmas.{by_runs}
use Rattle.leak_later.proofs.PieceLemmas.{filter_more}
use Rattle.leak_later.proofs.comparing.push_differing.Goals.{then-runs_differ+in_ok-push-2, else-runs_differ}
use Rattle.leak_later.proofs.comparing.push_differing.Goals as goal

pub loop-k-preserved : goal.loop-k-preserved
loop-k-preserved g c =
    let before = word_of c.args.first.now in
    let now = word_of c.args.second.now in
    let k : ℕ = c.loop-k.k in
    let page : ℕ = c.args.page + k in
    let pages : List ℕ = c.loop-k.pages.items in
    let few : k < c.min-count.result = c.loop-k-test.true in
    let count = c.min-count.ensures in
    let whole = c.min-whole.ensures in
    let run_before : List ℕ = c.run-before.result.now in
    let run_now : List ℕ = c.run-now.result.now in
    let is : c.runs_differ.result ≡ differs before now page =
    by_runs before now page (take (length run_before - 4096 * k) (drop (4096 * k) run_before)) (take (length run_now - 4096 * k) (drop (4096 * k) run_now)) c.runs_differ.result (aligned_words c.args.second.now)
    (page_in_run before c.args.page k run_before c.run-before.ensures) (page_in_run now c.args.page k run_now c.run-now.ensures)
    (page_in_run_long k run_before (omega arith)) (page_in_run_long k run_now (omega arith))
    c.runs_differ.ensures.differ c.runs_differ.ensures.same in
    filter_more (differs before now) c.args.page k page c.args.pages.now.items pages _ c.runs_differ.result refl c.loop-k.invariant is
    (elim c.if-runs_differ.branch [
      | then-runs_differ+in_ok-push-2 w ↦ ap (λ v. v.items) w.pages-is ∙ w.in_ok-push-2.ensures.items ∙ sym (ap (λ (t : Bool). if t then pages ++ page ∷ [] else pages) w.if-runs_differ.true)
      | else-runs_differ w ↦ ap (λ v. v.items) w.pages-is ∙ sym (ap (λ (t : Bool). if t then pages ++ page ∷ [] else pages) w.if-runs_differ.false)
    ])
