-- The rest of a run, and none.
use Rattle.std.proofs.Common.{◌≡◌, ◌∙◌, ◌*◌, ◌/◌, ℕ, List, subst, sym, ap, drop, arith}
use Rattle.leak_elf.specs.Words.{IsRun}
use Rattle.leak_scan.proofs.Blocks.{run_dropped}
use Rattle.leak_scan.proofs.block_runs.run_on.Goals as goal

pub returns : goal.returns
returns c word_at is =
    let n : ℕ = c.saturating_sub-distance.result / 8 in
    let d : 8 * n ≡ c.saturating_sub-distance.result = omega arith in
    subst (λ (l : List ℕ). IsRun word_at c.args.at l) (ap (λ (k : ℕ). drop k c.args.run.now) d ∙ sym c.split_at.ensures.back)
    (run_dropped word_at c.args.from c.args.at n c.args.run.now is (omega (arith, d, c.saturating_sub-distance.ensures)))
