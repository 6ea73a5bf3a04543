-- One part more, or an error that leaves some of its words.
use Rattle.std.proofs.Common.{◌≡◌, ◌∙◌, ◌+◌, ◌*◌, ◌/◌, ◌≤◌, ℕ, List, length, take, drop, ap, arith}
use Rattle.std.specs.Prelude.{slice_range}
use Rattle.leak_sift.specs.Kept.{Rule}
use Rattle.leak_sift.specs.Sifted.{run_of}
use Rattle.leak_sift.proofs.GroupLemmas.{part_of_run, run_count}
use Rattle.leak_sift.proofs.PartLemmas.{part_appended, part_cut_short}
use Rattle.leak_sift.proofs.RunLemmas.{all_appended, on_err}
use Rattle.leak_sift.proofs.appending.append_run.Goals as goal

-- the part, by the rule at the start
part : (rule same : Rule) (place : ℕ) (bytes : List ℕ) (done n : ℕ) → same ≡ rule → done + n ≤ length bytes / 8
    → run_of same (place + 8 * done) (slice_range bytes (8 * done) (8 * (done + n))) ≡ take n (drop done (run_of rule place bytes))
part rule same place bytes done n e inside =
    ap (λ (r : Rule). run_of r (place + 8 * done) (slice_range bytes (8 * done) (8 * (done + n)))) e ∙ part_of_run rule place bytes done n inside

pub returns-in_err-append_each-clause-err : goal.returns-in_err-append_each-clause-err
returns-in_err-append_each-clause-err c =
    let rule = c.args.sieve.now in
    let bytes = c.args.bytes.now in
    let so_far = c.loop-done.invariant in
    let done = c.loop-done.done in
    let n = c.part_len.result in
    let inside : done + n ≤ length bytes / 8 = omega (arith, c.part_len.ensures.within, so_far.within) in
    on_err c.from_residual.result _
    (part_cut_short c.args.words.now (run_of rule c.args.place bytes) c.loop-done.words done so_far.words n _ c.append_each.new.words (omega (arith, inside, run_count rule c.args.place bytes))
    (part rule c.loop-done.sieve c.args.place bytes done n so_far.same inside) c.in_err-append_each.ensures.err)

pub returns-in_err-append_groups-clause-err : goal.returns-in_err-append_groups-clause-err
returns-in_err-append_groups-clause-err c =
    let rule = c.args.sieve.now in
    let bytes = c.args.bytes.now in
    let so_far = c.loop-done.invariant in
    let done = c.loop-done.done in
    let n = c.part_len.result in
    let inside : done + n ≤ length bytes / 8 = omega (arith, c.part_len.ensures.within, so_far.within) in
    on_err c.from_residual-in_err-append_groups.result _
    (part_cut_short c.args.words.now (run_of rule c.args.place bytes) c.loop-done.words done so_far.words n _ c.append_groups.new.words (omega (arith, inside, run_count rule c.args.place bytes))
    (part rule c.loop-done.sieve c.args.place bytes done n so_far.same inside) c.in_err-append_groups.ensures.err)

pub loop-done-preserved-in_ok-append_each : goal.loop-done-preserved-in_ok-append_each
loop-done-preserved-in_ok-append_each c =
    let rule = c.args.sieve.now in
    let bytes = c.args.bytes.now in
    let so_far = c.loop-done.invariant in
    let done = c.loop-done.done in
    let n = c.part_len.result in
    let inside : done + n ≤ length bytes / 8 = omega (arith, c.part_len.ensures.within, so_far.within) in
    record {
      within = inside;
      words = part_appended c.args.words.now (run_of rule c.args.place bytes) c.loop-done.words done so_far.words n _ c.append_each.new.words
          (part rule c.loop-done.sieve c.args.place bytes done n so_far.same inside) c.in_ok-append_each.ensures.ok;
      same = c.append_each.ensures.same ∙ so_far.same;
    }

pub loop-done-preserved : goal.loop-done-preserved
loop-done-preserved c =
    let rule = c.args.sieve.now in
    let bytes = c.args.bytes.now in
    let so_far = c.loop-done.invariant in
    let done = c.loop-done.done in
    let n = c.part_len.result in
    let inside : done + n ≤ length bytes / 8 = omega (arith, c.part_len.ensures.within, so_far.within) in
    record {
      within = inside;
      words = part_appended c.args.words.now (run_of rule c.args.place bytes) c.loop-done.words done so_far.words n _ c.append_groups.new.words
          (part rule c.loop-done.sieve c.args.place bytes done n so_far.same inside) c.in_ok-append_groups.ensures.ok;
      same = c.append_groups.ensures.same ∙ so_far.same;
    }

pub returns-clause-ok : goal.returns-clause-ok
returns-clause-ok c =
    let all = run_count c.args.sieve.now c.args.place c.args.bytes.now in
    all_appended c.args.words.now (run_of c.args.sieve.now c.args.place c.args.bytes.now) c.loop-done.words c.loop-done.done c.loop-done.invariant.words (omega (arith, all, c.loop-done-test.false))
