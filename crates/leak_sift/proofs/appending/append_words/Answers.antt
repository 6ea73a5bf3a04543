-- One run more, or an error that leaves some of its words.
use Rattle.std.proofs.Common.{◌≡◌, ◌+◌, ◌*◌, ◌/◌, ◌≤◌, ◌++◌, ℕ, List, length, ◌-◌, take, drop, Some, ap, ◌∙◌, subst, arith}
use Rattle.std.specs.Prelude.{slice_range}
use Rattle.std.proofs.lemmas.List.{take_all}
use Rattle.leak_elf.specs.declared.segment.Segment.{Segment}
use Rattle.leak_sift.specs.declared.places.Run.{Run}
use Rattle.leak_sift.specs.Kept.{Rule}
use Rattle.leak_sift.specs.Runs.{IsRunAt}
use Rattle.leak_sift.specs.Sifted.{kept_at, run_of, sifted}
use Rattle.leak_sift.proofs.PartLemmas.{gap_part, none_appended, part_appended, part_cut_short, run_part}
use Rattle.leak_sift.proofs.RunLemmas.{on_err}
use Rattle.leak_sift.proofs.WordLemmas.{length-by_words}
use Rattle.leak_sift.proofs.appending.append_words.Goals as goal

-- how many words there are
count : (rule : Rule) (segments : List Segment) (offset : ℕ) (bytes : List ℕ) → length (sifted rule segments offset bytes) ≡ length bytes / 8
count rule segments offset bytes = length-by_words (λ distance word. kept_at rule segments (offset + distance) word) bytes

-- the run, of the segments at the start
run_there : (before after : List Segment) (offset most : ℕ) (run : Run) → after ≡ before → IsRunAt after offset most run → IsRunAt before offset most run
run_there before after offset most run e is = subst (λ (segments : List Segment). IsRunAt segments offset most run) e is

-- what it appended
module _ (rule same : Rule) (segments : List Segment) (offset : ℕ) (bytes : List ℕ) (done most : ℕ) (run : Run) (place : ℕ) (e : same ≡ rule) (is : IsRunAt segments (offset + 8 * done) most run) where
  appended : done + run.words ≤ length bytes / 8 → run.place ≡ Some place
      → run_of same place (slice_range bytes (8 * done) (8 * (done + run.words))) ≡ take run.words (drop done (sifted rule segments offset bytes))
  appended inside some =
      ap (λ (r : Rule). run_of r place (slice_range bytes (8 * done) (8 * (done + run.words)))) e
      ∙ run_part rule segments offset bytes done most run is inside place some

pub returns-in_err-append_run-in-Some-clause-err :
    goal.returns-in_err-append_run-in-Some-clause-err
returns-in_err-append_run-in-Some-clause-err c =
    let bytes = c.args.bytes.now in
    let done = c.loop-done.done in
    let more = sifted c.args.sieve.now c.args.places.now c.args.offset bytes in
    let all = count c.args.sieve.now c.args.places.now c.args.offset bytes in
    let so_far = c.loop-done.invariant in
    let run = run_there c.args.places.now c.loop-done.places (c.args.offset + 8 * done) (length bytes / 8 - done) c.run_at-run.result so_far.segments c.run_at-run.ensures.run in
    let part = appended c.args.sieve.now c.loop-done.sieve c.args.places.now c.args.offset bytes done (length bytes / 8 - done) c.run_at-run.result c.in-Some.place so_far.rule run (omega (arith, run.within)) c.in-Some.is in
    on_err c.from_residual.result _
    (part_cut_short c.args.words.now more c.loop-done.words done so_far.words c.run_at-run.result.words _ c.append_run.new.words (omega (arith, all, run.within)) part c.in_err-append_run-in-Some.ensures.err)

pub returns-in_err-push_zeros-in-None-clause-err :
    goal.returns-in_err-push_zeros-in-None-clause-err
returns-in_err-push_zeros-in-None-clause-err c =
    let more = sifted c.args.sieve.now c.args.places.now c.args.offset c.args.bytes.now in
    let all = count c.args.sieve.now c.args.places.now c.args.offset c.args.bytes.now in
    let so_far = c.loop-done.invariant in
    on_err c.from_residual-in_err-push_zeros-in-None.result _
    (none_appended c.args.words.now more c.loop-done.words c.loop-done.done so_far.words c.push_zeros.new.self (omega (arith, all)) c.in_err-push_zeros-in-None.ensures.err)

pub loop-done-preserved-in_ok-append_run-in-Some :
    goal.loop-done-preserved-in_ok-append_run-in-Some
loop-done-preserved-in_ok-append_run-in-Some c =
    let bytes = c.args.bytes.now in
    let done = c.loop-done.done in
    let more = sifted c.args.sieve.now c.args.places.now c.args.offset bytes in
    let so_far = c.loop-done.invariant in
    let run = run_there c.args.places.now c.loop-done.places (c.args.offset + 8 * done) (length bytes / 8 - done) c.run_at-run.result so_far.segments c.run_at-run.ensures.run in
    let part = appended c.args.sieve.now c.loop-done.sieve c.args.places.now c.args.offset bytes done (length bytes / 8 - done) c.run_at-run.result c.in-Some.place so_far.rule run (omega (arith, run.within)) c.in-Some.is in
    record {
      within = omega (arith, run.within);
      words = part_appended c.args.words.now more c.loop-done.words done so_far.words c.run_at-run.result.words _ c.append_run.new.words part c.in_ok-append_run-in-Some.ensures.ok;
      segments = c.run_at-run.ensures.same ∙ so_far.segments;
      rule = c.append_run.ensures.same ∙ so_far.rule;
    }

pub loop-done-preserved : goal.loop-done-preserved
loop-done-preserved c =
    let bytes = c.args.bytes.now in
    let done = c.loop-done.done in
    let more = sifted c.args.sieve.now c.args.places.now c.args.offset bytes in
    let so_far = c.loop-done.invariant in
    let run = run_there c.args.places.now c.loop-done.places (c.args.offset + 8 * done) (length bytes / 8 - done) c.run_at-run.result so_far.segments c.run_at-run.ensures.run in
    let part = gap_part c.args.sieve.now c.args.places.now c.args.offset bytes done (length bytes / 8 - done) c.run_at-run.result run (omega (arith, run.within)) c.in-None.is in
    record {
      within = omega (arith, run.within);
      words = part_appended c.args.words.now more c.loop-done.words done so_far.words c.run_at-run.result.words _ c.push_zeros.new.self part c.in_ok-push_zeros-in-None.ensures.ok;
      segments = c.run_at-run.ensures.same ∙ so_far.segments;
      rule = so_far.rule;
    }

pub returns-clause-ok : goal.returns-clause-ok
returns-clause-ok c =
    let more = sifted c.args.sieve.now c.args.places.now c.args.offset c.args.bytes.now in
    let all = count c.args.sieve.now c.args.places.now c.args.offset c.args.bytes.now in
    c.loop-done.invariant.words ∙ ap (λ (l : List ℕ). c.args.words.now ++ l) (take_all c.loop-done.done more (omega (arith, all)))
