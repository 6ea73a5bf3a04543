-- Whole groups that are dropped, or the next one.
use Rattle.std.proofs.Common.{◌≡◌, ◌∙◌, ◌+◌, ◌-◌, ◌*◌, ◌/◌, ◌<◌, ◌≤◌, ◌++◌, ℕ, length, take, drop, replicate, ap, subst, sym, arith}
use Rattle.std.proofs.lemmas.List.{length-append, length-take-le}
use Rattle.std.specs.Int.{w64}
use Rattle.leak_sparse.specs.Pushed.{word_of}
use Rattle.leak_elf.specs.Fields.{number_at}
use Rattle.leak_sift.specs.Grouped.{AreBits, is_kept}
use Rattle.leak_sift.specs.Kept.{Rule}
use Rattle.leak_sift.specs.Sifted.{run_of}
use Rattle.leak_sift.proofs.DroppedLemmas.{dropped_from}
use Rattle.leak_sift.proofs.GroupLemmas.{group_part, group_word, run_count}
use Rattle.leak_sift.proofs.PartLemmas.{none_appended, part_appended}
use Rattle.leak_sift.proofs.RunLemmas.{all_appended, on_err, padded_to}
use Rattle.leak_sift.proofs.appending.append_groups.Goals as goal

pub returns-in_err-push_zeros-clause-err : goal.returns-in_err-push_zeros-clause-err
returns-in_err-push_zeros-clause-err c =
    let more = run_of c.args.sieve.now c.args.place c.args.bytes.now in
    let all = run_count c.args.sieve.now c.args.place c.args.bytes.now in
    on_err c.from_residual.result _
    (none_appended c.args.words.now more c.loop-done.words c.loop-done.done c.loop-done.invariant.words c.push_zeros.new.self (omega (arith, all, c.loop-done-test.true)) c.in_err-push_zeros.ensures.err)

pub loop-done-preserved-then-zeros-gt0 : goal.loop-done-preserved-then-zeros-gt0
loop-done-preserved-then-zeros-gt0 c =
    let rule = c.args.sieve.now in
    let bytes = c.args.bytes.now in
    let more = run_of rule c.args.place bytes in
    let all = run_count rule c.args.place bytes in
    let so_far = c.loop-done.invariant in
    let done = c.loop-done.done in
    let dropped = c.count_dropped.result in
    let zeros = dropped / 64 * 64 in
    let within : done + dropped ≤ length bytes / 8 = omega arith in
    let fewer : zeros ≤ dropped = omega arith in
    let number : done + zeros - done ≡ zeros = omega arith in
    record {
      within = omega (arith, within, fewer);
      groups = omega (arith, so_far.groups);
      words = padded_to c.args.words.now more c.loop-done.words done so_far.words (done + zeros) (omega arith) (omega (arith, all, within, fewer))
          (dropped_from rule c.loop-done.sieve c.args.place bytes done dropped zeros so_far.same within fewer c.count_dropped.ensures.dropped)
          c.push_zeros.new.self (c.in_ok-push_zeros.ensures.ok ∙ ap (λ (n : ℕ). c.loop-done.words ++ replicate n 0) (sym number));
      same = so_far.same;
    }

pub push_group-requires-clause-whole : goal.push_group-requires-clause-whole
push_group-requires-clause-whole c =
    let more = run_of c.args.sieve.now c.args.place c.args.bytes.now in
    let all = run_count c.args.sieve.now c.args.place c.args.bytes.now in
    let so_far = c.loop-done.invariant in
    let done = c.loop-done.done in
    omega (arith, ap (length {A = ℕ}) so_far.words, length-append c.args.words.now (take done more), length-take-le done more (omega (arith, all, so_far.within)), so_far.groups, c.requires.before)

pub returns-in_err-push_group-clause-err : goal.returns-in_err-push_group-clause-err
returns-in_err-push_group-clause-err c =
    let more = run_of c.args.sieve.now c.args.place c.args.bytes.now in
    let all = run_count c.args.sieve.now c.args.place c.args.bytes.now in
    on_err c.from_residual-in_err-push_group.result _
    (none_appended c.args.words.now more c.loop-done.words c.loop-done.done c.loop-done.invariant.words c.push_group.new.self (omega (arith, all, c.loop-done-test.true)) c.in_err-push_group.ensures.err)

pub loop-done-preserved : goal.loop-done-preserved
loop-done-preserved c =
    let rule = c.args.sieve.now in
    let place = c.args.place in
    let bytes = c.args.bytes.now in
    let so_far = c.loop-done.invariant in
    let done = c.loop-done.done in
    let all = c.as_chunks.result.0.now in
    let bits = c.group_bits.result in
    let within : done + 64 ≤ length bytes / 8 = omega (arith, so_far.groups, so_far.within, c.requires.groups, c.loop-done-test.true) in
    let sixty : done + 64 - done ≡ 64 = omega arith in
    let group = take (done + 64 - done) (drop done all) in
    let words : (k : ℕ) → k < 64 → word_of group k ≡ number_at w64 bytes (8 * (done + k)) =
    λ k h. ap (λ (n : ℕ). word_of (take n (drop done all)) k) sixty ∙ group_word bytes all done k c.as_chunks.ensures.front within h in
    let are : AreBits (λ k. is_kept rule.blocks rule.links (place + 8 * done + 8 * k) (word_of group k)) 64 bits =
    subst (λ (r : Rule). AreBits (λ k. is_kept r.blocks r.links (place + 8 * done + 8 * k) (word_of group k)) 64 bits) so_far.same c.group_bits.ensures.bits in
    record {
      within = within;
      groups = omega (arith, so_far.groups);
      words = part_appended c.args.words.now (run_of rule place bytes) c.loop-done.words done so_far.words 64 _ c.push_group.new.self
          (group_part rule place bytes done bits group within words are) c.in_ok-push_group.ensures.ok;
      same = c.group_bits.ensures.same ∙ so_far.same;
    }

pub returns-clause-ok : goal.returns-clause-ok
returns-clause-ok c =
    let all = run_count c.args.sieve.now c.args.place c.args.bytes.now in
    all_appended c.args.words.now (run_of c.args.sieve.now c.args.place c.args.bytes.now) c.loop-done.words c.loop-done.done c.loop-done.invariant.words (omega (arith, all, c.loop-done-test.false))
