-- The words up to the next one that is kept, or an error that leaves some of them.
use Rattle.std.proofs.Common.{◌≡◌, ◌+◌, ◌-◌, ◌/◌, ◌++◌, ◌≤◌, ℕ, List, length, take, replicate, get_or, refl, subst, ap, ◌∙◌, arith}
use Rattle.leak_sift.specs.Kept.{Rule, kept_of}
use Rattle.leak_sift.specs.Sifted.{AreZero, run_of}
use Rattle.leak_sift.proofs.PartLemmas.{none_appended}
use Rattle.leak_sift.proofs.RunLemmas.{all_appended, on_err, one_more, padded_to}
use Rattle.leak_sift.proofs.WordLemmas.{length-by_words}
use Rattle.leak_sift.proofs.appending.append_each.Goals as goal

-- how many words the run has
count : (rule : Rule) (place : ℕ) (bytes : List ℕ) → length (run_of rule place bytes) ≡ length bytes / 8
count rule place bytes = length-by_words (λ distance word. kept_of rule.blocks rule.links (place + distance) word) bytes

-- words of 0 behind the words so far, where the rule gives them
padded : (rule same : Rule) (place : ℕ) (bytes before words after : List ℕ) (done number : ℕ) → same ≡ rule → words ≡ before ++ take done (run_of rule place bytes)
    → done ≤ number → number ≤ length bytes / 8 → AreZero (run_of same place bytes) done number → after ≡ words ++ replicate (number - done) 0
    → after ≡ before ++ take number (run_of rule place bytes)
padded rule same place bytes before words after done number e so_far order within zero is =
    padded_to before (run_of rule place bytes) words done so_far number order (omega (arith, count rule place bytes)) (subst (λ (r : Rule). AreZero (run_of r place bytes) done number) e zero) after is

pub push_after-requires : goal.push_after-requires
push_after-requires c = c.in-Some.ensures.next.4

pub returns-in_err-push_after-clause-err : goal.returns-in_err-push_after-clause-err
returns-in_err-push_after-clause-err c =
    let more = run_of c.args.sieve.now c.args.place c.args.bytes.now in
    let all = count c.args.sieve.now c.args.place c.args.bytes.now in
    let next = c.in-Some.ensures.next in
    let same = count c.loop-number.sieve c.args.place c.args.bytes.now in
    on_err c.from_residual.result _
    (none_appended c.args.words.now more c.loop-number.words c.loop-number.done c.loop-number.invariant.words c.push_after.new.self (omega (arith, all, same, next.0, next.1)) c.in_err-push_after.ensures.err)

pub overflow_add-done : goal.overflow_add-done
overflow_add-done c = let next = c.in-Some.ensures.next in let same = count c.loop-number.sieve c.args.place c.args.bytes.now in omega (arith, same, next.1)

pub loop-number-smaller : goal.loop-number-smaller
loop-number-smaller c = let next = c.in-Some.ensures.next in let same = count c.loop-number.sieve c.args.place c.args.bytes.now in omega (arith, same, next.0, next.1)

pub loop-number-preserved : goal.loop-number-preserved
loop-number-preserved c =
    let rule = c.args.sieve.now in
    let place = c.args.place in
    let bytes = c.args.bytes.now in
    let more = run_of rule place bytes in
    let so_far = c.loop-number.invariant in
    let done = c.loop-number.done in
    let next = c.in-Some.ensures.next in
    let all = count rule place bytes in
    let same = count c.loop-number.sieve place bytes in
    let before = c.loop-number.words ++ replicate (c.in-Some.number - done) 0 in
    let so = padded rule c.loop-number.sieve place bytes c.args.words.now c.loop-number.words before done c.in-Some.number so_far.same so_far.words next.0 (omega (arith, same, next.1)) next.3 refl in
    record {
      within = omega (arith, same, next.1);
      words = one_more c.args.words.now more before c.in-Some.number so c.in-Some.word (omega (arith, all, same, next.1)) (next.2 ∙ ap (λ (r : Rule). get_or (run_of r place bytes) c.in-Some.number 0) so_far.same) c.push_after.new.self c.in_ok-push_after.ensures.ok;
      same = c.next_kept.ensures.same ∙ so_far.same;
    }

pub returns-in_err-push_zeros-clause-err : goal.returns-in_err-push_zeros-clause-err
returns-in_err-push_zeros-clause-err c =
    let more = run_of c.args.sieve.now c.args.place c.args.bytes.now in
    let all = count c.args.sieve.now c.args.place c.args.bytes.now in
    on_err c.from_residual-in_err-push_zeros.result _
    (none_appended c.args.words.now more c.loop-number.words c.loop-number.done c.loop-number.invariant.words c.push_zeros.new.self (omega (arith, all)) c.in_err-push_zeros.ensures.err)

pub returns-in_ok-push_zeros-clause-ok : goal.returns-in_ok-push_zeros-clause-ok
returns-in_ok-push_zeros-clause-ok c =
    let rule = c.args.sieve.now in
    let place = c.args.place in
    let bytes = c.args.bytes.now in
    let all = count rule place bytes in
    let same = count c.loop-number.sieve place bytes in
    let rest : AreZero (run_of c.loop-number.sieve place bytes) c.loop-number.done (length bytes / 8) = subst (AreZero (run_of c.loop-number.sieve place bytes) c.loop-number.done) same c.in_default.ensures.next in
    all_appended c.args.words.now (run_of rule place bytes) c.push_zeros.new.self (length bytes / 8)
    (padded rule c.loop-number.sieve place bytes c.args.words.now c.loop-number.words c.push_zeros.new.self c.loop-number.done (length bytes / 8) c.loop-number.invariant.same c.loop-number.invariant.words c.loop-number.invariant.within (omega arith) rest c.in_ok-push_zeros.ensures.ok)
    (omega (arith, all))

pub returns-else-done-count-clause-ok : goal.returns-else-done-count-clause-ok
returns-else-done-count-clause-ok c =
    let all = count c.args.sieve.now c.args.place c.args.bytes.now in
    all_appended c.args.words.now (run_of c.args.sieve.now c.args.place c.args.bytes.now) c.loop-number.words c.loop-number.done c.loop-number.invariant.words (omega (arith, all))
