-- From the lemmas of Cutting and LeftOut.
use Rattle.std.proofs.Common.{◌≡◌, ◌∙◌, ℕ, List, length, get_or, take, subst, refl, arith, rules}
use Rattle.leak_roots.proofs.Cutting.{range_is}
use Rattle.leak_roots.proofs.LeftOut.{AreAllKept, all_kept_ahead, all_kept_more, taken_ends, taken_places, taken_ranges}
use Rattle.leak_roots.proofs.Few.{AreAllFew, all_few_ahead, all_few_more}
use Rattle.leak_roots.proofs.inside.keep_others.Goals as goal

pub push-requires-clause-range : goal.push-requires-clause-range
push-requires-clause-range c = range_is c.args.memory.now c.loop-k.k (0, 0) c.requires.ranges c.loop-k-test.true

pub push-requires-clause-fits : goal.push-requires-clause-fits
push-requires-clause-fits c =
    let kept = c.loop-k.invariant.kept in record {
      apart = rw c.loop-k.invariant.same c.requires.apart;
      room = kept.few c.loop-k.k (0, 0) (omega arith) c.loop-k-test.true;
    }

pub loop-k-init : goal.loop-k-init
loop-k-init c =
    let spans = c.args.spans.now in
    let memory = c.args.memory.now in
    let ahead : ℕ = c.count_ahead-ahead.result in
    let same : take ahead memory ≡ c.new-kept.result.memory.items = search rules in
    record {
      same = c.new-kept.ensures.spans;
      kept = rw c.new-kept.ensures.inside (subst (λ (kept : List (ℕ × ℕ)). AreAllKept spans memory ahead kept 0) same (all_kept_ahead spans memory ahead c.requires.ranges c.requires.apart c.count_ahead-ahead.ensures.bound c.count_ahead-ahead.ensures.ahead));
      few = subst (λ (kept : List (ℕ × ℕ)). AreAllFew spans memory ahead (length kept)) same (all_few_ahead spans memory ahead c.count_ahead-ahead.ensures.bound);
    }

pub loop-k-preserved : goal.loop-k-preserved
loop-k-preserved c =
    let spans = c.args.spans.now in
    let memory = c.args.memory.now in
    let same = c.loop-k.invariant.same in
    let adds = c.in_ok-push.ensures.adds in
    let fits = c.in_ok-push.ensures.fits in
    let range = get_or memory c.loop-k.k (0, 0) in
    let is = range_is memory c.loop-k.k (0, 0) c.requires.ranges c.loop-k-test.true in
    let ends = c.loop-k.invariant.kept.ends c.loop-k.k (0, 0) (omega arith) c.loop-k-test.true in
    let places = taken_places _ range.0 range.1 _ c.loop-k.kept c.push.new.self (λ r. refl) adds in
    let ranges = taken_ranges _ range.0 range.1 _ c.loop-k.kept c.push.new.self adds c.loop-k.invariant.kept.ranges ends in
    let later = taken_ends _ range.0 range.1 _ c.loop-k.kept c.push.new.self (let s = is.some in omega arith) adds ends in
    record {
      same = adds.spans ∙ same;
      kept = rw (adds.inside, same) (all_kept_more spans memory c.loop-k.k c.loop-k.kept.memory.items c.push.new.self.memory.items c.loop-k.kept.inside _ (0, 0) c.requires.ranges c.loop-k-test.true c.loop-k.invariant.kept
          (rw same at places) ranges later refl (rw (adds.inside, same) at fits.room));
      few = all_few_more spans memory c.loop-k.k (length c.loop-k.kept.memory.items) (length c.push.new.self.memory.items) (0, 0) c.requires.ranges c.loop-k-test.true c.loop-k.invariant.few (rw same at c.in_ok-push.ensures.cuts);
    }
