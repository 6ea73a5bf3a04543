-- From the lemmas of HalfLemmas and AbsorbLemmas.
use Rattle.std.proofs.Common.{ℕ, ◌∙◌, ◌+◌, ◌-◌, ◌%◌, ◌^◌, ap, length-set, arith}
use Rattle.std.proofs.lemmas.Grind.{get_or_default_zero}
use Rattle.leak_pool.proofs.HalfLemmas.{share-mono}
use Rattle.leak_pool.proofs.AbsorbLemmas.{counted_none, counted_more}
use Rattle.leak_pool.proofs.rounds.count_steps.Goals as goal

pub overflow_sub-end : goal.overflow_sub-end
overflow_sub-end c = let m = share-mono c.loop-k.k (c.loop-k.k + 1) c.args.items c.args.workers (omega arith) (omega arith) in omega (arith, m, c.share_start-first.ensures.start, c.share_start-end.ensures.start)

pub loop-k-init : goal.loop-k-init
loop-k-init c = record { len = c.requires.steps; counted = counted_none c.args.items c.args.workers c.args.steps.now.items }

pub loop-k-preserved : goal.loop-k-preserved
loop-k-preserved c = record {
  len = length-set c.loop-k.steps.items c.loop-k.k _ ∙ c.loop-k.invariant.len;
  counted = counted_more c.args.items c.args.workers c.loop-k.k c.args.steps.now.items c.loop-k.steps.items c.share_start-first.result c.share_start-end.result _ (omega (arith, c.loop-k.invariant.len)) c.share_start-first.ensures.start c.share_start-end.ensures.start
      (ap (λ (x : ℕ). (x + (c.share_start-end.result - c.share_start-first.result)) % 2 ^ 64) (c.index-step.ensures ∙ get_or_default_zero c.loop-k.steps.items c.loop-k.k _ (omega (arith, c.loop-k.invariant.len)))) c.loop-k.invariant.counted;
}
