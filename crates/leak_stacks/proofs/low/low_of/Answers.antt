-- From the lemmas of MadeLemmas and StackLemmas.
use Rattle.std.proofs.Common.{◌≡◌, ℕ, ◌+◌, ◌%◌, ◌<◌, ◌≤◌, List, Option, sym, ap, ◌∙◌, arith}
use Rattle.leak_elf.specs.Words.{word_of}
use Rattle.leak_stacks.specs.Stacks.{made_from}
use Rattle.leak_stacks.specs.Lows.{frame_at, low_of, lower, lowest}
use Rattle.leak_stacks.proofs.MadeLemmas.{made_next, made_none, no_word_between}
use Rattle.leak_stacks.proofs.StackLemmas.{lowest_more, no_frame}
use Rattle.leak_stacks.proofs.low.low_of.Goals as goal

pub loop-place-init : goal.loop-place-init
unfolding low_of
loop-place-init g c = record {
  from = omega arith;
  rest = ap (λ (n : ℕ). lowest n (made_from (frame_at (word_of c.args.image.now) c.args.stack.now c.args.thread.now.sp) c.args.thread.now.sp (c.args.stack.now.begin + c.args.stack.now.size))) c.red_low-low.ensures;
}

pub loop-place-preserved : goal.loop-place-preserved
loop-place-preserved g c =
    let w = word_of c.args.image.now in
    let f = frame_at w c.args.stack.now c.args.thread.now.sp in
    let end = c.args.stack.now.begin + c.args.stack.now.size in
    let least = c.in-Some.ensures.least in
    let place = c.in-Some.ensures.place in
    let low : c.loop-place.from ≤ c.in-Some.place = least.0 in
    let sp : c.args.thread.now.sp ≤ c.loop-place.from = c.loop-place.invariant.from in
    let multiple : c.in-Some.place % 8 ≡ 0 = place.0 in
    let fits : c.in-Some.place + 8 ≤ 18446744073709551616 = place.1 in
    let later : c.in-Some.place < c.saturating_add-from.result = omega (arith, c.saturating_add-from.ensures) in
    let near : c.saturating_add-from.result ≤ c.in-Some.place + 8 = omega (arith, c.saturating_add-from.ensures) in
    record {
      from = omega arith;
      rest =
          ap (λ (n : ℕ). lowest n (made_from f c.saturating_add-from.result end)) (c.lower-low.ensures ∙ ap (lower c.loop-place.low) c.frame_at.ensures)
          ∙ sym (lowest_more c.loop-place.low (f c.in-Some.place) (made_from f c.saturating_add-from.result end))
          ∙ ap (lowest c.loop-place.low) (sym (made_next f c.loop-place.from c.in-Some.place c.saturating_add-from.result end low least.1 later
          (λ a l m. no_frame w c.args.stack.now c.args.thread.now.sp a (least.2 a l m))
          (λ a l m. no_frame w c.args.stack.now c.args.thread.now.sp a (no_word_between c.args.image.now c.in-Some.place c.saturating_add-from.result a multiple near l m))))
          ∙ c.loop-place.invariant.rest;
    }

pub returns : goal.returns
returns g c =
    let w = word_of c.args.image.now in
    let f = frame_at w c.args.stack.now c.args.thread.now.sp in
    let end = c.args.stack.now.begin + c.args.stack.now.size in
    ap (lowest c.loop-place.low) (sym (made_none f c.loop-place.from end (λ a l m. no_frame w c.args.stack.now c.args.thread.now.sp a (c.in_default.ensures.least a l m))))
    ∙ c.loop-place.invariant.rest
