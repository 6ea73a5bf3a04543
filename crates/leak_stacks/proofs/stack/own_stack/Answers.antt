-- From the lemmas of MadeLemmas and StackLemmas.
use Rattle.std.proofs.Common.{◌≡◌, ℕ, ◌+◌, ◌%◌, ◌<◌, ◌≤◌, List, Option, sym, ap, ◌∙◌, arith}
use Rattle.leak_elf.specs.Words.{word_of}
use Rattle.leak_stacks.specs.declared.stack.Stack.{Stack}
use Rattle.leak_stacks.specs.declared.stack.Told.{Told}
use Rattle.leak_stacks.specs.Stacks.{made_from, own_stack, stack_at, told_more, told_alone}
use Rattle.leak_stacks.proofs.MadeLemmas.{made_next, made_none, no_word_between}
use Rattle.leak_stacks.proofs.StackLemmas.{ending, ending_more, ending_only, no_stack}
use Rattle.leak_stacks.proofs.stack.own_stack.Goals as goal

pub loop-place-init : goal.loop-place-init
unfolding own_stack
loop-place-init g c = record {
  from = omega arith;
  rest = ending_only (made_from (stack_at (word_of c.args.image.now) c.args.thread.now) c.args.thread.now.fs_base (c.args.thread.now.fs_base + 4096));
}

pub loop-place-preserved : goal.loop-place-preserved
loop-place-preserved g c =
    let w = word_of c.args.image.now in
    let f = stack_at w c.args.thread.now in
    let end = c.args.thread.now.fs_base + 4096 in
    let least = c.in-Some.ensures.least in
    let place = c.in-Some.ensures.place in
    let low : c.loop-place.from ≤ c.in-Some.place = least.0 in
    let fs : c.args.thread.now.fs_base ≤ c.loop-place.from = c.loop-place.invariant.from in
    let multiple : c.in-Some.place % 8 ≡ 0 = place.0 in
    let fits : c.in-Some.place + 8 ≤ 18446744073709551616 = place.1 in
    let later : c.in-Some.place < c.saturating_add-from.result = omega (arith, c.saturating_add-from.ensures) in
    let near : c.saturating_add-from.result ≤ c.in-Some.place + 8 = omega (arith, c.saturating_add-from.ensures) in
    record {
      from = omega arith;
      rest =
          ap (λ (t : Told). ending t (made_from f c.saturating_add-from.result end)) (c.told_more-told.ensures ∙ ap (told_more c.loop-place.told) c.stack_at.ensures)
          ∙ sym (ending_more c.loop-place.told (f c.in-Some.place) (made_from f c.saturating_add-from.result end))
          ∙ ap (ending c.loop-place.told) (sym (made_next f c.loop-place.from c.in-Some.place c.saturating_add-from.result end low least.1 later
          (λ a l m. no_stack w c.args.thread.now a (least.2 a l m))
          (λ a l m. no_stack w c.args.thread.now a (no_word_between c.args.image.now c.in-Some.place c.saturating_add-from.result a multiple near l m))))
          ∙ c.loop-place.invariant.rest;
    }

pub returns : goal.returns
returns g c =
    let w = word_of c.args.image.now in
    let f = stack_at w c.args.thread.now in
    let end = c.args.thread.now.fs_base + 4096 in
    c.told_alone.ensures
    ∙ ap (ending c.loop-place.told) (sym (made_none f c.loop-place.from end (λ a l m. no_stack w c.args.thread.now a (c.in_default.ensures.least a l m))))
    ∙ c.loop-place.invariant.rest
