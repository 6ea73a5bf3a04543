-- The thread's own record comes first.
use Rattle.std.proofs.Common.{◌≡◌, ◌+◌, ◌<◌, ◌≤◌, Option, Some, sym, ap, ◌∙◌, refl}
use Rattle.leak_stacks.specs.declared.stack.Stack.{Stack}
use Rattle.leak_stacks.specs.Stacks.{or_first, own_stack, stack_of}
use Rattle.leak_stacks.proofs.StackLemmas.{own_has}
use Rattle.leak_stacks.proofs.first.stack_of.Goals as goal

pub returns-in-Some-clause-value : goal.returns-in-Some-clause-value
unfolding stack_of
returns-in-Some-clause-value g c = ap (or_first c.args.thread.now c.args.first) (sym c.in-Some.is ∙ c.own_stack.ensures)

pub returns-in-Some-clause-has : goal.returns-in-Some-clause-has
returns-in-Some-clause-has g c = own_has _ c.args.thread.now c.in-Some.stack (sym c.own_stack.ensures ∙ c.in-Some.is)

pub returns-in-None-clause-value : goal.returns-in-None-clause-value
unfolding stack_of
returns-in-None-clause-value g c = c.if_first.ensures.value ∙ ap (or_first c.args.thread.now c.args.first) (sym c.in-None.is ∙ c.own_stack.ensures)
