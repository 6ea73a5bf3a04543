-- The spans of the threads of the core.
use Rattle.std.proofs.Common.{◌≡◌, ◌^◌, ℕ, List, Option, ap, subst, ◌∙◌}
use Rattle.std.specs.Result.{IfOk}
use Rattle.leak_elf.specs.Words.{word_of}
use Rattle.leak_blocks.specs.declared.small.Span.{Span}
use Rattle.leak_blocks.specs.Small.{CoverSame}
use Rattle.leak_notes.specs.declared.stacks.StackRegisters.{StackRegisters}
use Rattle.leak_notes.specs.Stacks.{threads_in}
use Rattle.leak_stacks.specs.declared.first.First.{First}
use Rattle.leak_stacks.specs.Stacks.{first_in}
use Rattle.leak_stacks.specs.Dead.{dead_from, dead_spans_of}
use Rattle.leak_stacks.proofs.dead.dead_spans.Goals as goal

pub returns : goal.returns
unfolding dead_spans_of
returns g c =
    let w = word_of c.args.image.now in
    let same : c.in_ok-spans.spans.items ≡ dead_from w (first_in c.args.image.now) (2 ^ 28) (threads_in c.args.image.now) =
    c.in_ok-spans.ensures.value
    ∙ ap (λ (f : Option First). dead_from w f (2 ^ 28) c.deref.result.now) c.in_ok-first.ensures
    ∙ ap (dead_from w (first_in c.args.image.now) (2 ^ 28)) (c.deref.ensures.value ∙ c.in_ok-threads.ensures) in
    subst (λ (spans : List Span). IfOk c.joined.result (λ ranges. CoverSame ranges spans)) same c.joined.ensures
