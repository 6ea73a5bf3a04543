-- What the address AT_RANDOM and the segments give.
use Rattle.std.proofs.Common.{◌≡◌, ℕ, List, Option, Some, None, sym, ap, ◌∙◌, refl}
use Rattle.std.specs.Prelude.{option_and_then}
use Rattle.leak_elf.specs.declared.segment.Segment.{Segment}
use Rattle.leak_elf.specs.Segments.{segments_of}
use Rattle.leak_notes.specs.Stacks.{random_of}
use Rattle.leak_stacks.specs.Stacks.{first_at, first_in}
use Rattle.leak_stacks.proofs.first.first_in.Goals as goal

pub returns-in-Some : goal.returns-in-Some
unfolding first_in
returns-in-Some g c =
    c.first_at.ensures
    ∙ ap (λ (ss : List Segment). first_at ss c.in-Some.random) c.segments.ensures.segments
    ∙ ap (option_and_then (first_at (segments_of c.args.image.now))) (sym c.in-Some.is ∙ c.in_ok-random.ensures)

pub returns-in-None : goal.returns-in-None
unfolding first_in
returns-in-None g c = ap (option_and_then (first_at (segments_of c.args.image.now))) (sym c.in-None.is ∙ c.in_ok-random.ensures)
