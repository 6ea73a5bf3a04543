-- From the lemmas of RootPlaces.
use Rattle.std.proofs.Common.{ap, ◌∙◌, filter, length, not}
use Rattle.leak_roots.specs.Places.{Places, memory_places}
use Rattle.leak_roots.specs.Roots.{is_inside}
use Rattle.leak_roots.proofs.RootPlaces.{roots_without_dead}
use Rattle.leak_roots.proofs.roots.Roots.skip_dead.Goals as goal

pub returns-clause-of_core : goal.returns-clause-of_core
returns-clause-of_core c = λ left file blocks others same roots.
    roots_without_dead left file blocks c.args.dead.now others c.args.self _ same roots
    (ap (λ (p : Places). p.registers) c.self.view_is)
    (c.in_ok-memory.ensures.places ∙ ap (λ (p : Places). filter (λ a. not (is_inside c.args.dead.now a)) (memory_places p.memory)) c.self.view_is)
    c.in_ok-memory.ensures.ranges
    (ap (λ (p : Places). p.freed) c.self.view_is)
    (c.in_ok-memory.ensures.inside ∙ ap (λ (p : Places). length (filter (is_inside c.args.dead.now) (memory_places p.memory))) c.self.view_is)
