-- From the lemmas of Gaps, LeftOut, RootPlaces and Found.
use Rattle.std.proofs.Common.{◌∙◌, ap, length, refl}
use Rattle.leak_roots.proofs.Gaps.{are_ordered}
use Rattle.leak_roots.proofs.LeftOut.{all_whole}
use Rattle.leak_roots.proofs.RootPlaces.{root_places_some, freed_places_some}
use Rattle.leak_roots.proofs.Found.{roots_found}
use Rattle.leak_roots.proofs.roots.Roots.find.Goals as goal

pub find_ranges-requires-clause-blocks : goal.find_ranges-requires-clause-blocks
find_ranges-requires-clause-blocks g c = are_ordered _ c.blocks-blocks.ensures.addressed c.blocks-blocks.ensures.disjoint

pub returns-clause-memory : goal.returns-clause-memory
returns-clause-memory g c =
    let kept = rw (c.ranges-spans.ensures.value, c.blocks-blocks.ensures.value) at c.in_ok-found.ensures.kept in
    rw c.found.ensures (all_whole _ _ _ (λ r. refl) kept ∙ root_places_some c.args.unwritable c.args.image.now c.args.live.now.blocks c.args.small.now)

pub returns-clause-freed : goal.returns-clause-freed
returns-clause-freed g c =
    let inside = rw (c.ranges-spans.ensures.value, c.blocks-blocks.ensures.value) at c.in_ok-found.ensures.inside in
    rw c.found.ensures (inside ∙ ap length (freed_places_some c.args.unwritable c.args.image.now c.args.live.now.blocks c.args.small.now))

pub returns-clause-of_core : goal.returns-clause-of_core
returns-clause-of_core g c =
    let kept = rw (c.ranges-spans.ensures.value, c.blocks-blocks.ensures.value) at c.in_ok-found.ensures.kept in
    let inside = rw (c.ranges-spans.ensures.value, c.blocks-blocks.ensures.value) at c.in_ok-found.ensures.inside in
    rw c.found.ensures (roots_found c.args.unwritable c.args.small.now c.args.image.now c.args.threads.now c.args.live.now.blocks _
    (c.in_ok-registers.ensures.items_if_clones_equal (λ x y e. e) ∙ c.registers.ensures)
    (all_whole _ _ _ (λ r. refl) kept) c.in_ok-found.ensures.ranges inside refl refl).of_core
