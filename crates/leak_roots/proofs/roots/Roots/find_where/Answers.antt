-- From the lemmas of Gaps and Found.
use Rattle.std.proofs.Common.{◌∙◌, refl}
use Rattle.leak_roots.proofs.Gaps.{are_ordered}
use Rattle.leak_roots.proofs.Found.{roots_found}
use Rattle.leak_roots.proofs.roots.Roots.find_where.Goals as goal

pub find_ranges-requires-clause-blocks : goal.find_ranges-requires-clause-blocks
find_ranges-requires-clause-blocks g c = are_ordered _ c.blocks-blocks.ensures.addressed c.blocks-blocks.ensures.disjoint

pub returns-clause-found : goal.returns-clause-found
returns-clause-found g c =
    let kept' = rw (c.ranges-spans.ensures.value, c.blocks-blocks.ensures.value) at c.in_ok-found.ensures.kept in
    let inside = rw (c.ranges-spans.ensures.value, c.blocks-blocks.ensures.value) at c.in_ok-found.ensures.inside in
    rw c.found.ensures (record {
      all = kept'.all;
      found = roots_found c.args.excluded.now.unwritable c.args.excluded.now.small.now c.args.image.now c.args.threads.now c.args.live.now.blocks _
          (c.in_ok-registers.ensures.items_if_clones_equal (λ x y e. e) ∙ c.registers.ensures)
          kept'.whole kept'.ranges inside refl refl;
      kept = kept'.memory;
    })
