-- From the lemmas of ScopeLemmas and FromLemmas.
use Rattle.std.proofs.Common.{ℕ, List, [], ◌≡◌, ◌<◌, ◌∙◌, ap, sym, subst, length, arith, ◌+◌}
use Rattle.std.specs.Prelude.{slice_index_or}
use Rattle.leak_blocks.specs.declared.block.Block.{Block}
use Rattle.leak_roots.specs.declared.piece.Piece.{Piece}
use Rattle.leak_roots.specs.Cut.{pieces_of}
use Rattle.leak_roots.specs.Pieces.{AreCut}
use Rattle.leak_pool.specs.declared.start.Part.{Part}
use Rattle.leak_pool.specs.Scopes.{AreParts, root_targets, all_targets}
use Rattle.leak_pool.specs.Rounds.{IsMarked, graph_over}
use Rattle.leak_pool.specs.Marking.{lists_of}
use Rattle.leak_pool.specs.Course.{HaveGone, HaveLed}
use Rattle.leak_pool.proofs.ScopeLemmas.{long_all, long_roots}
use Rattle.leak_pool.proofs.FromLemmas.{parts_inside, marks_from}
use Rattle.leak_pool.proofs.DepthOfCores.{depth_from}
use Rattle.leak_pool.proofs.marking.mark_from.Goals as goal
use Rattle.leak_marks.proofs.ElementLemmas.{has_at}

pub invariant_of-scope : goal.invariant_of-scope
invariant_of-scope g c =
    let e = ap (λ (l : List Block). length l) c.in_ok-blocks.ensures.blocks in
    let f = c.in_ok-blocks.ensures.few in record {
      of_live = c.requires.blocks;
      same = c.requires.blocks ∙ sym c.in_ok-blocks.ensures.blocks;
      few = omega arith;
      in_roots = c.in_ok-pieces.ensures.cut.each;
      in_blocks = subst (λ (n : ℕ). AreParts n c.as_slice.result.now) (sym e)
          (subst (λ (l : List (ℕ × Part)). AreParts (length c.args.live.now.blocks) l) (sym c.as_slice.ensures.value)
          (parts_inside (length c.args.live.now.blocks) c.args.start.now.marked.items c.args.start.now.rescan.items c.requires.start.inside c.requires.start.rescan));
    }

pub mark_by_rounds-requires-after_bounds : goal.mark_by_rounds-requires-after_bounds
mark_by_rounds-requires-after_bounds g c κs within k d h =
    let w = g.W.Words.word_at c.args.words.now in let i = g.L.Lookup.index c.args.lookup.now in
    let v : c.as_slice-2.result.now ≡ c.args.start.now.marked.items = c.as_slice-2.ensures.value in
    let b = c.requires.start.inside (slice_index_or c.args.start.now.marked.items k d) (has_at c.args.start.now.marked.items k d (subst (λ (l : List ℕ). k < length l) v h)) in
    let e = ap (λ (l : List Block). length l) c.requires.blocks in
    let l = long_all w i in
    subst (λ (l : List ℕ). slice_index_or l k d < length (all_targets w i)) (sym v) (omega (arith, b, e, l))

pub returns-clause-marks : goal.returns-clause-marks
returns-clause-marks g c =
    let w = g.W.Words.word_at c.args.words.now in let i = g.L.Lookup.index c.args.lookup.now in
    let m = c.in_ok-mark_by_rounds.field-0 in let s = c.args.start.now in
    let a : IsMarked (graph_over (root_targets w i c.args.roots.now c.in_ok-pieces.pieces c.args.pages.now c.as_slice.result.now) (all_targets w i) c.as_slice-2.result.now) (length (all_targets w i)) c.args.plan.workers m.set.items (lists_of m) m.rounds = c.in_ok-mark_by_rounds.ensures.marks in
    let d : IsMarked (graph_over (root_targets w i c.args.roots.now c.in_ok-pieces.pieces c.args.pages.now s.rescan.items) (all_targets w i) c.as_slice-2.result.now) (length (all_targets w i)) c.args.plan.workers m.set.items (lists_of m) m.rounds =
    subst (λ (l : List (ℕ × Part)). IsMarked (graph_over (root_targets w i c.args.roots.now c.in_ok-pieces.pieces c.args.pages.now l) (all_targets w i) c.as_slice-2.result.now) (length (all_targets w i)) c.args.plan.workers m.set.items (lists_of m) m.rounds) c.as_slice.ensures.value a in
    let e : IsMarked (graph_over (root_targets w i c.args.roots.now c.in_ok-pieces.pieces c.args.pages.now s.rescan.items) (all_targets w i) s.marked.items) (length (all_targets w i)) c.args.plan.workers m.set.items (lists_of m) m.rounds =
    subst (λ (l : List ℕ). IsMarked (graph_over (root_targets w i c.args.roots.now c.in_ok-pieces.pieces c.args.pages.now s.rescan.items) (all_targets w i) l) (length (all_targets w i)) c.args.plan.workers m.set.items (lists_of m) m.rounds) c.as_slice-2.ensures.value d in
    marks_from w i c.args.roots.now c.in_ok-pieces.pieces c.args.pages.now s c.args.plan.workers c.args.plan.piece m c.in_ok-pieces.ensures.cut e

pub returns-clause-course : goal.returns-clause-course
returns-clause-course g c =
    let w = g.W.Words.word_at c.args.words.now in let i = g.L.Lookup.index c.args.lookup.now in
    let m = c.in_ok-mark_by_rounds.field-0 in let l = long_all w i in (
      c.in_ok-pieces.pieces,
      c.in_ok-pieces.ensures.cut,
      λ some. subst (λ (l : List (ℕ × Part)). HaveLed (root_targets w i c.args.roots.now c.in_ok-pieces.pieces c.args.pages.now l) (all_targets w i) c.args.plan.workers c.args.plan.stack m.rounds (lists_of m) []) c.as_slice.ensures.value
          (c.in_ok-mark_by_rounds.ensures.course (omega (arith, l, some))),
    )

pub returns-clause-depth : goal.returns-clause-depth
returns-clause-depth g c zero blocks =
    let w = g.W.Words.word_at c.args.words.now in let i = g.L.Lookup.index c.args.lookup.now in
    let e = ap (λ (l : List Block). length l) c.requires.blocks in
    depth_from w i c.args.roots.now c.args.pages.now c.args.start.now c.args.plan c.in_ok-mark_by_rounds.field-0 zero (omega (arith, e, blocks)) (returns-clause-course g c) (returns-clause-marks g c)

pub returns-clause-gate : goal.returns-clause-gate
returns-clause-gate g c =
    let w = g.W.Words.word_at c.args.words.now in let i = g.L.Lookup.index c.args.lookup.now in
    let passed : ℕ → ℕ → Type 0 = g.G.Gate.passed c.args.gate.now in
    let plan = c.args.plan in let m = c.in_ok-mark_by_rounds.field-0 in
    let again : List (ℕ × Part) = c.args.start.now.rescan.items in
    let pieces : List Piece = pieces_of plan.piece c.args.roots.now in
    let cut : c.in_ok-pieces.pieces ≡ pieces = c.in_ok-pieces.ensures.value in
    let first : ℕ = length pieces + length again in
    let count : length (root_targets w i c.args.roots.now c.in_ok-pieces.pieces c.args.pages.now c.as_slice.result.now) ≡ first =
    long_roots w i c.args.roots.now c.in_ok-pieces.pieces c.args.pages.now c.as_slice.result.now
    ∙ ap (λ (l : List Piece). length l + length c.as_slice.result.now) cut
    ∙ ap (λ (l : List (ℕ × Part)). length pieces + length l) c.as_slice.ensures.value in
    let l = long_all w i in (
      subst (λ (p : List Piece). AreCut c.args.roots.now plan.piece p) cut c.in_ok-pieces.ensures.cut,
      λ some.
          subst (λ (p : List Piece). HaveGone passed first (root_targets w i c.args.roots.now p c.args.pages.now again) (all_targets w i) plan.workers plan.stack m.rounds (lists_of m) []) cut
          (subst (λ (l : List (ℕ × Part)). HaveGone passed first (root_targets w i c.args.roots.now c.in_ok-pieces.pieces c.args.pages.now l) (all_targets w i) plan.workers plan.stack m.rounds (lists_of m) []) c.as_slice.ensures.value
          (subst (λ (n : ℕ). HaveGone passed n (root_targets w i c.args.roots.now c.in_ok-pieces.pieces c.args.pages.now c.as_slice.result.now) (all_targets w i) plan.workers plan.stack m.rounds (lists_of m) []) count
          (c.in_ok-mark_by_rounds.ensures.gate (omega (arith, l, some))))),
    )
