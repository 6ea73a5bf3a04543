-- From the lemmas of FromLemmas.
use Rattle.std.proofs.Common.{◌∙◌, List, length, ap, sym, arith, ◌≡◌, ◌+◌, ℕ, [], subst}
use Rattle.leak_blocks.specs.declared.block.Block.{Block}
use Rattle.leak_pool.proofs.DepthOfCores.{depth_of_roots}
use Rattle.leak_roots.specs.declared.piece.Piece.{Piece}
use Rattle.leak_roots.specs.Cut.{pieces_of}
use Rattle.leak_roots.specs.Pieces.{AreCut}
use Rattle.leak_pool.specs.Course.{HaveGone}
use Rattle.leak_pool.specs.Marking.{lists_of}
use Rattle.leak_pool.specs.Scopes.{root_targets, all_targets}
use Rattle.leak_pool.proofs.ScopeLemmas.{long_all, long_roots}
use Rattle.leak_pool.proofs.FromLemmas.{marks_of_pieces}
use Rattle.leak_pool.proofs.marking_by_edges.mark_by_edges.Goals as goal

pub invariant_of-scope : goal.invariant_of-scope
invariant_of-scope g c =
    let e = ap (λ (l : List Block). length l) c.in_ok-blocks.ensures.blocks in
    let f = c.in_ok-blocks.ensures.few in record {
      of_live = c.requires;
      same = c.requires ∙ sym c.in_ok-blocks.ensures.blocks;
      few = omega arith;
      in_roots = c.in_ok-pieces.ensures.cut.each;
      in_blocks = tt;
    }

pub returns-clause-marks : goal.returns-clause-marks
returns-clause-marks g c =
    let w = g.W.Words.word_at c.args.words.now in let i = g.L.Lookup.index c.args.lookup.now in
    let m = c.in_ok-marked.marked in
    marks_of_pieces w i c.args.roots.now c.in_ok-pieces.pieces c.unwrap-pages.result c.args.plan.workers c.args.plan.piece m c.in_ok-pieces.ensures.cut
    c.in_ok-marked.ensures.marks

pub returns-clause-course : goal.returns-clause-course
returns-clause-course g c =
    let w = g.W.Words.word_at c.args.words.now in let i = g.L.Lookup.index c.args.lookup.now in
    let l = long_all w i in (c.in_ok-pieces.pieces, c.in_ok-pieces.ensures.cut, λ some. c.in_ok-marked.ensures.course (omega (arith, l, some)))

pub returns-clause-depth : goal.returns-clause-depth
returns-clause-depth g c zero blocks =
    let w = g.W.Words.word_at c.args.words.now in let i = g.L.Lookup.index c.args.lookup.now in
    let e = ap (λ (l : List Block). length l) c.requires in
    depth_of_roots w i c.args.roots.now c.args.plan c.in_ok-marked.marked zero (omega (arith, e, blocks)) (returns-clause-course g c) (returns-clause-marks g c)

pub returns-clause-gate : goal.returns-clause-gate
returns-clause-gate g c =
    let w = g.W.Words.word_at c.args.words.now in let i = g.L.Lookup.index c.args.lookup.now in
    let passed : ℕ → ℕ → Type 0 = g.G.Gate.passed c.args.gate.now in
    let plan = c.args.plan in let m = c.in_ok-marked.marked in
    let pieces : List Piece = pieces_of plan.piece c.args.roots.now in
    let cut : c.in_ok-pieces.pieces ≡ pieces = c.in_ok-pieces.ensures.value in
    let all = long_roots w i c.args.roots.now c.in_ok-pieces.pieces c.unwrap-pages.result [] in
    let value : length c.in_ok-pieces.pieces ≡ length pieces = ap (λ (l : List Piece). length l) cut in
    let first : ℕ = length pieces + 0 in
    let count : length (root_targets w i c.args.roots.now c.in_ok-pieces.pieces c.unwrap-pages.result []) ≡ first = omega arith in
    let l = long_all w i in (
      subst (λ (p : List Piece). AreCut c.args.roots.now plan.piece p) cut c.in_ok-pieces.ensures.cut,
      λ some.
          subst (λ (p : List Piece). HaveGone passed first (root_targets w i c.args.roots.now p c.unwrap-pages.result []) (all_targets w i) plan.workers plan.stack m.rounds (lists_of m) []) cut
          (subst (λ (n : ℕ). HaveGone passed n (root_targets w i c.args.roots.now c.in_ok-pieces.pieces c.unwrap-pages.result []) (all_targets w i) plan.workers plan.stack m.rounds (lists_of m) []) count
          (c.in_ok-marked.ensures.gate (omega (arith, l, some)))),
    )
