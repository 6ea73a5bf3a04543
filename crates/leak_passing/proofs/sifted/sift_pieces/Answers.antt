-- From the lemmas of PieceLemmas.
use Rattle.std.proofs.Common.{◌++◌, []}
use Rattle.std.proofs.lemmas.Result.{err_from_is_err_and}
use Rattle.leak_passing.proofs.PieceLemmas.{all_sifted, more_sifted, nearer_by_piece, none_sifted, rest_lost}
use Rattle.leak_passing.proofs.sifted.sift_pieces.Goals as goal

pub pieces-init : goal.pieces-init
pieces-init g c = ([], none_sifted _ _ _ _ _ _ c.in_ok-ahead.ensures)

pub returns-in_err-ahead-clause-refused : goal.returns-in_err-ahead-clause-refused
returns-in_err-ahead-clause-refused g c =
    let p = err_from_is_err_and c.from_residual.result c.from_residual.ensures.1 in
    rw (p.1, p.2) (λ first bytes has. (_, has.come))

pub returns-in_err-sift_and_read-clause-refused : goal.returns-in_err-sift_and_read-clause-refused
returns-in_err-sift_and_read-clause-refused g c =
    let p = err_from_is_err_and c.from_residual-in_err-sift_and_read.result c.from_residual-in_err-sift_and_read.ensures.1 in
    rw (p.1, p.2) (rest_lost _ _ _ _ _ _ _ _ _ c.pieces.invariant.1 _ _ c.in_err-sift_and_read.ensures.refused)

pub pieces-smaller : goal.pieces-smaller
pieces-smaller g c =
    nearer_by_piece _ _ _ _ _ _ _ _ _ c.pieces.invariant.1 _ _ _ _ c.in_ok-sift_and_read.ensures.ok c.requires.0 c.requires.1 c.requires.2 c.if-branch.true

pub pieces-preserved : goal.pieces-preserved
pieces-preserved g c = (
  c.pieces.invariant.0 ++ c.pieces.ahead.piece,
  more_sifted _ _ _ _ _ _ _ _ _ c.pieces.invariant.1 _ _ _ _ c.in_ok-sift_and_read.ensures.ok c.if-branch.true,
)

pub returns-clause-ok : goal.returns-clause-ok
returns-clause-ok g c = (
  c.pieces.invariant.0 ++ c.pieces.ahead.piece,
  all_sifted _ _ _ _ _ _ _ _ _ c.pieces.invariant.1 _ _ _ _ c.in_ok-sift_and_read.ensures.ok c.if-branch.false,
)
