-- From the lemmas of ReplayingLemmas.
use Rattle.std.proofs.Common.{◌∙◌, ◌++◌, ap, arith}
use Rattle.std.proofs.lemmas.Result.{err_from_is_err_and}
use Rattle.leak_replaying.proofs.ReplayingLemmas.{all_held, given_up, given_up_next, nearer_by_piece, none_more, piece_more, taken_more}
use Rattle.leak_replaying.proofs.log_so_far.read_pieces.Goals as goal

pub pieces-init : goal.pieces-init
pieces-init g c = none_more _ _ _ _ _

pub returns-in_err-next_piece-clause-refused : goal.returns-in_err-next_piece-clause-refused
returns-in_err-next_piece-clause-refused g c =
    let p = err_from_is_err_and c.from_residual.result c.from_residual.ensures.1 in
    rw (p.1, p.2) (given_up _ _ _ _ _ _ _ _ c.pieces.invariant _ _ c.in_err-next_piece.ensures.refused)

pub returns-in_err-extend_from_slice-clause-refused : goal.returns-in_err-extend_from_slice-clause-refused
returns-in_err-extend_from_slice-clause-refused g c =
    let p = err_from_is_err_and c.from_residual-in_err-extend_from_slice.result c.from_residual-in_err-extend_from_slice.ensures.1 in
    rw (p.1, p.2) (given_up_next _ _ _ _ _ _ _ _ c.pieces.invariant _ _ (c.in_ok-next_piece.ensures.more c.if-branch.true))

pub returns-then-is_some-clause-ok : goal.returns-then-is_some-clause-ok
returns-then-is_some-clause-ok g c =
    piece_more _ _ _ _ _ _ _ _ c.pieces.invariant _ _ _ (c.in_ok-next_piece.ensures.more c.if-branch.true)
    (c.in_ok-extend_from_slice.ensures.items ∙ ap (λ l. c.pieces.held.items ++ l) c.piece-piece.ensures)

pub returns-then-is_some-clause-nearer : goal.returns-then-is_some-clause-nearer
returns-then-is_some-clause-nearer g c =
    let less = nearer_by_piece _ _ _ _ _ _ _ _ c.pieces.invariant _ _ c.requires.0 c.requires.1 c.requires.2 (c.in_ok-next_piece.ensures.more c.if-branch.true)
    c.next_piece.ensures.taken (c.in_ok-next_piece.ensures.piece.0 c.if-branch.true) in
    let most = taken_more _ _ _ _ _ _ _ _ c.pieces.invariant c.requires.0 c.requires.1 c.requires.2 in
    omega (arith, less, most)

pub pieces-smaller : goal.pieces-smaller
pieces-smaller g c =
    nearer_by_piece _ _ _ _ _ _ _ _ c.pieces.invariant _ _ c.requires.0 c.requires.1 c.requires.2 (c.in_ok-next_piece.ensures.more c.if-branch.true)
    c.next_piece.ensures.taken (c.in_ok-next_piece.ensures.piece.0 c.if-branch.true)

pub pieces-preserved : goal.pieces-preserved
pieces-preserved g c =
    piece_more _ _ _ _ _ _ _ _ c.pieces.invariant _ _ _ (c.in_ok-next_piece.ensures.more c.if-branch.true)
    (c.in_ok-extend_from_slice.ensures.items ∙ ap (λ l. c.pieces.held.items ++ l) c.piece-piece.ensures)

pub returns-clause-ok : goal.returns-clause-ok
returns-clause-ok g c = all_held _ _ _ _ _ _ _ _ c.pieces.invariant _ _ (c.in_ok-next_piece.ensures.end c.if-branch.false)

pub returns-clause-nearer : goal.returns-clause-nearer
returns-clause-nearer g c =
    let most = taken_more _ _ _ _ _ _ _ _ c.pieces.invariant c.requires.0 c.requires.1 c.requires.2 in
    omega (arith, most, c.next_piece.ensures.taken)
