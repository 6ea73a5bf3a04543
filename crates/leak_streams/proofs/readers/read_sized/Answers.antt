-- From what each call of `next_piece` says.
use Rattle.std.proofs.Common.{[], ◌∙◌, ◌++◌, ◌≡◌, ap}
use Rattle.std.proofs.lemmas.Result.{err_from_is_err_and}
use Rattle.leak_streams.proofs.Taken.{nearer_by_piece, none_yet}
use Rattle.leak_streams.proofs.readers.read_sized.Goals as goal

pub returns-in_err-reading-clause-refused : goal.returns-in_err-reading-clause-refused
returns-in_err-reading-clause-refused g c =
    let p = err_from_is_err_and c.from_residual.result c.from_residual.ensures.1 in
    rw (p.1, p.2) (record { bytes = []; interruptions = 0 }, none_yet _ _ _)

pub returns-in_err-next_piece-clause-refused : goal.returns-in_err-next_piece-clause-refused
returns-in_err-next_piece-clause-refused g c =
    let p = err_from_is_err_and c.from_residual-in_err-next_piece.result c.from_residual-in_err-next_piece.ensures.1 in
    rw (p.1, p.2) (c.in_err-next_piece.ensures.refused _ _ c.pieces.invariant)

pub pieces-smaller : goal.pieces-smaller
pieces-smaller g c =
    let items : c.extend_from_slice.new.self.items ≡ c.pieces.bytes.items ++ c.next_piece.new.self.piece = c.in_ok-extend_from_slice.ensures.items ∙ ap (λ xs. c.pieces.bytes.items ++ xs) c.piece.ensures in
    let has = c.in_ok-next_piece.ensures.more c.if-branch.true _ _ c.pieces.invariant in
    nearer_by_piece _ _ _ _ items (c.in_ok-next_piece.ensures.piece.0 c.if-branch.true) has.few

pub pieces-preserved : goal.pieces-preserved
pieces-preserved g c =
    let items : c.extend_from_slice.new.self.items ≡ c.pieces.bytes.items ++ c.next_piece.new.self.piece = c.in_ok-extend_from_slice.ensures.items ∙ ap (λ xs. c.pieces.bytes.items ++ xs) c.piece.ensures in
    rw items (c.in_ok-next_piece.ensures.more c.if-branch.true _ _ c.pieces.invariant)

pub returns-in_err-extend_from_slice-clause-refused : goal.returns-in_err-extend_from_slice-clause-refused
returns-in_err-extend_from_slice-clause-refused g c =
    let p = err_from_is_err_and c.from_residual-in_err-extend_from_slice.result c.from_residual-in_err-extend_from_slice.ensures.1 in
    let has = c.in_ok-next_piece.ensures.more c.if-branch.true _ _ c.pieces.invariant in
    rw (p.1, p.2) (record { bytes = c.pieces.bytes.items ++ c.next_piece.new.self.piece; interruptions = c.next_piece.new.self.interruptions }, has.come)
