-- From what a call of `next_piece` says.
use Rattle.std.proofs.Common.{◌≡◌, ◌<◌, ◌++◌, ◌∙◌, ap, length, length-append, arith}
use Rattle.std.proofs.lemmas.Result.{err_from_is_err_and}
use Rattle.leak_passing.proofs.begun.read_piece.Goals as goal

pub returns-in_err-more-clause-refused : goal.returns-in_err-more-clause-refused
returns-in_err-more-clause-refused g c =
    let p = err_from_is_err_and c.from_residual.result c.from_residual.ensures.1 in
    rw (p.1, p.2) (λ first has. c.in_err-more.ensures.refused first c.args.held.now.items has)

pub returns-then-not-more-clause-end : goal.returns-then-not-more-clause-end
returns-then-not-more-clause-end g c = λ _ first has. c.in_ok-more.ensures.end c.if-not-more.true first c.args.held.now.items has

pub returns-in_err-extend_from_slice-clause-refused : goal.returns-in_err-extend_from_slice-clause-refused
returns-in_err-extend_from_slice-clause-refused g c =
    let p = err_from_is_err_and c.from_residual-in_err-extend_from_slice.result c.from_residual-in_err-extend_from_slice.ensures.1 in
    rw (p.1, p.2) (λ first has.
    let come = (c.in_ok-more.ensures.more c.if-not-more.false first c.args.held.now.items has).come in
    (record { bytes = c.args.held.now.items ++ c.next_piece.new.self.piece; interruptions = c.next_piece.new.self.interruptions }, come))

pub returns-clause-more : goal.returns-clause-more
returns-clause-more g c =
    let items : c.extend_from_slice.new.self.items ≡ c.args.held.now.items ++ c.next_piece.new.self.piece = c.in_ok-extend_from_slice.ensures.items ∙ ap (λ xs. c.args.held.now.items ++ xs) c.piece.ensures in
    λ _ first has. rw items (c.in_ok-more.ensures.more c.if-not-more.false first c.args.held.now.items has)

pub returns-clause-longer : goal.returns-clause-longer
returns-clause-longer g c =
    let items : c.extend_from_slice.new.self.items ≡ c.args.held.now.items ++ c.next_piece.new.self.piece = c.in_ok-extend_from_slice.ensures.items ∙ ap (λ xs. c.args.held.now.items ++ xs) c.piece.ensures in
    let some : 0 < length c.next_piece.new.self.piece = c.in_ok-more.ensures.piece.0 c.if-not-more.false in
    λ _. rw items (omega (arith, some, length-append c.args.held.now.items c.next_piece.new.self.piece))
