-- From the lemmas of ReplayingLemmas.
use Rattle.std.proofs.Common.{◌++◌, ℕ, List, [], Bool, refl, sym, subst, append-nil}
use Rattle.std.proofs.lemmas.Result.{err_from_is_err_and}
use Rattle.leak_streams.specs.Reads.{IsReadWhole}
use Rattle.leak_replaying.specs.Replaying.{HasReadTo}
use Rattle.leak_replaying.proofs.ReplayingLemmas.{given_up, nearer_by_piece, none_more, piece_more}
use Rattle.leak_replaying.proofs.replaying.read_rest.Goals as goal

pub returns-then-log-clause-ok : goal.returns-then-log-clause-ok
returns-then-log-clause-ok g c = (
  [],
  λ first bytes has.
      subst (λ (l : List ℕ). IsReadWhole g.R.ReadCalls.calls c.args.limit first c.args.reader.now l) (sym (append-nil bytes))
      (subst (λ (t : Bool). HasReadTo g.R.ReadCalls.calls c.args.limit first c.args.reader.now c.args.log.reading t bytes) c.if-log.true has),
)

pub pieces-init : goal.pieces-init
pieces-init g c = ([], none_more _ _ _ _ _)

pub returns-in_err-next_piece-clause-refused : goal.returns-in_err-next_piece-clause-refused
returns-in_err-next_piece-clause-refused g c =
    let p = err_from_is_err_and c.from_residual.result c.from_residual.ensures.1 in
    rw (p.1, p.2) (λ first bytes has.
    given_up _ _ _ _ _ _ _ _ c.pieces.invariant.1 _ _ c.in_err-next_piece.ensures.refused first bytes
    (subst (λ (t : Bool). HasReadTo g.R.ReadCalls.calls c.args.limit first c.args.reader.now c.args.log.reading t bytes) c.if-log.false has))

pub pieces-smaller : goal.pieces-smaller
pieces-smaller g c =
    let has = subst (λ (t : Bool). HasReadTo g.R.ReadCalls.calls c.args.limit c.requires.0 c.args.reader.now c.args.log.reading t c.requires.1) c.if-log.false c.requires.2 in
    nearer_by_piece _ _ _ _ _ _ _ _ c.pieces.invariant.1 _ _ c.requires.0 c.requires.1 has (c.in_ok-next_piece.ensures.more c.if-branch.true)
    c.next_piece.ensures.taken (c.in_ok-next_piece.ensures.piece.0 c.if-branch.true)

pub pieces-preserved : goal.pieces-preserved
pieces-preserved g c =
    (c.pieces.invariant.0 ++ c.next_piece.new.self.piece, piece_more _ _ _ _ _ _ _ _ c.pieces.invariant.1 _ _ _ (c.in_ok-next_piece.ensures.more c.if-branch.true) refl)

pub returns-clause-ok : goal.returns-clause-ok
returns-clause-ok g c = (
  c.pieces.invariant.1.more,
  λ first bytes has.
      c.in_ok-next_piece.ensures.end c.if-branch.false first (bytes ++ c.pieces.invariant.1.more)
      (c.pieces.invariant.1.come first bytes
      (subst (λ (t : Bool). HasReadTo g.R.ReadCalls.calls c.args.limit first c.args.reader.now c.args.log.reading t bytes) c.if-log.false has)).0,
)
