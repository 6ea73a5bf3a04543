-- From what each call of `read_piece` says.
use Rattle.std.proofs.Common.{subst}
use Rattle.std.proofs.lemmas.Result.{err_from_is_err_and}
use Rattle.leak_passing.specs.Begun.{BeginsWithHead}
use Rattle.leak_passing.specs.Underway.{place}
use Rattle.leak_passing.proofs.HeadLemmas.{nearer}
use Rattle.leak_passing.proofs.begun.find_head.Goals as goal

pub pieces-init : goal.pieces-init
pieces-init g c = λ first has. has

pub returns-in_err-read_piece-clause-refused : goal.returns-in_err-read_piece-clause-refused
returns-in_err-read_piece-clause-refused g c =
    let p = err_from_is_err_and c.from_residual.result c.from_residual.ensures.1 in
    rw (p.1, p.2) (λ first has. c.in_err-read_piece.ensures.refused first (c.pieces.invariant first has))

pub pieces-smaller : goal.pieces-smaller
pieces-smaller g c =
    nearer g.R.ReadCalls.calls c.args.limit (place c.args.reader.now c.args.reading.now c.args.held.now.items) (place c.pieces.reader c.pieces.reading c.pieces.held.items)
    (place c.read_piece.new.reader c.read_piece.new.reading c.read_piece.new.held.items) c.requires c.pieces.invariant
    (c.in_ok-read_piece.ensures.more c.if-branch.true) (c.in_ok-read_piece.ensures.longer c.if-branch.true)

pub pieces-preserved : goal.pieces-preserved
pieces-preserved g c = λ first has. c.in_ok-read_piece.ensures.more c.if-branch.true first (c.pieces.invariant first has)

pub returns-in-Head-clause-found : goal.returns-in-Head-clause-found
returns-in-Head-clause-found g c = (
  λ first has. c.in_ok-read_piece.ensures.more c.if-branch.true first (c.pieces.invariant first has),
  subst (λ bytes. BeginsWithHead bytes c.in-Head.head) c.as_slice.ensures.value c.in-Head.ensures,
)

pub returns-in-Absent-clause-found : goal.returns-in-Absent-clause-found
returns-in-Absent-clause-found g c = λ first has. c.in_ok-read_piece.ensures.more c.if-branch.true first (c.pieces.invariant first has)

pub returns-clause-found : goal.returns-clause-found
returns-clause-found g c = λ first has. c.in_ok-read_piece.ensures.end c.if-branch.false first (c.pieces.invariant first has)
