-- The reading begins with the reader as it was.
use Rattle.std.proofs.Common.{sym, subst}
use Rattle.std.proofs.lemmas.Result.{err_from_is_err_and, IfErr-weaker, IfOk-weaker}
use Rattle.leak_streams.specs.Pieces.{HasComeTo}
use Rattle.leak_streams.proofs.Taken.{none_yet}
use Rattle.leak_passing.proofs.begun.begin_core.Goals as goal

pub returns-in_err-whole-clause-refused : goal.returns-in_err-whole-clause-refused
returns-in_err-whole-clause-refused g c =
    let p = err_from_is_err_and c.from_residual.result c.from_residual.ensures.1 in
    rw (p.1, p.2) (c.in_err-whole.ensures.refused)

pub returns-in_err-reading-clause-refused : goal.returns-in_err-reading-clause-refused
returns-in_err-reading-clause-refused g c =
    let p = err_from_is_err_and c.from_residual-in_err-reading.result c.from_residual-in_err-reading.ensures.1 in
    rw (p.1, p.2) (_, none_yet g.R.ReadCalls.calls c.args.limit c.args.reader.now)

pub find_head-requires : goal.find_head-requires
find_head-requires g c = (
  c.args.reader.now,
  subst (λ bytes. HasComeTo g.R.ReadCalls.calls c.args.limit c.args.reader.now c.args.reader.now c.in_ok-reading.reading bytes) (sym c.new-held.ensures.items)
      (c.in_ok-reading.ensures.come c.args.limit c.args.reader.now),
)

pub returns-in_err-search-clause-refused : goal.returns-in_err-search-clause-refused
returns-in_err-search-clause-refused g c =
    let p = err_from_is_err_and c.from_residual-in_err-search.result c.from_residual-in_err-search.ensures.1 in
    let has = subst (λ bytes. HasComeTo g.R.ReadCalls.calls c.args.limit c.args.reader.now c.args.reader.now c.in_ok-reading.reading bytes) (sym c.new-held.ensures.items)
    (c.in_ok-reading.ensures.come c.args.limit c.args.reader.now) in
    rw (p.1, p.2) (c.in_err-search.ensures.refused c.args.reader.now has)

pub returns-in-End-clause-ok : goal.returns-in-End-clause-ok
returns-in-End-clause-ok g c =
    let has = subst (λ bytes. HasComeTo g.R.ReadCalls.calls c.args.limit c.args.reader.now c.args.reader.now c.in_ok-reading.reading bytes) (sym c.new-held.ensures.items)
    (c.in_ok-reading.ensures.come c.args.limit c.args.reader.now) in
    (rw c.in-End.is at c.in_ok-search.ensures.found) c.args.reader.now has

pub begin_at-requires-clause-begun : goal.begin_at-requires-clause-begun
begin_at-requires-clause-begun g c =
    let has = subst (λ bytes. HasComeTo g.R.ReadCalls.calls c.args.limit c.args.reader.now c.args.reader.now c.in_ok-reading.reading bytes) (sym c.new-held.ensures.items)
    (c.in_ok-reading.ensures.come c.args.limit c.args.reader.now) in
    (c.args.reader.now, (rw c.in-Head.is at c.in_ok-search.ensures.found).0 c.args.reader.now has)

pub begin_at-requires-clause-head : goal.begin_at-requires-clause-head
begin_at-requires-clause-head g c = (rw c.in-Head.is at c.in_ok-search.ensures.found).1

pub returns-in-Head-clause-ok : goal.returns-in-Head-clause-ok
returns-in-Head-clause-ok g c =
    let has = subst (λ bytes. HasComeTo g.R.ReadCalls.calls c.args.limit c.args.reader.now c.args.reader.now c.in_ok-reading.reading bytes) (sym c.new-held.ensures.items)
    (c.in_ok-reading.ensures.come c.args.limit c.args.reader.now) in
    let there = (rw c.in-Head.is at c.in_ok-search.ensures.found).0 c.args.reader.now has in
    IfOk-weaker c.begin_at.result _ _ (λ begun is. is c.args.reader.now c.args.skip c.if-skip.false there) c.begin_at.ensures.ok

pub returns-in-Head-clause-refused : goal.returns-in-Head-clause-refused
returns-in-Head-clause-refused g c =
    let has = subst (λ bytes. HasComeTo g.R.ReadCalls.calls c.args.limit c.args.reader.now c.args.reader.now c.in_ok-reading.reading bytes) (sym c.new-held.ensures.items)
    (c.in_ok-reading.ensures.come c.args.limit c.args.reader.now) in
    let there = (rw c.in-Head.is at c.in_ok-search.ensures.found).0 c.args.reader.now has in
    IfErr-weaker c.begin_at.result _ _ (λ f up. up c.args.reader.now there) c.begin_at.ensures.refused

pub read_to_end-requires : goal.read_to_end-requires
read_to_end-requires g c =
    let has = subst (λ bytes. HasComeTo g.R.ReadCalls.calls c.args.limit c.args.reader.now c.args.reader.now c.in_ok-reading.reading bytes) (sym c.new-held.ensures.items)
    (c.in_ok-reading.ensures.come c.args.limit c.args.reader.now) in
    (c.args.reader.now, (rw c.in-Absent.is at c.in_ok-search.ensures.found) c.args.reader.now has)

pub returns-in_err-bytes-in-Absent-clause-refused : goal.returns-in_err-bytes-in-Absent-clause-refused
returns-in_err-bytes-in-Absent-clause-refused g c =
    let p = err_from_is_err_and c.from_residual-in_err-bytes-in-Absent.result c.from_residual-in_err-bytes-in-Absent.ensures.1 in
    let has = subst (λ bytes. HasComeTo g.R.ReadCalls.calls c.args.limit c.args.reader.now c.args.reader.now c.in_ok-reading.reading bytes) (sym c.new-held.ensures.items)
    (c.in_ok-reading.ensures.come c.args.limit c.args.reader.now) in
    rw (p.1, p.2) (c.in_err-bytes-in-Absent.ensures.refused c.args.reader.now ((rw c.in-Absent.is at c.in_ok-search.ensures.found) c.args.reader.now has))

pub returns-in_ok-bytes-in-Absent-clause-ok : goal.returns-in_ok-bytes-in-Absent-clause-ok
returns-in_ok-bytes-in-Absent-clause-ok g c =
    let has = subst (λ bytes. HasComeTo g.R.ReadCalls.calls c.args.limit c.args.reader.now c.args.reader.now c.in_ok-reading.reading bytes) (sym c.new-held.ensures.items)
    (c.in_ok-reading.ensures.come c.args.limit c.args.reader.now) in
    c.in_ok-bytes-in-Absent.ensures.ok c.args.reader.now ((rw c.in-Absent.is at c.in_ok-search.ensures.found) c.args.reader.now has)
