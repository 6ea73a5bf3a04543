-- From the lemmas of UnderwayLemmas.
use Rattle.std.proofs.Common.{◌∙◌, ◌++◌, ap, arith}
use Rattle.std.proofs.lemmas.Result.{err_from_is_err_and}
use Rattle.leak_blocks.specs.declared.window.LogPlace.{LogPlace}
use Rattle.leak_replaying.proofs.UnderwayLemmas.{come, gone_over, is_given_up, is_stopped, not_back, read_on, window_fits}
use Rattle.leak_replaying.proofs.log_so_far.LogSoFar.fill.Goals as goal

pub go_over-requires-clause-fits : goal.go_over-requires-clause-fits
go_over-requires-clause-fits g c κs within =
    let now = c.loop-self.invariant.0 c.requires.0 c.requires.1 c.requires.2 in
    window_fits g.R.ReadCalls.calls c.args.limit c.requires.0 c.loop-self.reader c.loop-self.self now.0 c.loop-self.ongoing now.1 c.ranges.limit.fits

pub go_over-requires-clause-so_far : goal.go_over-requires-clause-so_far
go_over-requires-clause-so_far g c κs within =
    let now = c.loop-self.invariant.0 c.requires.0 c.requires.1 c.requires.2 in
    (now.1.0.passed, now.0, now.1.0.has, now.1.1)

pub returns-in_err-go_over-clause-stopped : goal.returns-in_err-go_over-clause-stopped
returns-in_err-go_over-clause-stopped g c =
    let p = err_from_is_err_and c.from_residual.result c.from_residual.ensures.1 in
    rw (p.1, p.2) (λ first lines is.
    let now = c.loop-self.invariant.0 first lines is in
    is_stopped g.R.ReadCalls.calls c.args.limit first c.loop-self.reader c.loop-self.self now.0 c.loop-self.ongoing now.1 c.in_err-go_over.field-0.0 c.go_over.new.self
    c.go_over.ensures.reading c.go_over.ensures.ended (λ short. c.in_err-go_over.ensures.refused short now.1.0.passed now.0 now.1.0.has))

pub returns-then-branch-clause-not_back : goal.returns-then-branch-clause-not_back
returns-then-branch-clause-not_back g c =
    let here = c.loop-self.invariant.0 c.requires.0 c.requires.1 c.requires.2 in
    let back = not_back g.R.ReadCalls.calls c.args.limit c.requires.0 c.loop-self.reader c.loop-self.self here.0 c.loop-self.ongoing here.1 c.in_ok-go_over.field-0 c.go_over.new.self c.go_over.new.ongoing
    (c.in_ok-go_over.ensures.ok here.1.0.passed here.0 here.1.0.has here.1.1) in
    omega (arith, back, c.loop-self.invariant.1)

pub returns-then-branch-clause-ok : goal.returns-then-branch-clause-ok
returns-then-branch-clause-ok g c = λ first lines is.
    let now = c.loop-self.invariant.0 first lines is in
    gone_over g.R.ReadCalls.calls c.args.limit first c.loop-self.reader c.loop-self.self now.0 c.loop-self.ongoing now.1 c.in_ok-go_over.field-0 c.go_over.new.self c.go_over.new.ongoing
    c.go_over.ensures.reading c.go_over.ensures.ended (c.in_ok-go_over.ensures.ok now.1.0.passed now.0 now.1.0.has now.1.1)

pub returns-then-branch-clause-spans : goal.returns-then-branch-clause-spans
returns-then-branch-clause-spans g c = c.go_over.ensures.spans ∙ c.loop-self.invariant.2

pub returns-then-self-clause-spans : goal.returns-then-self-clause-spans
returns-then-self-clause-spans g c = c.go_over.ensures.spans ∙ c.loop-self.invariant.2

pub returns-then-branch-clause-further : goal.returns-then-branch-clause-further
returns-then-branch-clause-further g c = λ _.
    let now = c.loop-self.invariant.0 c.requires.0 c.requires.1 c.requires.2 in
    let on = c.in_ok-go_over.ensures.ok now.1.0.passed now.0 now.1.0.has now.1.1 in
    omega (arith, on.further c.if-branch.true, c.loop-self.invariant.1)

pub returns-then-self-clause-not_back : goal.returns-then-self-clause-not_back
returns-then-self-clause-not_back g c =
    let here = c.loop-self.invariant.0 c.requires.0 c.requires.1 c.requires.2 in
    let back = not_back g.R.ReadCalls.calls c.args.limit c.requires.0 c.loop-self.reader c.loop-self.self here.0 c.loop-self.ongoing here.1 c.in_ok-go_over.field-0 c.go_over.new.self c.go_over.new.ongoing
    (c.in_ok-go_over.ensures.ok here.1.0.passed here.0 here.1.0.has here.1.1) in
    omega (arith, back, c.loop-self.invariant.1)

pub returns-then-self-clause-ok : goal.returns-then-self-clause-ok
returns-then-self-clause-ok g c = λ first lines is.
    let now = c.loop-self.invariant.0 first lines is in
    gone_over g.R.ReadCalls.calls c.args.limit first c.loop-self.reader c.loop-self.self now.0 c.loop-self.ongoing now.1 c.in_ok-go_over.field-0 c.go_over.new.self c.go_over.new.ongoing
    c.go_over.ensures.reading c.go_over.ensures.ended (c.in_ok-go_over.ensures.ok now.1.0.passed now.0 now.1.0.has now.1.1)

pub returns-then-have_many_ended-clause-ok : goal.returns-then-have_many_ended-clause-ok
returns-then-have_many_ended-clause-ok g c = λ first lines is.
    let now = c.loop-self.invariant.0 first lines is in
    gone_over g.R.ReadCalls.calls c.args.limit first c.loop-self.reader c.loop-self.self now.0 c.loop-self.ongoing now.1 c.in_ok-go_over.field-0 c.go_over.new.self c.go_over.new.ongoing
    c.go_over.ensures.reading c.go_over.ensures.ended (c.in_ok-go_over.ensures.ok now.1.0.passed now.0 now.1.0.has now.1.1)

pub returns-then-self-clause-end : goal.returns-then-self-clause-end
returns-then-self-clause-end g c = λ _.
    let now = c.loop-self.invariant.0 c.requires.0 c.requires.1 c.requires.2 in
    let on = c.in_ok-go_over.ensures.ok now.1.0.passed now.0 now.1.0.has now.1.1 in
    record { ended = c.if-self.true; none_left = on.end c.if-branch.false }

pub read_lines-requires-clause-begun : goal.read_lines-requires-clause-begun
read_lines-requires-clause-begun g c =
    let now = c.loop-self.invariant.0 c.requires.0 c.requires.1 c.requires.2 in
    let gone = gone_over g.R.ReadCalls.calls c.args.limit c.requires.0 c.loop-self.reader c.loop-self.self now.0 c.loop-self.ongoing now.1 c.in_ok-go_over.field-0 c.go_over.new.self c.go_over.new.ongoing
    c.go_over.ensures.reading c.go_over.ensures.ended (c.in_ok-go_over.ensures.ok now.1.0.passed now.0 now.1.0.has now.1.1) in (
      c.requires.0,
      gone.1.0.passed ++ c.go_over.new.self.window.items,
      come g.R.ReadCalls.calls c.args.limit c.requires.0 c.loop-self.reader c.go_over.new.self gone.0 c.go_over.new.ongoing gone.1 c.if-self.false,
    )

pub loop-self-preserved : goal.loop-self-preserved
loop-self-preserved g c =
    let here = c.loop-self.invariant.0 c.requires.0 c.requires.1 c.requires.2 in
    let back = not_back g.R.ReadCalls.calls c.args.limit c.requires.0 c.loop-self.reader c.loop-self.self here.0 c.loop-self.ongoing here.1 c.in_ok-go_over.field-0 c.go_over.new.self c.go_over.new.ongoing
    (c.in_ok-go_over.ensures.ok here.1.0.passed here.0 here.1.0.has here.1.1) in (
      λ first lines is.
          let now = c.loop-self.invariant.0 first lines is in
          let gone = gone_over g.R.ReadCalls.calls c.args.limit first c.loop-self.reader c.loop-self.self now.0 c.loop-self.ongoing now.1 c.in_ok-go_over.field-0 c.go_over.new.self c.go_over.new.ongoing
          c.go_over.ensures.reading c.go_over.ensures.ended (c.in_ok-go_over.ensures.ok now.1.0.passed now.0 now.1.0.has now.1.1) in
          read_on g.R.ReadCalls.calls c.args.limit first c.loop-self.reader c.go_over.new.self gone.0 c.go_over.new.ongoing gone.1 c.if-self.false
          c.read_lines.new.reader c.read_lines.new.self c.in_ok-read_lines.ensures.ok,
      omega (arith, back, c.loop-self.invariant.1, ap (λ (p : LogPlace). p.bytes) c.in_ok-read_lines.ensures.ok.at),
      c.in_ok-read_lines.ensures.ok.spans ∙ c.go_over.ensures.spans ∙ c.loop-self.invariant.2,
    )

pub returns-in_err-read_lines-clause-stopped : goal.returns-in_err-read_lines-clause-stopped
returns-in_err-read_lines-clause-stopped g c =
    let p = err_from_is_err_and c.from_residual-in_err-read_lines.result c.from_residual-in_err-read_lines.ensures.1 in
    rw (p.1, p.2) (λ first lines is.
    let now = c.loop-self.invariant.0 first lines is in
    let gone = gone_over g.R.ReadCalls.calls c.args.limit first c.loop-self.reader c.loop-self.self now.0 c.loop-self.ongoing now.1 c.in_ok-go_over.field-0 c.go_over.new.self c.go_over.new.ongoing
    c.go_over.ensures.reading c.go_over.ensures.ended (c.in_ok-go_over.ensures.ok now.1.0.passed now.0 now.1.0.has now.1.1) in
    is_given_up g.R.ReadCalls.calls c.args.limit first c.loop-self.reader c.go_over.new.self gone.0 c.go_over.new.ongoing gone.1 c.if-self.false
    c.read_lines.new.reader c.in_err-read_lines.field-0.0 c.in_err-read_lines.ensures.refused)
