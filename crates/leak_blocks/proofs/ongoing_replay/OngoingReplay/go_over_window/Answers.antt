-- The line that was read is the replay's next.
use Rattle.std.proofs.Common.{ℕ, ◌+◌, ◌∙◌, Some, ap, subst}
use Rattle.leak_blocks.specs.Windows.{HaveComeOn, IsNextMoved}
use Rattle.leak_blocks.proofs.WindowLemmas.{next_fits, come_on}
use Rattle.leak_blocks.proofs.ongoing_replay.OngoingReplay.go_over_window.Goals as goal

pub step-requires-clause-fits : goal.step-requires-clause-fits
step-requires-clause-fits c =
    let h : HaveComeOn c.loop-line.reader c.args.from c.args.self.now c.loop-line.self = c.loop-line.invariant.0 in
    let next : IsNextMoved c.args.from.bytes c.next_moved.new.reader h.lines (Some c.in-Some.line) = subst (IsNextMoved c.args.from.bytes c.next_moved.new.reader h.lines) c.in-Some.is (c.in_ok-line.ensures.next h.lines h.read) in
    next_fits c.args.from c.args.self.now c.loop-line.self c.loop-line.reader c.next_moved.new.reader c.in-Some.line (c.args.from.lines + c.count.result) h next (ap (λ (n : ℕ). c.args.from.lines + n) c.count.ensures)

pub returns-then-is_full-clause-after : goal.returns-then-is_full-clause-after
returns-then-is_full-clause-after c =
    let h : HaveComeOn c.loop-line.reader c.args.from c.args.self.now c.loop-line.self = c.loop-line.invariant.0 in
    let next : IsNextMoved c.args.from.bytes c.next_moved.new.reader h.lines (Some c.in-Some.line) = subst (IsNextMoved c.args.from.bytes c.next_moved.new.reader h.lines) c.in-Some.is (c.in_ok-line.ensures.next h.lines h.read) in
    come_on c.args.from c.args.self.now c.loop-line.self c.loop-line.reader c.next_moved.new.reader c.in-Some.line (c.args.from.lines + c.count.result) h next (ap (λ (n : ℕ). c.args.from.lines + n) c.count.ensures)
    c.step.new.self c.in_ok-step.ensures.after c.in_ok-step.ensures.allocated

pub loop-line-preserved : goal.loop-line-preserved
loop-line-preserved c =
    let h : HaveComeOn c.loop-line.reader c.args.from c.args.self.now c.loop-line.self = c.loop-line.invariant.0 in
    let next : IsNextMoved c.args.from.bytes c.next_moved.new.reader h.lines (Some c.in-Some.line) = subst (IsNextMoved c.args.from.bytes c.next_moved.new.reader h.lines) c.in-Some.is (c.in_ok-line.ensures.next h.lines h.read) in (
      come_on c.args.from c.args.self.now c.loop-line.self c.loop-line.reader c.next_moved.new.reader c.in-Some.line (c.args.from.lines + c.count.result) h next (ap (λ (n : ℕ). c.args.from.lines + n) c.count.ensures)
          c.step.new.self c.in_ok-step.ensures.after c.in_ok-step.ensures.allocated,
      c.next_moved.ensures.bytes ∙ c.loop-line.invariant.1,
    )
