-- The reader of the window has come to the place where the replay stops.
use Rattle.std.proofs.Common.{◌∙◌, ℕ, ◌+◌, ap}
use Rattle.leak_blocks.proofs.WindowLemmas.{gone_on}
use Rattle.leak_blocks.proofs.ongoing_replay.OngoingReplay.go_on.Goals as goal

pub returns-clause-ok : goal.returns-clause-ok
returns-clause-ok c =
    gone_on c.args.window.now c.args.from _ c.in_ok-more.more c.args.self.now c.go_over_window.new.self c.go_over_window.new.reader (c.go_over_window.ensures.bytes ∙ c.new-reader.ensures.bytes)
    c.in_ok-more.ensures.after c.in_ok-more.ensures.end c.in_ok-more.ensures.later (ap (λ (n : ℕ). c.args.from.bytes + n) c.whole_len.ensures) (ap (λ (n : ℕ). c.args.from.lines + n) c.count.ensures)
