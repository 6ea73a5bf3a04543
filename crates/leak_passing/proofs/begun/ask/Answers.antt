-- The head is there, or nothing is said of it.
use Rattle.std.proofs.Common.{arith}
use Rattle.leak_passing.proofs.begun.ask.Goals as goal

pub returns-then-head-min : goal.returns-then-head-min
returns-then-head-min c = record { within = omega arith; is_head = c.in-Length.ensures.0 }

pub returns-in-Needs : goal.returns-in-Needs
returns-in-Needs c = c.more_of.ensures c.args.held.now

pub returns-else-head-min : goal.returns-else-head-min
returns-else-head-min c = c.more_of-in-Length.ensures c.args.held.now
