-- There is no spot from here on.
use Rattle.std.proofs.Common.{◌≡◌, ◌-◌, ◌≤◌, true, length}
use Rattle.memchr.specs.Find.{Nowhere}
use Rattle.leak_mtrace.specs.CallPlace.{is_spot}
use Rattle.leak_mtrace.proofs.call_place.last_spot.Given as goal

abbrev pub invariant-loop-end : goal.invariant-loop-end
invariant-loop-end l = (l.end ≤ length l.text - 2) × Nowhere (λ k. is_spot l.text k ≡ true) l.end (length l.text)

abbrev pub decreases-loop-end : goal.decreases-loop-end
decreases-loop-end l = l.end
