-- The prefix and the text agree so far, so the rest of them decides.
use Rattle.std.proofs.Common.{◌≡◌, ◌≤◌, length, drop}
use Rattle.leak_report.specs.Places.{place_of}
use Rattle.leak_report.proofs.places.place.Given as goal

abbrev pub invariant-loop-i : goal.invariant-loop-i
invariant-loop-i l = (place_of (drop l.i l.prefix) (drop l.i l.text) ≡ place_of l.prefix l.text) × (l.i ≤ length l.text)
