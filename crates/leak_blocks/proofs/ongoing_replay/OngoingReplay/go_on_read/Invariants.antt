-- The parts so far were gone over.
use Rattle.std.proofs.Common.{ℕ, List, drop}
use Rattle.leak_blocks.specs.Windows.{AreReadInParts}
use Rattle.leak_blocks.proofs.ReadWindowLemmas.{HasGoneOn}
use Rattle.leak_blocks.proofs.ongoing_replay.OngoingReplay.go_on_read.Given as goal

abbrev pub invariant-loop-part : goal.invariant-loop-part
invariant-loop-part l =
    (window : List ℕ) → AreReadInParts window l.parts → HasGoneOn window (drop l.part-index l.parts) l.fn.from l.at l.initial.self l.self
