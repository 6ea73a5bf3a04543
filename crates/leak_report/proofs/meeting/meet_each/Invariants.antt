-- The texts of those so far.
use Rattle.std.proofs.Common.{take}
use Rattle.leak_report.specs.Numbered.{bytes_each}
use Rattle.leak_report.specs.Meeting.{AreMet}
use Rattle.leak_report.proofs.MeetingLemmas.{AreSoFar}
use Rattle.leak_report.proofs.meeting.meet_each.Given as goal

abbrev pub invariant-loop-text : goal.invariant-loop-text
invariant-loop-text l = AreMet l.found (bytes_each l.texts.items) × AreSoFar (bytes_each (take l.text-index l.given)) (bytes_each l.texts.items) l.numbers.items
