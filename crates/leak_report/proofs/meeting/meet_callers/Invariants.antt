-- The texts of those so far.
use Rattle.std.proofs.Common.{take}
use Rattle.leak_report.specs.Numbered.{bytes_each, texts_of}
use Rattle.leak_report.specs.Meeting.{AreMet}
use Rattle.leak_report.proofs.MeetingLemmas.{AreSoFar}
use Rattle.leak_report.proofs.meeting.meet_callers.Given as goal

abbrev pub invariant-loop-block : goal.invariant-loop-block
invariant-loop-block l = AreMet l.found (bytes_each l.texts.items) × AreSoFar (texts_of l.log (take l.block-index l.blocks)) (bytes_each l.texts.items) l.numbers.items
