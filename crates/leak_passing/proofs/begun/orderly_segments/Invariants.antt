-- A file with the head, as long as a file can be.
use Rattle.std.proofs.Common.{◌-◌, length, replicate}
use Rattle.leak_passing.proofs.begun.orderly_segments.Given as goal

abbrev pub ghost-segments_in : goal.ghost-segments_in
ghost-segments_in a = replicate (a.len - length a.head.now) 0
