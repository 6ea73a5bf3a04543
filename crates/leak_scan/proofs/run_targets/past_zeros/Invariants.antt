-- What is left leads where all of the run leads.
use Rattle.std.proofs.Common.{◌≡◌, ◌≤◌, [], length}
use Rattle.std.specs.Prelude.{IsTrue}
use Rattle.leak_index.specs.Hits.{Index, hits_of}
use Rattle.leak_scan.specs.Positions.{words_in}
use Rattle.leak_scan.specs.Targets.{targets_of}
use Rattle.leak_scan.proofs.run_targets.past_zeros.Given as goal

abbrev pub invariant-loop-word : goal.invariant-loop-word
invariant-loop-word l = record {
  led : (index : Index) → (IsTrue l.skips → hits_of index 0 ≡ []) → targets_of index (words_in l.rest) ≡ targets_of index (words_in l.run);
  shorter : length l.rest ≤ length l.run;
}

abbrev pub decreases-loop-word : goal.decreases-loop-word
decreases-loop-word l = length l.rest
