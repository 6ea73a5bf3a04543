-- So many of the words so far are starts.
use Rattle.std.proofs.Common.{◌≤◌, ℕ, List, length, flat_map, take}
use Rattle.leak_index.specs.AddressPlaces.{FindsStarts}
use Rattle.leak_index.proofs.ranks.count_in.Given as goal

abbrev pub invariant-loop-word : goal.invariant-loop-word
invariant-loop-word l = record {
  few : l.count ≤ l.word-index;
  starts : (hits : ℕ → List ℕ) → FindsStarts l.blocks hits → l.count ≤ length (flat_map hits (take l.word-index l.words));
}
