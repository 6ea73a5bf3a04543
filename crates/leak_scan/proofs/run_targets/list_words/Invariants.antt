-- What is listed and what the words that are left lead to are all.
use Rattle.std.proofs.Common.{◌≡◌, ◌≤◌, ◌++◌, drop, length, take}
use Rattle.leak_scan.specs.Targets.{targets_of}
use Rattle.leak_scan.proofs.run_targets.list_words.Given as goal

abbrev pub invariant-loop-word : goal.invariant-loop-word
invariant-loop-word g l = record {
  within : length l.targets.items ≤ l.room;
  kept : take (length l.initial.targets.items) l.targets.items ≡ l.initial.targets.items;
  listed : l.targets.items ++ targets_of (g.L.Lookup.index l.lookup) (drop l.word-index l.words) ≡ l.initial.targets.items ++ targets_of (g.L.Lookup.index l.lookup) l.words;
}
