-- The register is the one with the number that is left, among the sets that are left.
use Rattle.std.proofs.Common.{◌≡◌, ◌≤◌, drop}
use Rattle.leak_why.specs.Text.{register_text}
use Rattle.leak_why.proofs.telling.push_register.Given as goal

abbrev pub invariant-loop-set : goal.invariant-loop-set
invariant-loop-set l = record {
  same : register_text l.threads (drop l.set-index l.sets) l.left ≡ register_text 0 l.sets l.number;
  few : l.threads ≤ l.set-index;
  buffer : l.buffer ≡ l.initial.buffer;
}
