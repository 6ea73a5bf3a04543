-- The links after the first ones are told.
use Rattle.std.proofs.Common.{◌≡◌, ◌≤◌, ◌++◌, drop, length}
use Rattle.leak_why.specs.Text.{links_text}
use Rattle.leak_why.proofs.telling.push_links.Given as goal

abbrev pub invariant-loop-left : goal.invariant-loop-left
invariant-loop-left l = record {
  within : l.left ≤ length l.links;
  told : l.out.items ≡ l.initial.out.items ++ links_text l.log l.blocks (drop l.left l.links);
}

abbrev pub decreases-loop-left : goal.decreases-loop-left
decreases-loop-left l = l.left
