-- The first blocks of the list were scanned, in no more rounds than blocks and one.
use Rattle.std.proofs.Common.{ℕ, List, [], ◌+◌, ◌-◌, ◌≤◌, length}
use Rattle.leak_marks.specs.Lists.{Within}
use Rattle.leak_pool.specs.Alone.{AreMarks, IsFollowed, IsInRounds}
use Rattle.leak_pool.specs.Marking.{graph_of}
use Rattle.leak_pool.proofs.alone.take_blocks.Given as goal

abbrev pub invariant-follow : goal.invariant-follow
invariant-follow g l = record {
  marks : AreMarks l.set l.list.items;
  within : l.scanned ≤ length l.list.items;
  rounds : l.rounds ≤ l.scanned + 1;
  followed : (roots : List ℕ) → IsFollowed (graph_of (g.W.Words.word_at l.words) (g.L.Lookup.index l.lookup) roots []) l.initial.list.items 0 → IsFollowed (graph_of (g.W.Words.word_at l.words) (g.L.Lookup.index l.lookup) roots []) l.list.items l.scanned;
  levels : (roots : List ℕ) → IsFollowed (graph_of (g.W.Words.word_at l.words) (g.L.Lookup.index l.lookup) roots []) l.initial.list.items 0 → Within l.initial.list.items roots
      → IsInRounds (graph_of (g.W.Words.word_at l.words) (g.L.Lookup.index l.lookup) roots []) l.list.items l.scanned l.end l.rounds;
}

abbrev pub decreases-follow : goal.decreases-follow
decreases-follow g l = length l.blocks - l.scanned
