-- The targets of the blocks so far were listed.
use Rattle.std.proofs.Common.{◌≡◌, ◌≤◌, length, map, take}
use Rattle.leak_scan.specs.Targets.{block_targets}
use Rattle.leak_pool.specs.Items.{targets_of_block}
use Rattle.leak_pool.specs.Edges.{AreListed, target_count}
use Rattle.leak_pool.proofs.rows.rows_of.Given as goal

abbrev pub invariant-loop-k : goal.invariant-loop-k
invariant-loop-k g l = record {
  same : g.W.Words.word_at l.runs.words.now ≡ g.W.Words.word_at l.words;
  within : length l.targets.items ≤ l.room;
  listed : AreListed (targets_of_block (map (block_targets (g.W.Words.word_at l.words) (g.L.Lookup.index l.lookup)) l.blocks)) l.k l.starts.items l.targets.items;
  count : length l.targets.items ≡ target_count (take l.k (map (block_targets (g.W.Words.word_at l.words) (g.L.Lookup.index l.lookup)) l.blocks));
}
