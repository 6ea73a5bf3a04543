-- The number of rounds over a core, with stacks of no entry.
use Rattle.std.proofs.Common.{◌≡◌, ℕ, ◌<◌, List, [], length, Option, sym, subst}
use Rattle.leak_index.specs.Hits.{Index}
use Rattle.leak_roots.specs.Places.{Places}
use Rattle.leak_marks.specs.Reach.{Graph, Reach}
use Rattle.leak_marks.specs.Partition.{Partitions}
use Rattle.leak_pool.specs.declared.start.Start.{Start}
use Rattle.leak_pool.specs.declared.marked.Marked.{Marked}
use Rattle.leak_pool.specs.Plan.{Numbers}
use Rattle.leak_pool.specs.Marking.{MarksFromRoots, MarksFrom, graph_from, graph_of_roots, lists_of}
use Rattle.leak_pool.specs.Rounds.{graph_over}
use Rattle.leak_pool.specs.Scopes.{root_targets, all_targets}
use Rattle.leak_pool.specs.Course.{HaveLed, IsByRounds}
use Rattle.leak_pool.specs.Depth.{AreByDepth}
use Rattle.leak_pool.proofs.FromLemmas.{graph_is, graph_of_pieces}
use Rattle.leak_pool.proofs.DepthLemmas.{rounds_by_depth}

-- of a graph that is the one of the pieces
of_graph : (roots targets : List (List ℕ)) (given : List ℕ) (g : Graph) (w stack count : ℕ) (claims : List (List ℕ)) → graph_over roots targets given ≡ g → stack ≡ 0 → HaveLed roots targets w stack count claims [] → Partitions claims (Reach g) → AreByDepth g count
of_graph roots targets given g w stack count claims same zero led part =
    subst (λ (h : Graph). AreByDepth h count) same
    (rounds_by_depth roots targets given w count claims (subst (λ (k : ℕ). HaveLed roots targets w k count claims []) zero led) (subst (λ (h : Graph). Partitions claims (Reach h)) (sym same) part))

pub depth_from : (word_at : ℕ → Option ℕ) (index : Index) (places : Places) (pages : List ℕ) (s : Start) (plan : Numbers) (m : Marked) → plan.stack ≡ 0 → 0 < length index.blocks
    → IsByRounds word_at index places pages s.rescan.items plan m → MarksFrom word_at index places pages s plan.workers m → AreByDepth (graph_from word_at index places pages s) m.rounds
depth_from word_at index places pages s plan m zero blocks by from =
    of_graph (root_targets word_at index places by.0 pages s.rescan.items) (all_targets word_at index) s.marked.items (graph_from word_at index places pages s) plan.workers plan.stack m.rounds (lists_of m)
    (graph_is word_at index places by.0 pages s plan.piece by.1) zero (by.2 blocks) from.claims

pub depth_of_roots : (word_at : ℕ → Option ℕ) (index : Index) (places : Places) (plan : Numbers) (m : Marked) → plan.stack ≡ 0 → 0 < length index.blocks
    → IsByRounds word_at index places [] [] plan m → MarksFromRoots word_at index places plan.workers m → AreByDepth (graph_of_roots word_at index places) m.rounds
depth_of_roots word_at index places plan m zero blocks by marks =
    of_graph (root_targets word_at index places by.0 [] []) (all_targets word_at index) [] (graph_of_roots word_at index places) plan.workers plan.stack m.rounds (lists_of m)
    (graph_of_pieces word_at index places by.0 [] plan.piece by.1) zero (by.2 blocks) marks.claims
