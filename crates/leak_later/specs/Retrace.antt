-- Marking again in a later core from what was marked in an earlier one (Boehm, Demers, Shenker, PLDI 1991).
use Rattle.std.specs.Prelude.{◌≡◌, ℕ, ◌+◌, ◌≤◌, ◌⊎◌, ◌↔◌, Bool, List, [], ◌++◌, length, map, Option, Some, IsFalse, slice_get}
use Rattle.leak_mtrace.specs.declared.line.Line.{Line}
use Rattle.leak_blocks.specs.declared.block.Block.{Block}
use Rattle.leak_blocks.specs.Live.{live_of}
use Rattle.leak_index.specs.Leads.{Distances}
use Rattle.leak_index.specs.Hits.{Index, hits_of}
use Rattle.leak_scan.specs.Targets.{page_of}
use Rattle.leak_marks.specs.Lists.{Has}
use Rattle.leak_marks.specs.Reach.{Graph, Reach}
use Rattle.leak_roots.specs.Places.{Places}
use Rattle.leak_marks.specs.Partition.{Partitions}
use Rattle.leak_pool.specs.Marking.{graph_of, led_by_roots, IsSet, lists_of, MarksFrom}
use Rattle.leak_pool.specs.declared.start.Start.{Start}
use Rattle.leak_pool.specs.declared.start.Part.TheVariants.{Whole, Differing}
use Rattle.leak_later.specs.declared.kept.Carry.{Carry}
use Rattle.leak_later.specs.declared.retracing.Retraced.{Retraced}
use Rattle.leak_later.specs.Differing.{differs, reread_of}
use Rattle.leak_later.specs.Kept.{kept_of, fresh_of}

-- the graph of two cores: a chain begins at a kept block, at a fresh one, or at one that is led to first, as by a root
-- word of the later core, and goes on by words of that core
abbrev pub graph_of_two : (ℕ → Option ℕ) → Index → List ℕ → List ℕ → List ℕ → Graph
graph_of_two word_now index first kept fresh = record {
  first = kept ++ fresh ++ first;
  targets = (graph_of word_now index first []).targets;
  given = [];
}

-- the graph of two cores of what is kept, what is fresh and the later core's root words
abbrev pub graph_of_retrace : (ℕ → Option ℕ) → Index → Places → Carry → Graph
graph_of_retrace word_now index places c =
    graph_of_two word_now index (led_by_roots word_now index places) c.kept.items c.fresh.items

-- a word, in the later core, of a kept block on none of the pages leads to kept and fresh blocks alone
abbrev pub OthersLeadWithin : (ℕ → Option ℕ) → Index → List ℕ → List ℕ → List ℕ → Type 0
OthersLeadWithin word_now index pages kept fresh =
    (i : ℕ) (b : Block) → slice_get index.blocks i ≡ Some b → Has kept i
    → (a w : ℕ) → b.start ≤ a → a + 8 ≤ b.start + b.size → word_now a ≡ Some w
    → ¬ Has pages (page_of a)
    → (j : ℕ) → Has (hits_of index w) j → Has kept j ⊎ Has fresh j

-- the live blocks of the lines, and a reading
abbrev pub index_of_live : Distances → List Line → Index
index_of_live reading lines = record { blocks = live_of lines; reading = reading }

-- two logs, the first a beginning of the second, and what is marked in the earlier core
pub record IsMarkedBefore (word_before : ℕ → Option ℕ) (reading : Distances)
    (first_before : List ℕ) (before after : List Line) (set : List Bool) : Type 0 where
  pub marked :
      IsSet set (length (live_of before))
      (Reach (graph_of word_before (index_of_live reading before) first_before []))

-- a word, in the later core, of a kept block on a page that doesn't differ leads to kept and fresh blocks alone
abbrev pub SameWordsLeadWithin : Type 0
SameWordsLeadWithin =
    (word_before word_now : ℕ → Option ℕ) (reading : Distances) (first_before : List ℕ)
    (before after : List Line) (set : List Bool)
    → IsMarkedBefore word_before reading first_before before after set
    → (i : ℕ) (b : Block) → slice_get (live_of (before ++ after)) i ≡ Some b
    → Has (kept_of (live_of before) set (live_of (before ++ after))) i
    → (a w : ℕ) → b.start ≤ a → a + 8 ≤ b.start + b.size → word_now a ≡ Some w
    → IsFalse (differs word_before word_now (page_of a))
    → (j : ℕ) → Has (hits_of (index_of_live reading (before ++ after)) w) j
    → Has (kept_of (live_of before) set (live_of (before ++ after))) j
    ⊎ Has (fresh_of (length before) (live_of (before ++ after))) j

-- a start that marks the kept and the fresh blocks; it scans the kept ones again on the pages, and all of the fresh ones
pub record IsStartWith (c : Carry) (s : Start) : Type 0 where
  pub marked : (b : ℕ) → Has s.marked.items b ↔ (Has c.kept.items b ⊎ Has c.fresh.items b)
  pub rescan : s.rescan.items
      ≡ map (λ b. (b, Differing)) c.kept.items ++ map (λ b. (b, Whole)) c.fresh.items

-- What marking again comes to. If the words of kept blocks off the pages lead to kept and fresh blocks alone, the
-- set is what chains of the two cores reach, and the claims partition what of it is neither kept nor fresh.
pub record IsRetrace (word_now : ℕ → Option ℕ) (index : Index) (places : Places) (pages : List ℕ)
    (c : Carry) (workers : ℕ) (r : Retraced) : Type 0 where
  pub from :
      (s : Start) × IsStartWith c s × MarksFrom word_now index places pages s workers r.marked
  pub set : OthersLeadWithin word_now index pages c.kept.items c.fresh.items →
      IsSet r.marked.set.items (length index.blocks) (Reach (graph_of_retrace word_now index places c))
  pub claims : OthersLeadWithin word_now index pages c.kept.items c.fresh.items →
      Partitions (lists_of r.marked) (λ i.
      Reach (graph_of_retrace word_now index places c) i × ¬ Has c.kept.items i × ¬ Has c.fresh.items i)
  pub reread : r.reread ≡ reread_of word_now pages index.blocks c.kept.items
