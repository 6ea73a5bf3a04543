-- What is known of the blocks of a report on who holds the memory, and of an answer about chosen blocks.
use Rattle.std.proofs.Common.{◌≡◌, ℕ, ◌<◌, ◌^◌, Bool, true, false, List, length, None, Some, Option, slice_get, ap, ◌∙◌, arith, IsTrue}
use Rattle.std.specs.Prelude.{◌↔◌, ◌==◌, count_by, nat_lt, slice_index_or}
use Rattle.std.proofs.lemmas.List.{length-map}
use Rattle.std.proofs.lemmas.Option.{get_or_from_slice_get, slice_get-get_or}
use Rattle.leak_holder_search.proofs.FindLemmas.{counted_each}
use Rattle.leak_mtrace.specs.declared.line.Line.{Line}
use Rattle.leak_mtrace.specs.Log.{IsLog}
use Rattle.leak_mtrace.proofs.FitLemmas.{lines_fit}
use Rattle.leak_blocks.specs.declared.block.Block.{Block}
use Rattle.leak_blocks.specs.Live.{live_of}
use Rattle.leak_blocks.proofs.DisjointLemmas.{live_disjoint}
use Rattle.leak_blocks.proofs.LineLemmas.{live_addressed}
use Rattle.leak_blocks.proofs.SumLemmas.{sum_fits}
use Rattle.leak_index.specs.Leads.{Distances}
use Rattle.leak_roots.specs.declared.skip.Skip.{Skip}
use Rattle.leak_marks.specs.Reach.{Graph, Reach}
use Rattle.leak_pool.specs.Marking.{IsSet}
use Rattle.leak_report.specs.Numbered.{AreTexts}
use Rattle.leak_holders.specs.Holders.{AreComplete, AreReached}
use Rattle.leak_holders.specs.Laws.{AreRowsOf}
use Rattle.leak_holders.specs.Words.{table_of}
use Rattle.leak_search.specs.Search.{graph_of_one}
use Rattle.leak_holder_search.specs.declared.search.Holding.{Holding}
use Rattle.leak_holder_search.specs.Holders.{FindsHolders}
use Rattle.leak_holder_search.specs.Since.{counted_of}
use Rattle.leak_holder_search.proofs.NumberLemmas.{are_numbers}
use Rattle.leak_laws.proofs.SameHeld.{one_each}
use Rattle.leak_laws.proofs.SameRows.{plain_rows}

some_true : (set : List Bool) (i : ℕ) → i < length set → ((slice_get set i ≡ Some true) ↔ IsTrue (slice_index_or set i false))
some_true set i low = (
  λ e. get_or_from_slice_get set i true false e,
  λ e. slice_get-get_or set i false low ∙ ap (λ (b : Bool). Some b) e,
)

-- what is known of blocks: their texts by number, which are reached, and which are counted
pub record IsKnown (graph : Graph) (log : List ℕ) (blocks : List Block) (texts : List (List ℕ)) (numbers : List ℕ) (set counted : List Bool) : Type 0 where
  pub one_each : length blocks ≡ length graph.targets
  pub complete : AreComplete (length texts) (table_of blocks numbers set counted)
  pub reached : AreReached graph set
  pub numbered : AreTexts log blocks texts numbers

pub known_blocks : (core log : List ℕ) (since : Option (List ℕ)) (reading : Distances) (skip : Skip) (lines : List Line) (set : List Bool) (texts : List (List ℕ)) (numbers : List ℕ) → IsLog log lines → length (live_of lines) < 2 ^ 32
    → IsSet set (length (live_of lines)) (Reach (graph_of_one core reading skip lines)) → AreTexts log (live_of lines) texts numbers
    → IsKnown (graph_of_one core reading skip lines) log (live_of lines) texts numbers set (counted_of since (live_of lines))
known_blocks core log since reading skip lines set texts numbers is_log few marked numbered =
    let n = are_numbers log (live_of lines) texts numbers numbered few in
    let long = one_each core reading skip lines in
    record {
      one_each = long;
      complete = record {
        numbered = n.one_each;
        of_texts = λ b h. n.of_texts b (omega (arith, h, n.one_each));
        reached = marked.len;
        counted = counted_each since (live_of lines);
        few = few;
        fits = sum_fits (live_of lines) (live_addressed lines (lines_fit log lines is_log)) (live_disjoint lines);
      };
      reached = record {
        len = marked.len ∙ long;
        each = λ b h.
            let inside : b < length (live_of lines) = omega (arith, h, long) in
            let low : b < length set = omega (arith, inside, marked.len) in
            (λ e. (marked.each b inside).0 ((some_true set b low).1 e), λ r. (some_true set b low).0 ((marked.each b inside).1 r));
      };
      numbered = numbered;
    }

pub rows_of_report : (core log : List ℕ) (since : Option (List ℕ)) (reading : Distances) (skip : Skip) (found : Holding) → (f : FindsHolders core log since reading skip found)
    → AreRowsOf (graph_of_one core reading skip f.lines) (table_of (live_of f.lines) f.numbers f.set (counted_of since (live_of f.lines))) (length f.texts) f.rows
rows_of_report core log since reading skip found f =
    let known = known_blocks core log since reading skip f.lines f.set f.texts f.numbers f.is_log f.few f.marked f.numbered in
    record {
      one_each = known.one_each;
      complete = known.complete;
      reached = known.reached;
      hold = plain_rows (graph_of_one core reading skip f.lines) (live_of f.lines) f.numbers f.set (counted_of since (live_of f.lines)) (length f.texts) f.rows f.are;
    }
