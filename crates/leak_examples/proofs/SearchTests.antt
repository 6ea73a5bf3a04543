-- What a search of one core comes to if the marked blocks are computed.
use Rattle.std.proofs.Common.{◌≡◌, ◌==◌, ℕ, ◌^◌, Bool, true, List, length, sym, ap, subst, ◌∙◌}
use Rattle.std.specs.Prelude.{nat_lt}
use Rattle.std.specs.List.{list_all}
use Rattle.std.proofs.lemmas.Bool.{ltb-true}
use Rattle.leak_elf.specs.Words.{word_of}
use Rattle.leak_mtrace.specs.declared.line.Line.{Line}
use Rattle.leak_mtrace.specs.Log.{IsLog}
use Rattle.leak_mtrace.proofs.SameLogLemmas.{logs_are_one}
use Rattle.leak_blocks.specs.Live.{live_of}
use Rattle.leak_scan.specs.Heads.{heads_of}
use Rattle.leak_marks.specs.Lists.{times}
use Rattle.leak_marks.specs.Reach.{Graph, Reach}
use Rattle.leak_pool.specs.Marking.{IsSet}
use Rattle.leak_report.specs.Report.{text_of}
use Rattle.leak_report.specs.Totals.{leaked_in}
use Rattle.leak_search.specs.declared.found.Found.{Found}
use Rattle.leak_search.specs.Inputs.{IsCore}
use Rattle.leak_search.specs.Signs.{fits_told}
use Rattle.leak_search.specs.Search.{claims_of, graph_of_one, head_of_one, index_of}
use Rattle.leak_examples.specs.Searches.{Finds, Search}
use Rattle.leak_examples.proofs.GraphTests.{is_reached, one_list, same_tests, tests_are, tests_of}

-- the report if these blocks are marked
abbrev pub report_with : Search → List Line → List ℕ → List ℕ
report_with s lines marked =
    let set = tests_of marked (length (live_of lines)) in
    text_of (head_of_one s.core s.log s.skip lines) (live_of lines) set (heads_of (word_of s.core) (index_of s.reading lines) set) (fits_told s.check s.core lines) s.log

-- how many leaked then
abbrev pub leaked_with : List Line → List ℕ → ℕ
leaked_with lines marked = length (leaked_in (tests_of marked (length (live_of lines))) (live_of lines))

pub finds : (s : Search) (lines : List Line) (marked : List ℕ) (leaked : ℕ) (report : List ℕ) → IsCore s.core → IsLog s.log lines → nat_lt (length (live_of lines)) (2 ^ 32) ≡ true
    → is_reached (graph_of_one s.core s.reading s.skip lines) marked ≡ true → list_all (λ b. times b marked == 1) marked ≡ true
    → report_with s lines marked ≡ report → leaked_with lines marked ≡ leaked → Finds s marked leaked report
finds s lines marked leaked report accepted is_log few reached each told count = record {
  report_is = λ workers found f. report_of found f.lines f.set (same f.lines f.is_log) f.marked f.report;
  leaked_is = λ workers found f. leaked_of found f.lines f.set (same f.lines f.is_log) f.marked f.leaked;
  allowed = λ found report_is leaked_is claims_are. record {
    accepted = accepted;
    lines = lines;
    is_log = is_log;
    few = ltb-true (length (live_of lines)) (2 ^ 32) few;
    set = tests_of marked (length (live_of lines));
    marked = tests;
    report = report_is ∙ sym told;
    leaked = leaked_is ∙ sym count;
    lists = ap (λ (l : List (List ℕ)). length l) claims_are;
    claims = one_list (graph lines) marked (claims_of found) reached each claims_are;
  };
}
  where
    graph : List Line → Graph
    graph ls = graph_of_one s.core s.reading s.skip ls

    same : (ls : List Line) → IsLog s.log ls → lines ≡ ls
    same ls is = logs_are_one s.log lines ls is_log is

    tests : IsSet (tests_of marked (length (live_of lines))) (length (live_of lines)) (Reach (graph lines))
    tests = tests_are (graph lines) marked (length (live_of lines)) reached

    set_is : (ls : List Line) (set : List Bool) → lines ≡ ls → IsSet set (length (live_of ls)) (Reach (graph ls)) → set ≡ tests_of marked (length (live_of lines))
    set_is ls set e is = same_tests (Reach (graph lines)) set (tests_of marked (length (live_of lines))) (length (live_of lines))
        (subst (λ (l : List Line). IsSet set (length (live_of l)) (Reach (graph l))) (sym e) is) tests

    text_with : List Line → List Bool → List ℕ
    text_with ls set = text_of (head_of_one s.core s.log s.skip ls) (live_of ls) set (heads_of (word_of s.core) (index_of s.reading ls) set) (fits_told s.check s.core ls) s.log

    report_of : (found : Found) (ls : List Line) (set : List Bool) → lines ≡ ls → IsSet set (length (live_of ls)) (Reach (graph ls)) → found.report.items ≡ text_with ls set → found.report.items ≡ report
    report_of found ls set e is r = r ∙ ap (λ (t : List Bool). text_with ls t) (set_is ls set e is) ∙ ap (λ (l : List Line). text_with l (tests_of marked (length (live_of lines)))) (sym e) ∙ told

    leaked_of : (found : Found) (ls : List Line) (set : List Bool) → lines ≡ ls → IsSet set (length (live_of ls)) (Reach (graph ls)) → found.leaked ≡ length (leaked_in set (live_of ls)) → found.leaked ≡ leaked
    leaked_of found ls set e is r =
        r ∙ ap (λ (t : List Bool). length (leaked_in t (live_of ls))) (set_is ls set e is) ∙ ap (λ (l : List Line). length (leaked_in (tests_of marked (length (live_of lines))) (live_of l))) (sym e) ∙ count
