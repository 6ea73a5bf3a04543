-- The reports of searches have the lines that belong together.
use Rattle.std.proofs.Common.{◌≡◌, ℕ, Bool, true, false, List, length, None, ap, subst, ◌∙◌}
use Rattle.leak_elf.specs.Words.{word_of}
use Rattle.leak_mtrace.specs.declared.line.Line.{Line}
use Rattle.leak_mtrace.proofs.SameLogLemmas.{logs_are_one}
use Rattle.leak_blocks.specs.Live.{live_of}
use Rattle.leak_blocks.proofs.DisjointLemmas.{live_disjoint}
use Rattle.leak_index.specs.Leads.{Distances}
use Rattle.leak_roots.specs.declared.skip.Skip.{Skip}
use Rattle.leak_scan.specs.Heads.{heads_of}
use Rattle.leak_scan.proofs.Held.{length-heads_of}
use Rattle.leak_marks.specs.Reach.{Reach}
use Rattle.leak_pool.specs.Marking.{IsSet}
use Rattle.leak_report.specs.declared.head.Head.{Head}
use Rattle.leak_report.specs.Report.{text_of}
use Rattle.leak_search.specs.declared.found.Found.{Found}
use Rattle.leak_search.specs.Signs.{fits_told}
use Rattle.leak_search.specs.Search.{FindsOne, graph_of_one, head_of_one, index_of}
use Rattle.leak_search.specs.SearchTwo.{FindsTwo, head_of_two, kept_blocks, new_blocks, numbers_of_two}
use Rattle.leak_laws.specs.OneLine.{AreOfOneLine}
use Rattle.leak_laws.specs.Reports.{IsReport, told_by_one, told_by_two, without_misfits}
use Rattle.leak_laws.specs.Told.{told_text}
use Rattle.leak_laws.proofs.Ascending.{ascend}
use Rattle.leak_laws.proofs.OneLineTexts.{blocks_lack, of_one_line}
use Rattle.leak_laws.proofs.ReportLemmas.{belong}
use Rattle.leak_laws.proofs.ReportBytes.{report_is_told}
use Rattle.leak_laws.proofs.SameLemmas.{later_of, sets_are_one}

pub of_one : (core log : List ℕ) (reading : Distances) (skip : Skip) (check : Bool) (workers : ℕ) (found : Found) → (f : FindsOne core log reading skip check workers found) → IsReport found (told_by_one f)
of_one core log reading skip check workers found f = record {
  bytes = f.report ∙ report_is_told (head_of_one core log skip f.lines) (live_of f.lines) f.set (heads_of (word_of core) (index_of reading f.lines) f.set) (fits_told check core f.lines) log;
  together = belong (head_of_one core log skip f.lines) (live_of f.lines) f.set (heads_of (word_of core) (index_of reading f.lines) f.set) (fits_told check core f.lines) log f.marked.len
      (length-heads_of (word_of core) (index_of reading f.lines) f.set) (ascend (live_of f.lines) (live_disjoint f.lines));
  leaked = f.leaked;
}

-- the numbers of the first lines of two
abbrev head_by : {core1 log1 core2 log2 : List ℕ} {reading : Distances} {skip : Skip} {check : Bool} {workers : ℕ} {found : Found} → FindsTwo core1 log1 core2 log2 reading skip check workers found → Head
head_by {core1} {log1} {core2} {log2} {reading} {skip} f =
    head_of_two core2 log2 skip f.second.lines (numbers_of_two core2 f.pages (live_of f.second.lines) (kept_blocks f.first.lines f.earlier f.second.lines) (new_blocks f.first.lines f.second.lines))

pub of_two : (core1 log1 core2 log2 : List ℕ) (reading : Distances) (skip : Skip) (check : Bool) (workers : ℕ) (found : Found) → (f : FindsTwo core1 log1 core2 log2 reading skip check workers found) → IsReport found (told_by_two f)
of_two core1 log1 core2 log2 reading skip check workers found f = record {
  bytes = f.finds.report ∙ report_is_told (head_by f) (live_of f.second.lines) f.finds.set (heads_of (word_of core2) (index_of reading f.second.lines) f.finds.set) (fits_told check core2 f.second.lines) log2;
  together = belong (head_by f) (live_of f.second.lines) f.finds.set (heads_of (word_of core2) (index_of reading f.second.lines) f.finds.set) (fits_told check core2 f.second.lines) log2 f.finds.marked.len
      (length-heads_of (word_of core2) (index_of reading f.second.lines) f.finds.set) (ascend (live_of f.second.lines) (live_disjoint f.second.lines));
  leaked = f.finds.leaked;
}

-- ---- texts

pub one_of_lines : (core log : List ℕ) (reading : Distances) (skip : Skip) (check : Bool) (workers : ℕ) (found : Found) → (f : FindsOne core log reading skip check workers found) → AreOfOneLine (told_by_one f)
one_of_lines core log reading skip check workers found f =
    of_one_line (head_of_one core log skip f.lines) (live_of f.lines) f.set (heads_of (word_of core) (index_of reading f.lines) f.set) (fits_told check core f.lines) log (blocks_lack log f.lines f.is_log)

pub two_of_lines : (core1 log1 core2 log2 : List ℕ) (reading : Distances) (skip : Skip) (check : Bool) (workers : ℕ) (found : Found) → (f : FindsTwo core1 log1 core2 log2 reading skip check workers found) → AreOfOneLine (told_by_two f)
two_of_lines core1 log1 core2 log2 reading skip check workers found f =
    of_one_line (head_by f) (live_of f.second.lines) f.finds.set (heads_of (word_of core2) (index_of reading f.second.lines) f.finds.set) (fits_told check core2 f.second.lines) log2 (blocks_lack log2 f.second.lines f.second.log_is)

-- ---- without the lines of misfits

plain_text : List ℕ → List ℕ → Distances → Skip → List Line → List Bool → List ℕ
plain_text core log reading skip lines set = text_of (head_of_one core log skip lines) (live_of lines) set (heads_of (word_of core) (index_of reading lines) set) None log

pub check_adds : (core log : List ℕ) (reading : Distances) (skip : Skip) (workers others : ℕ) (a b : Found)
    → (f : FindsOne core log reading skip true workers a) → FindsOne core log reading skip false others b → b.report.items ≡ told_text (without_misfits (told_by_one f))
unfolding plain_text
check_adds core log reading skip workers others a b f g =
    let e : g.lines ≡ f.lines = logs_are_one log g.lines f.lines g.is_log f.is_log in
    let marked : IsSet g.set (length (live_of f.lines)) (Reach (graph_of_one core reading skip f.lines)) = subst (λ (l : List Line). IsSet g.set (length (live_of l)) (Reach (graph_of_one core reading skip l))) e g.marked in
    let s : g.set ≡ f.set = sets_are_one (length (live_of f.lines)) (Reach (graph_of_one core reading skip f.lines)) g.set f.set marked f.marked in
    g.report ∙ ap (λ (l : List Line). plain_text core log reading skip l g.set) e ∙ ap (plain_text core log reading skip f.lines) s
    ∙ report_is_told (head_of_one core log skip f.lines) (live_of f.lines) f.set (heads_of (word_of core) (index_of reading f.lines) f.set) None log

pub check_adds_of_two : (core1 log1 core2 log2 : List ℕ) (reading : Distances) (skip : Skip) (workers others : ℕ) (a b : Found)
    → (f : FindsTwo core1 log1 core2 log2 reading skip true workers a) → FindsTwo core1 log1 core2 log2 reading skip false others b → b.report.items ≡ told_text (without_misfits (told_by_two f))
check_adds_of_two core1 log1 core2 log2 reading skip workers others a b f g =
    let h = later_of core1 log1 core2 log2 reading skip true false workers others a b f g in
    let s = sets_are_one _ _ h.set f.finds.set h.marked f.finds.marked in
    h.report ∙ ap (λ (t : List Bool). text_of (head_by f) (live_of f.second.lines) t (heads_of (word_of core2) (index_of reading f.second.lines) t) None log2) s
    ∙ report_is_told (head_by f) (live_of f.second.lines) f.finds.set (heads_of (word_of core2) (index_of reading f.second.lines) f.finds.set) None log2
