-- A log has one list of lines, tests of a set of blocks are one list, and so are the numbers of the pages that differ.
use Rattle.std.proofs.Common.{◌≡◌, ℕ, ◌<◌, Bool, List, [], ◌∷◌, length, Option, sym, ap, subst, ◌∙◌}
use Rattle.leak_elf.specs.Words.{word_of}
use Rattle.leak_mtrace.specs.declared.line.Line.{Line}
use Rattle.leak_mtrace.proofs.SameLogLemmas.{logs_are_one}
use Rattle.leak_blocks.specs.Live.{live_of}
use Rattle.leak_index.specs.Leads.{Distances}
use Rattle.leak_roots.specs.declared.skip.Skip.{Skip}
use Rattle.leak_scan.specs.Heads.{heads_of}
use Rattle.leak_marks.specs.Reach.{Reach}
use Rattle.leak_pool.specs.Marking.{IsSet}
use Rattle.leak_later.specs.Differing.{AreDiffering}
use Rattle.leak_report.specs.declared.signs.Signs.{Signs}
use Rattle.leak_report.specs.Totals.{leaked_in}
use Rattle.leak_report.specs.Report.{text_of}
use Rattle.leak_search.specs.declared.found.Found.{Found}
use Rattle.leak_search.specs.Signs.{AreSigns, fits_told, signs_of}
use Rattle.leak_search.specs.Search.{FindsOne, graph_of_one, head_of_one, index_of}
use Rattle.leak_search.specs.SearchTwo.{FindsLater, FindsTwo, IsMarkedEarlier, kept_blocks, new_blocks}
use Rattle.leak_laws.specs.Same.{IsSameReport}
use Rattle.leak_laws.proofs.Lists.{ascending_are_one, bools_are_one}

-- tests of one set
pub sets_are_one : (n : ℕ) (set : ℕ → Type 0) (xs ys : List Bool) → IsSet xs n set → IsSet ys n set → xs ≡ ys
sets_are_one n set xs ys p q =
    bools_are_one xs ys (p.len ∙ sym q.len)
    (λ i l e. let h = subst (λ (m : ℕ). i < m) p.len l in (q.each i h).1 ((p.each i h).0 e))
    (λ i l e. let h = subst (λ (m : ℕ). i < m) p.len l in (p.each i h).1 ((q.each i h).0 e))

-- ---- one core

text_one : List ℕ → List ℕ → Distances → Skip → Bool → List Line → List Bool → List ℕ
text_one core log reading skip check lines set =
    text_of (head_of_one core log skip lines) (live_of lines) set (heads_of (word_of core) (index_of reading lines) set) (fits_told check core lines) log

pub one_report : (core log : List ℕ) (reading : Distances) (skip : Skip) (check : Bool) (workers others : ℕ) (a b : Found)
    → FindsOne core log reading skip check workers a → FindsOne core log reading skip check others b → IsSameReport a b
unfolding text_one
one_report core log reading skip check workers others a b f g =
    let e : f.lines ≡ g.lines = logs_are_one log f.lines g.lines f.is_log g.is_log in
    let marked : IsSet g.set (length (live_of f.lines)) (Reach (graph_of_one core reading skip f.lines)) =
    subst (λ (l : List Line). IsSet g.set (length (live_of l)) (Reach (graph_of_one core reading skip l))) (sym e) g.marked in
    let s : f.set ≡ g.set = sets_are_one (length (live_of f.lines)) (Reach (graph_of_one core reading skip f.lines)) f.set g.set f.marked marked in
    record {
      report = f.report ∙ ap (λ (l : List Line). text_one core log reading skip check l f.set) e ∙ ap (text_one core log reading skip check g.lines) s ∙ sym g.report;
      leaked = f.leaked ∙ ap (λ (l : List Line). length (leaked_in f.set (live_of l))) e ∙ ap (λ (t : List Bool). length (leaked_in t (live_of g.lines))) s ∙ sym g.leaked;
    }

-- ---- two cores

-- the pages that differ
pub pages_are_one : (before now : ℕ → Option ℕ) (xs ys : List ℕ) → AreDiffering before now xs → AreDiffering before now ys → xs ≡ ys
pages_are_one before now xs ys p q =
    ascending_are_one xs ys p.ascending q.ascending (λ z has. (q.each z).1 ((p.each z).0 has)) (λ z has. (p.each z).1 ((q.each z).0 has))

later_report : (core log : List ℕ) (reading : Distances) (skip : Skip) (check : Bool) (lines : List Line) (pages kept fresh : List ℕ) (workers others : ℕ) (a b : Found)
    → FindsLater core log reading skip check lines pages kept fresh workers a → FindsLater core log reading skip check lines pages kept fresh others b → IsSameReport a b
later_report core log reading skip check lines pages kept fresh workers others a b f g =
    let s : f.set ≡ g.set = sets_are_one _ _ f.set g.set f.marked g.marked in
    record {
      report = f.report ∙ ap (λ (t : List Bool). text_of _ (live_of lines) t (heads_of (word_of core) (index_of reading lines) t) (fits_told check core lines) log) s ∙ sym g.report;
      leaked = f.leaked ∙ ap (λ (t : List Bool). length (leaked_in t (live_of lines))) s ∙ sym g.leaked;
    }

-- what the second search finds in the later core, told by the lines, the marked set and the pages of the first
pub later_of : (core1 log1 core2 log2 : List ℕ) (reading : Distances) (skip : Skip) (check other : Bool) (workers others : ℕ) (a b : Found)
    → (f : FindsTwo core1 log1 core2 log2 reading skip check workers a) → FindsTwo core1 log1 core2 log2 reading skip other others b
    → FindsLater core2 log2 reading skip other f.second.lines f.pages (kept_blocks f.first.lines f.earlier f.second.lines) (new_blocks f.first.lines f.second.lines) others b
later_of core1 log1 core2 log2 reading skip check other workers others a b f g =
    let before : f.first.lines ≡ g.first.lines = logs_are_one log1 f.first.lines g.first.lines f.first.log_is g.first.log_is in
    let now : f.second.lines ≡ g.second.lines = logs_are_one log2 f.second.lines g.second.lines f.second.log_is g.second.log_is in
    let pages : f.pages ≡ g.pages = pages_are_one (word_of core1) (word_of core2) f.pages g.pages f.differing g.differing in
    let marked : IsMarkedEarlier core1 reading skip f.first.lines g.earlier = subst (λ (l : List Line). IsMarkedEarlier core1 reading skip l g.earlier) (sym before) g.marked in
    let earlier : f.earlier ≡ g.earlier = sets_are_one _ _ f.earlier g.earlier f.marked marked in
    let one = subst (λ (l : List Line). FindsLater core2 log2 reading skip other g.second.lines g.pages (kept_blocks l g.earlier g.second.lines) (new_blocks l g.second.lines) others b) (sym before) g.finds in
    let two = subst (λ (l : List Line). FindsLater core2 log2 reading skip other l g.pages (kept_blocks f.first.lines g.earlier l) (new_blocks f.first.lines l) others b) (sym now) one in
    let three = subst (λ (ps : List ℕ). FindsLater core2 log2 reading skip other f.second.lines ps (kept_blocks f.first.lines g.earlier f.second.lines) (new_blocks f.first.lines f.second.lines) others b) (sym pages) two in
    subst (λ (t : List Bool). FindsLater core2 log2 reading skip other f.second.lines f.pages (kept_blocks f.first.lines t f.second.lines) (new_blocks f.first.lines f.second.lines) others b) (sym earlier) three

pub two_report : (core1 log1 core2 log2 : List ℕ) (reading : Distances) (skip : Skip) (check : Bool) (workers others : ℕ) (a b : Found)
    → FindsTwo core1 log1 core2 log2 reading skip check workers a → FindsTwo core1 log1 core2 log2 reading skip check others b → IsSameReport a b
two_report core1 log1 core2 log2 reading skip check workers others a b f g =
    later_report core2 log2 reading skip check f.second.lines f.pages (kept_blocks f.first.lines f.earlier f.second.lines) (new_blocks f.first.lines f.second.lines) workers others a b f.finds
    (later_of core1 log1 core2 log2 reading skip check check workers others a b f g)

-- ---- signs

pub one_signs : (heap : Bool) (inputs : List (List ℕ)) (a b : List Signs) → AreSigns heap inputs a → AreSigns heap inputs b → a ≡ b
one_signs heap [] a b p q = p ∙ sym q
one_signs heap (core ∷ []) a b p q = absurd p
one_signs heap (core ∷ log ∷ inputs) [] b p q = absurd p
one_signs heap (core ∷ log ∷ inputs) (s ∷ a) [] p q = absurd q
one_signs heap (core ∷ log ∷ inputs) (s ∷ a) (t ∷ b) p q =
    let lines : p.0.0 ≡ q.0.0 = logs_are_one log p.0.0 q.0.0 p.0.1 q.0.1 in
    let first : s ≡ t = p.0.2 ∙ ap (signs_of heap core log) lines ∙ sym q.0.2 in
    let rest : a ≡ b = one_signs heap inputs a b p.1 q.1 in
    cc
