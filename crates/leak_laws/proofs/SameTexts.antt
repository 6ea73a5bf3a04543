-- A caller has the same text in a log and in one that continues it.
use Rattle.std.proofs.Common.{◌≡◌, ℕ, ◌-◌, ◌≤◌, ◌==◌, false, List, [], ◌∷◌, ◌++◌, length, take, drop, refl, sym, ap, subst, ◌∙◌, arith, IsTrue, append-nil}
use Rattle.std.specs.Prelude.{nat_lt, if◌then◌else◌}
use Rattle.std.specs.List.{AllByRecursion, AllZip}
use Rattle.std.proofs.lemmas.Bool.Decides.{Decides-eqb}
use Rattle.std.proofs.lemmas.List.{drop-append-le, length-drop, take-append-le}
use Rattle.std.proofs.lemmas.List.Elements.{All-nil}
use Rattle.std.proofs.lemmas.Slice.Eq.{starts_is}
use Rattle.leak_mtrace.specs.declared.line.Line.{Line}
use Rattle.leak_mtrace.specs.Log.{IsGoodLine, IsLog, is_continued_by, whole_len_of, whole_lines, with_places}
use Rattle.leak_mtrace.proofs.CallerLemmas.{callers_are_in}
use Rattle.leak_mtrace.proofs.CutLemmas.{Cut, bytes_of_cut, cut_of, joined, lines_of_cut}
use Rattle.leak_blocks.specs.Live.{live_of}
use Rattle.leak_blocks.proofs.LineLemmas.{live_of_lines}
use Rattle.leak_report.specs.Totals.{HaveCallersIn, IsIn, text_at}
use Rattle.leak_report.proofs.Callers.{have_callers}
use Rattle.leak_lemmas.proofs.Members.{each_implied}

-- the text of a range of the front
text_of_front : (front rest : List ℕ) (caller : ℕ × ℕ) → IsIn front caller → text_at (front ++ rest) caller ≡ text_at front caller
text_of_front front rest caller is =
    let low : caller.0 ≤ length front = omega (arith, is.order, is.within) in
    let inside : caller.1 - caller.0 ≤ length (drop caller.0 front) = omega (arith, length-drop caller.0 front, is.within) in
    let same = ap (take (caller.1 - caller.0)) (drop-append-le caller.0 front rest low) ∙ take-append-le (caller.1 - caller.0) (drop caller.0 front) rest inside in
    ap (λ (text : List ℕ). if nat_lt caller.0 caller.1 then text else 63 ∷ []) same

-- the complete lines alone have the lines of the log
lines_alone : (log : List ℕ) (lines : List Line) → IsLog log lines → (c : Cut log) → IsLog (joined c.texts) lines
unfolding IsLog
lines_alone log lines is c =
    let front : Cut (joined c.texts) = record { texts = c.texts; torn = []; whole = sym (append-nil (joined c.texts)); plain = c.plain; rest = All-nil (λ b. (b == 10) ≡ false) } in
    let same : whole_lines log ≡ whole_lines (joined c.texts) = lines_of_cut log c ∙ sym (lines_of_cut (joined c.texts) front) in
    subst (λ (texts : List (List ℕ)). AllZip IsGoodLine (with_places 0 texts) lines) same is

pub texts_are_same : (log1 log2 : List ℕ) (lines : List Line) → IsLog log1 lines → IsTrue (is_continued_by log1 log2)
    → AllByRecursion (λ b. text_at log1 b.caller ≡ text_at log2 b.caller) (live_of lines)
texts_are_same log1 log2 lines is continued =
    let c : Cut log1 = cut_of log1 in
    let front : List ℕ = joined c.texts in
    let begun : List ℕ = take (whole_len_of log1) log1 in
    let rest : List ℕ = drop (length begun) log2 in
    let second : log2 ≡ front ++ rest = (starts_is Decides-eqb log2 begun (is_continued_by log1 log2) refl).0 continued ∙ ap (λ (t : List ℕ). t ++ rest) (bytes_of_cut log1 c) in
    let callers : HaveCallersIn front (live_of lines) = have_callers live_of_lines front lines (callers_are_in front lines (lines_alone log1 lines is c)) in
    each_implied (λ b. IsIn front b.caller) (λ b. text_at log1 b.caller ≡ text_at log2 b.caller)
    (λ b inside. ap (λ (t : List ℕ). text_at t b.caller) c.whole ∙ text_of_front front c.torn b.caller inside ∙ sym (ap (λ (t : List ℕ). text_at t b.caller) second ∙ text_of_front front rest b.caller inside))
    (live_of lines) callers
