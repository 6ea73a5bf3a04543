-- What is known of two logs that were replayed.
use Rattle.std.proofs.Common.{◌≡◌, ℕ, ◌+◌, ◌-◌, ◌<◌, ◌≤◌, ◌^◌, ◌==◌, inl, inr, Bool, true, List, [], ◌∷◌, length, take, refl, sym, ap, subst, ◌∙◌, arith, IsTrue, IsFalse}
use Rattle.std.specs.List.{AllByRecursion, AllZip, count_by}
use Rattle.std.proofs.lemmas.Bool.{lt-ltb}
use Rattle.std.proofs.lemmas.List.{length-take-le}
use Rattle.std.proofs.lemmas.List.Splits.{length-slice_split}
use Rattle.leak_blocks.proofs.StepLemmas.{replayed as blocks_are}
use Rattle.leak_mtrace.specs.declared.line.Line.{Line}
use Rattle.leak_mtrace.specs.Log.{IsLog, IsGoodLine, with_places, whole_lines, pieces, torn_of, is_continued_by}
use Rattle.leak_mtrace.proofs.SameLogLemmas.{logs_continue}
use Rattle.leak_blocks.specs.declared.block.Block.{Block}
use Rattle.leak_blocks.specs.declared.replaying.Replayed.{Replayed}
use Rattle.leak_blocks.specs.Live.{Replay, live_of, replay_of}
use Rattle.leak_blocks.specs.Laws.{IsOfLine}
use Rattle.leak_blocks.specs.Outcome.{IsReplayOf}
use Rattle.leak_blocks.proofs.LineLemmas.{live_of_lines}
use Rattle.leak_report.specs.declared.signs.Signs.{Signs}
use Rattle.leak_report.specs.Totals.{HaveCallersIn}
use Rattle.leak_report.proofs.Callers.{have_callers}
use Rattle.leak_lemmas.proofs.Members.{each_implied}
use Rattle.leak_search.specs.declared.error.FindError.TheVariants.{NotPrefix, TooMany}
use Rattle.leak_growth.specs.declared.growth.Grown.{Grown}
use Rattle.leak_growth.specs.Rows.{new_of}
use Rattle.leak_growth.specs.Report.{report_of}
use Rattle.leak_growth.specs.Growth.{FindsGrowth, IsFaultOfGrowth, log_signs, read_signs}

read_blocks : (log : List ℕ) (r : Replayed) (read : IsReplayOf log r) → r.live.blocks ≡ live_of read.0
read_blocks log r read = ap (λ (p : Replay). p.blocks) read.1.live ∙ blocks_are read.0

pub callers_in : (log : List ℕ) (r : Replayed) → IsReplayOf log r → HaveCallersIn log r.live.blocks
callers_in log r read = subst (λ (bs : List Block). HaveCallersIn log bs) (sym (read_blocks log r read)) (have_callers live_of_lines log read.0 read.1.callers)

all_counted : (bs : List Block) → AllByRecursion (λ b. 0 < b.line) bs → new_of 0 bs ≡ bs
all_counted [] all = refl
all_counted (b ∷ bs) all = let counts = lt-ltb 0 b.line all.0 in rw (counts, all_counted bs all.1) refl

-- lines are numbered from 1
pub all_numbered : (log : List ℕ) (r : Replayed) → IsReplayOf log r → new_of 0 r.live.blocks ≡ r.live.blocks
all_numbered log r read =
    subst (λ (bs : List Block). new_of 0 bs ≡ bs) (sym (read_blocks log r read))
    (all_counted (live_of read.0) (each_implied (IsOfLine read.0) (λ b. 0 < b.line) (λ b is. is.numbered) (live_of read.0) (live_of_lines read.0)))

length-with_places : (at : ℕ) (ts : List (List ℕ)) → length (with_places at ts) ≡ length ts
length-with_places at [] = refl
length-with_places at (t ∷ ts) = omega (arith, length-with_places (at + length t + 1) ts)

length-zipped : {A B : Type 0} (R : A → B → Type 0) (xs : List A) (ys : List B) → AllZip R xs ys → length xs ≡ length ys
length-zipped R [] [] all = refl
length-zipped R [] (y ∷ ys) all = absurd all
length-zipped R (x ∷ xs) [] all = absurd all
length-zipped R (x ∷ xs) (y ∷ ys) all = omega (arith, length-zipped R xs ys all.1)

-- a log has a line for each line feed
pub lines_counted : (log : List ℕ) (lines : List Line) → IsLog log lines → count_by (λ b. b == 10) log ≡ length lines
unfolding IsLog
lines_counted log lines is =
    let split = length-slice_split (λ b. b == 10) log in
    let long : length (whole_lines log) ≡ length (pieces log) - 1 = length-take-le (length (pieces log) - 1) (pieces log) (omega arith) in
    let same = length-zipped IsGoodLine (with_places 0 (whole_lines log)) lines is in
    omega (arith, split, long, same, length-with_places 0 (whole_lines log))

same_signs : (log : List ℕ) (r : Replayed) (read : IsReplayOf log r) → read_signs r ≡ log_signs log read.0
unfolding replay_of
same_signs log r read =
    ap (λ (p : Replay). record { live = length p.blocks; torn = r.torn; unknown = p.unknown; displaced = p.displaced; misfits = 0 }) read.1.live
    ∙ ap (λ (n : ℕ). record { live = length (live_of read.0); torn = n; unknown = (replay_of read.0).unknown; displaced = (replay_of read.0).displaced; misfits = 0 }) read.1.torn

pub finds : (log1 log2 : List ℕ) (first second : Replayed) (after : ℕ) (grown : Grown) → IsReplayOf log1 first → IsReplayOf log2 second → IsTrue (is_continued_by log1 log2)
    → length first.live.blocks + length second.live.blocks < 2 ^ 32 → after ≡ count_by (λ b. b == 10) log1
    → grown.report.items ≡ report_of log1 first.live log2 second.live second.torn after
    → grown.signs.items ≡ read_signs first ∷ read_signs second ∷ []
    → FindsGrowth log1 log2 grown
finds log1 log2 first second after grown read1 read2 continued few counted report signs = record {
  before = read1.0;
  now = read2.0;
  is_before = read1.1.is_log;
  is_now = read2.1.is_log;
  continued = continued;
  lines = logs_continue log1 log2 read1.0 read2.0 continued read1.1.is_log read2.1.is_log;
  few = omega (arith, few, ap length (read_blocks log1 first read1), ap length (read_blocks log2 second read2));
  report = report ∙ ap (λ (p : Replay). report_of log1 p log2 second.live second.torn after) read1.1.live ∙ ap (λ (p : Replay). report_of log1 (replay_of read1.0) log2 p second.torn after) read2.1.live
      ∙ ap (λ (n : ℕ). report_of log1 (replay_of read1.0) log2 (replay_of read2.0) n after) read2.1.torn
      ∙ ap (λ (n : ℕ). report_of log1 (replay_of read1.0) log2 (replay_of read2.0) (torn_of log2) n) (counted ∙ lines_counted log1 read1.0 read1.1.is_log);
  signs = signs ∙ ap (λ (x : Signs). x ∷ read_signs second ∷ []) (same_signs log1 first read1) ∙ ap (λ (x : Signs). log_signs log1 read1.0 ∷ x ∷ []) (same_signs log2 second read2);
}

pub too_many : (log1 log2 : List ℕ) (first second : Replayed) → IsReplayOf log1 first → IsReplayOf log2 second → IsTrue (is_continued_by log1 log2)
    → 2 ^ 32 ≤ length first.live.blocks + length second.live.blocks → IsFaultOfGrowth log1 log2 TooMany
too_many log1 log2 first second read1 read2 continued many =
    (continued, (read1.0, read2.0, read1.1.is_log, read2.1.is_log, omega (arith, many, ap length (read_blocks log1 first read1), ap length (read_blocks log2 second read2))))
