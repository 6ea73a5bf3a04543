-- What grew between two logs whose lines are known.
use Rattle.std.proofs.Common.{◌≡◌, ℕ, ◌+◌, ◌^◌, true, List, [], ◌∷◌, ◌++◌, length, sym, ap₂, ◌∙◌}
use Rattle.std.specs.Prelude.{nat_lt}
use Rattle.std.proofs.lemmas.Bool.{ltb-true}
use Rattle.leak_mtrace.specs.declared.line.Line.{Line}
use Rattle.leak_mtrace.specs.Log.{IsLog, is_continued_by}
use Rattle.leak_mtrace.proofs.SameLogLemmas.{logs_are_one}
use Rattle.leak_blocks.specs.Live.{live_of}
use Rattle.leak_report.specs.declared.signs.Signs.{Signs}
use Rattle.leak_growth.specs.Growth.{log_signs}
use Rattle.leak_growth.specs.Report.{growth_text}
use Rattle.leak_examples.specs.Growth.{HaveGrown}

pub have_grown : (log1 log2 : List ℕ) (before now after : List Line) (s t : Signs) (report : List ℕ) → IsLog log1 before → IsLog log2 now → is_continued_by log1 log2 ≡ true → now ≡ before ++ after
    → nat_lt (length (live_of before) + length (live_of now)) (2 ^ 32) ≡ true → growth_text log1 before log2 now ≡ report → log_signs log1 before ≡ s → log_signs log2 now ≡ t → HaveGrown log1 log2 s t report
have_grown log1 log2 before now after s t report is_before is_now continued lines few told early late = record {
  report_is = λ grown f. f.report ∙ ap₂ (λ (b n : List Line). growth_text log1 b log2 n) (logs_are_one log1 f.before before f.is_before is_before) (logs_are_one log2 f.now now f.is_now is_now) ∙ told;
  signs_are = λ grown f. f.signs ∙ ap₂ (λ (b n : List Line). log_signs log1 b ∷ log_signs log2 n ∷ []) (logs_are_one log1 f.before before f.is_before is_before) (logs_are_one log2 f.now now f.is_now is_now)
      ∙ ap₂ (λ (x y : Signs). x ∷ y ∷ []) early late;
  allowed = λ grown r g. record {
    before = before;
    now = now;
    is_before = is_before;
    is_now = is_now;
    continued = continued;
    lines = (after, lines);
    few = ltb-true (length (live_of before) + length (live_of now)) (2 ^ 32) few;
    report = r ∙ sym told;
    signs = g ∙ sym (ap₂ (λ (x y : Signs). x ∷ y ∷ []) early late);
  };
}
