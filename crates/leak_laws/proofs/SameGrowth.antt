-- Logs have one list of lines, and the report is a function of these.
use Rattle.std.proofs.Common.{◌≡◌, ℕ, List, [], ◌∷◌, sym, ap, ◌∙◌}
use Rattle.leak_mtrace.specs.declared.line.Line.{Line}
use Rattle.leak_mtrace.proofs.SameLogLemmas.{logs_are_one}
use Rattle.leak_growth.specs.declared.growth.Grown.{Grown}
use Rattle.leak_growth.specs.Growth.{FindsGrowth, log_signs}
use Rattle.leak_growth.specs.Report.{growth_text}
use Rattle.leak_laws.specs.Growth.{IsSameGrowth}

pub one_growth : (log1 log2 : List ℕ) (a b : Grown) → FindsGrowth log1 log2 a → FindsGrowth log1 log2 b → IsSameGrowth a b
one_growth log1 log2 a b f g =
    let before : f.before ≡ g.before = logs_are_one log1 f.before g.before f.is_before g.is_before in
    let now : f.now ≡ g.now = logs_are_one log2 f.now g.now f.is_now g.is_now in
    record {
      report = f.report ∙ ap (λ (l : List Line). growth_text log1 l log2 f.now) before ∙ ap (growth_text log1 g.before log2) now ∙ sym g.report;
      signs = f.signs ∙ ap (λ (l : List Line). log_signs log1 l ∷ log_signs log2 f.now ∷ []) before ∙ ap (λ (l : List Line). log_signs log1 g.before ∷ log_signs log2 l ∷ []) now ∙ sym g.signs;
    }
