-- The bytes of a report are those of its lines.
use Rattle.std.proofs.Common.{◌≡◌, ℕ, Bool, List, [], ◌∷◌, ◌++◌, map, flat_map, Option, None, Some, refl, sym, ap, ◌∙◌}
use Rattle.leak_blocks.specs.declared.block.Block.{Block}
use Rattle.leak_report.specs.declared.head.Head.{Head}
use Rattle.leak_report.specs.declared.totals.CallerRow.{CallerRow}
use Rattle.leak_report.specs.Lines.{caller_line, leak_line}
use Rattle.leak_report.specs.Misfits.{misfit_lines, misfit_sums, misfits_in}
use Rattle.leak_report.specs.Report.{sums_of, text_of}
use Rattle.leak_report.specs.declared.leaked.Leak.{Leak}
use Rattle.leak_report.specs.Totals.{leaks_in, rows_of}
use Rattle.leak_laws.specs.Reports.{misfit_rows_told, misfits_told, told_caller, told_leak, told_misfit, told_of}
use Rattle.leak_laws.specs.Told.{caller_text, leak_text, misfit_text, number_lines, told_text}

pub flat_mapped : {X Y : Type 0} (line : Y → List ℕ) (told : X → Y) (xs : List X) → flat_map line (map told xs) ≡ flat_map (λ x. line (told x)) xs
flat_mapped line told [] = refl
flat_mapped line told (x ∷ xs) = ap (λ (r : List ℕ). line (told x) ++ r) (flat_mapped line told xs)

numbers_told : (fits : Option (List Bool)) (blocks : List Block) → misfit_sums fits blocks ≡ number_lines (misfits_told fits blocks)
numbers_told None blocks = refl
numbers_told (Some fits) blocks = refl

misfits_are_told : (log : List ℕ) (fits : Option (List Bool)) (blocks : List Block) → misfit_lines log fits blocks ≡ flat_map misfit_text (misfit_rows_told log fits blocks)
misfits_are_told log None blocks = refl
misfits_are_told log (Some fits) blocks = sym (flat_mapped misfit_text (told_misfit log) (misfits_in fits blocks))

pub report_is_told : (head : Head) (blocks : List Block) (set heads : List Bool) (fits : Option (List Bool)) (log : List ℕ) → text_of head blocks set heads fits log ≡ told_text (told_of head blocks set heads fits log)
unfolding text_of
report_is_told head blocks set heads fits log =
    let leaks : List Leak = leaks_in set heads blocks in
    let rows : List CallerRow = rows_of log (leaks_in set heads blocks) in
    ap (λ (ns : List ℕ). sums_of head blocks set heads ++ ns ++ flat_map (caller_line log) rows ++ flat_map (leak_line log) leaks ++ misfit_lines log fits blocks) (numbers_told fits blocks)
    ∙ ap (λ (cs : List ℕ). sums_of head blocks set heads ++ number_lines (misfits_told fits blocks) ++ cs ++ flat_map (leak_line log) leaks ++ misfit_lines log fits blocks) (sym (flat_mapped caller_text (told_caller log) rows))
    ∙ ap (λ (ls : List ℕ). sums_of head blocks set heads ++ number_lines (misfits_told fits blocks) ++ flat_map caller_text (map (told_caller log) rows) ++ ls ++ misfit_lines log fits blocks) (sym (flat_mapped leak_text (told_leak log) leaks))
    ∙ ap (λ (ms : List ℕ). sums_of head blocks set heads ++ number_lines (misfits_told fits blocks) ++ flat_map caller_text (map (told_caller log) rows) ++ flat_map leak_text (map (told_leak log) leaks) ++ ms) (misfits_are_told log fits blocks)
