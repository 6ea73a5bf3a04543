-- Worked statuses: of a search by its leaks and warnings, and of a question about a block.
use Rattle.std.specs.Prelude.{◌≡◌, Bool, true, false, [], ◌∷◌, codes}
use Rattle.leak_report.specs.Warnings.{warnings_of}
use Rattle.leak_report.specs.declared.signs.Signs.{Signs}
use Rattle.leak_search.specs.Signs.{misfits_counted}
use Rattle.leak_find.specs.Run.{status_by}
use Rattle.leak_find.specs.Answers.{leaked_if_not}

-- the signs of a core that fits its log, and of one with a block that doesn't, by whether the heap is another than glibc's
abbrev pub well : Signs
well = record { live = 2; torn = 0; unknown = 0; displaced = 0; misfits = 0 }

abbrev pub odd : Bool → Signs
odd other_heap = record { live = 2; torn = 0; unknown = 0; displaced = 0; misfits = misfits_counted other_heap (true ∷ false ∷ []) }

pub record AreWorkedStatuses : Type 0 where
  pub none : status_by false 0 [] ≡ 0
  pub some : status_by false 1 [] ≡ 1
  pub many : status_by false 4294967296 [] ≡ 1
  pub strict : status_by true 0 [] ≡ 0
  pub strict_leaks : status_by true 2 [] ≡ 1
  pub warned : status_by false 0 (codes "leak_find: warning\n") ≡ 0
  pub warned_leaks : status_by false 2 (codes "leak_find: warning\n") ≡ 1
  pub strict_warned : status_by true 0 (codes "leak_find: warning\n") ≡ 3
  pub strict_warned_leaks : status_by true 2 (codes "leak_find: warning\n") ≡ 3
  pub fits : status_by true 0 (warnings_of (well ∷ [])) ≡ 0
  pub misfit : status_by true 0 (warnings_of (odd false ∷ [])) ≡ 3
  pub misfit_of_other_heap : status_by true 0 (warnings_of (odd true ∷ [])) ≡ 0
  pub held : status_by false (leaked_if_not true) [] ≡ 0
  pub lost : status_by false (leaked_if_not false) [] ≡ 1
  pub held_in_an_odd_core : status_by true (leaked_if_not true) (warnings_of (odd false ∷ [])) ≡ 3
  pub lost_in_an_odd_core : status_by false (leaked_if_not false) (warnings_of (odd false ∷ [])) ≡ 1
