-- Worked warnings, of one input and of two.
use Rattle.std.specs.Prelude.{◌≡◌, ℕ, ◌++◌, List, [], ◌∷◌, codes}
use Rattle.leak_report.specs.declared.signs.Signs.{Signs}
use Rattle.leak_report.specs.Warnings.{warnings_of}

abbrev pub signs : ℕ → ℕ → ℕ → ℕ → ℕ → Signs
signs live torn unknown displaced misfits =
    record { live = live; torn = torn; unknown = unknown; displaced = displaced; misfits = misfits }

abbrev pub no_chunk : List ℕ
no_chunk = codes " live blocks have no chunk of their size in use in the core: the log is of another moment, or of another process\n"

pub record AreWorkedWarnings : Type 0 where
  pub nothing_odd : warnings_of (signs 1 0 0 0 0 ∷ []) ≡ []
  pub no_block : warnings_of (signs 0 0 0 0 0 ∷ [])
      ≡ codes "leak_find: warning: input 1: no live block: the log shows no allocation that was kept\n"
  pub no_chunks : warnings_of (signs 1 0 0 0 1 ∷ []) ≡ codes "leak_find: warning: input 1: 1 of 1" ++ no_chunk
  pub in_order : warnings_of (signs 12 1 2 3 4 ∷ [])
      ≡ codes "leak_find: warning: input 1: the log ends inside a line: its last calls are missing\n"
      ++ codes "leak_find: warning: input 1: 2 give-backs of blocks that were not live: tracing began late, or lines are missing\n"
      ++ codes "leak_find: warning: input 1: 3 allocations over a live block: lines are missing or out of order\n"
      ++ codes "leak_find: warning: input 1: 4 of 12" ++ no_chunk
  pub two_inputs : warnings_of (signs 1 1 0 0 0 ∷ signs 0 0 1 0 0 ∷ [])
      ≡ codes "leak_find: warning: input 1: the log ends inside a line: its last calls are missing\n"
      ++ codes "leak_find: warning: input 2: no live block: the log shows no allocation that was kept\n"
      ++ codes "leak_find: warning: input 2: 1 give-backs of blocks that were not live: tracing began late, or lines are missing\n"
  pub second_alone : warnings_of (signs 3 0 0 0 0 ∷ signs 2 0 0 1 0 ∷ [])
      ≡ codes "leak_find: warning: input 2: 1 allocations over a live block: lines are missing or out of order\n"
