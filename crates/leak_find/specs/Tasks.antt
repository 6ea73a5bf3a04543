-- What is asked of the inputs of a run.
use Rattle.std.specs.Prelude.{◌≡◌, ◌⊎◌, ℕ, ◌%◌, ◌==◌, Bool, if◌then◌else◌}
use Rattle.leak_request.specs.declared.options.Options.{Options}
use Rattle.leak_request.specs.Requests.{file_count}
use Rattle.leak_find.specs.declared.task.Task.{Task}
use Rattle.leak_find.specs.declared.task.Task.TheVariants.{Search, Why, Holders, Grow}

-- the task is asked of so many inputs
abbrev pub TakesInputs : Task → ℕ → Type 0
TakesInputs (Search o) count = count ≡ file_count o.two
TakesInputs (Why o address) count = count ≡ 2
TakesInputs (Holders o question) count = (count ≡ 2) ⊎ (count ≡ 3)
TakesInputs (Grow o) count = count ≡ 2

-- the first input is a core, and the others are logs
abbrev pub limit_beside : Options → ℕ → ℕ
limit_beside o i = if i == 0 then o.core_limit else o.log_limit

-- how many bytes the input with the number, from 0, may have; in a search cores and logs take turns
abbrev pub limit_at : Task → ℕ → ℕ
limit_at (Search o) i = if i % 2 == 0 then o.core_limit else o.log_limit
limit_at (Why o address) i = limit_beside o i
limit_at (Holders o question) i = limit_beside o i
limit_at (Grow o) i = o.log_limit

-- whether a warning has a status of its own
abbrev pub is_strict : Task → Bool
is_strict (Search o) = o.strict
is_strict (Why o address) = o.strict
is_strict (Holders o question) = o.strict
is_strict (Grow o) = o.strict
