-- Whole runs that tell who holds the memory, answer a question, or tell what grew: over the same bytes they write the same.
use Rattle.std.specs.Prelude.{◌≡◌, ℕ, List, length, Option}
use Rattle.leak_holders.specs.declared.question.Question.{Question}
use Rattle.leak_request.specs.declared.options.GrowOptions.{GrowOptions}
use Rattle.leak_request.specs.declared.options.Options.{Options}
use Rattle.leak_find.specs.Run.{Runs}
use Rattle.leak_find.specs.Streams.{by_bytes_held, by_bytes_left}
use Rattle.leak_find.specs.declared.task.Task.TheVariants.{Grow, Holders, Why}
use Rattle.leak_laws.specs.Runs.{AreAlike, AskAlike, HoldAlike}

-- who holds the memory or, if there is a question, its answer
abbrev pub HoldersRunsAreOne : Type 0
HoldersRunsAreOne =
    (a b : Options) (question : Option Question) (before after readers left : List (Option (List ℕ))) (held holds heard hears other others told tells : Option (List ℕ)) (status same : ℕ)
    → AskAlike a b → length before ≡ length readers → HoldAlike (length before) before readers
    → Runs by_bytes_left by_bytes_held by_bytes_held (Holders a question) before after held holds heard hears status
    → Runs by_bytes_left by_bytes_held by_bytes_held (Holders b question) readers left other others told tells same
    → AreAlike held holds other others status same

-- what grew
abbrev pub GrowRunsAreOne : Type 0
GrowRunsAreOne =
    (a b : GrowOptions) (before after readers left : List (Option (List ℕ))) (held holds heard hears other others told tells : Option (List ℕ)) (status same : ℕ)
    → a.strict ≡ b.strict → HoldAlike 2 before readers
    → Runs by_bytes_left by_bytes_held by_bytes_held (Grow a) before after held holds heard hears status
    → Runs by_bytes_left by_bytes_held by_bytes_held (Grow b) readers left other others told tells same
    → AreAlike held holds other others status same

-- why a block is held: the status alone, since any of the shortest chains may be told
abbrev pub WhyRunsAreOne : Type 0
WhyRunsAreOne =
    (a b : Options) (address : ℕ) (before after readers left : List (Option (List ℕ))) (held holds heard hears other others told tells : Option (List ℕ)) (status same : ℕ)
    → AskAlike a b → HoldAlike 2 before readers
    → Runs by_bytes_left by_bytes_held by_bytes_held (Why a address) before after held holds heard hears status
    → Runs by_bytes_left by_bytes_held by_bytes_held (Why b address) readers left other others told tells same
    → status ≡ same
