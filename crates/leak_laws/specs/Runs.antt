-- What a whole run of a search writes: lines that belong together; and two runs over the same bytes write the same.
use Rattle.std.specs.Prelude.{◌≡◌, ◌<◌, ℕ, false, List, Option, None, Some, nat_lt, slice_index_or, if◌then◌else◌}
use Rattle.std.specs.Io.KnownBytes.{Appends}
use Rattle.leak_index.specs.Readings.{distances_of}
use Rattle.leak_request.specs.declared.options.Options.{Options}
use Rattle.leak_request.specs.Requests.{file_count}
use Rattle.leak_find.specs.Run.{Runs}
use Rattle.leak_find.specs.declared.task.Task.TheVariants.{Search}
use Rattle.leak_find.specs.Streams.{by_bytes_held, by_bytes_left}
use Rattle.leak_laws.specs.OneLine.{AreOfOneLine}
use Rattle.leak_laws.specs.Together.{BelongTogether}
use Rattle.leak_laws.specs.Told.{Told, told_text}

-- the options ask for the same; how marking is shared may differ, and how much is read at most
pub record AskAlike (a b : Options) : Type 0 where
  pub two : a.two ≡ b.two
  pub reading : distances_of a.reading ≡ distances_of b.reading
  pub skip : a.skip ≡ b.skip
  pub check : a.check ≡ b.check
  pub other_heap : a.other_heap ≡ b.other_heap
  pub strict : a.strict ≡ b.strict

-- the bytes that the reader with the number, from 0, has left, if it tells them
abbrev pub left_in : List (Option (List ℕ)) → ℕ → Option (List ℕ)
left_in readers i = slice_index_or readers i None

-- this many readers have the same bytes left as others, and tell them
abbrev pub HoldAlike : ℕ → List (Option (List ℕ)) → List (Option (List ℕ)) → Type 0
HoldAlike count readers others = (i : ℕ) → i < count → (bytes : List ℕ) × (left_in readers i ≡ Some bytes) × (left_in others i ≡ Some bytes)

-- the same bytes were written
pub record WriteAlike (held holds other others : Option (List ℕ)) : Type 0 where
  pub bytes : List ℕ
  pub first : Appends held holds bytes
  pub second : Appends other others bytes

-- two runs that end with a status
pub record AreAlike (held holds other others : Option (List ℕ)) (status same : ℕ) : Type 0 where
  pub written : WriteAlike held holds other others
  pub status_same : status ≡ same

abbrev pub RunsAreOne : Type 0
RunsAreOne =
    (a b : Options) (before after readers left : List (Option (List ℕ))) (held holds heard hears other others told tells : Option (List ℕ)) (status same : ℕ)
    → AskAlike a b → HoldAlike (file_count a.two) before readers
    → Runs by_bytes_left by_bytes_held by_bytes_held (Search a) before after held holds heard hears status
    → Runs by_bytes_left by_bytes_held by_bytes_held (Search b) readers left other others told tells same
    → AreAlike held holds other others status same

-- what was written has these lines, and the status is 1 if a block leaked, and otherwise 0, unless warnings have a status of their own
pub record IsRunReport (o : Options) (held holds : Option (List ℕ)) (status : ℕ) (t : Told) : Type 0 where
  pub written : Appends held holds (told_text t)
  pub together : BelongTogether t
  pub of_lines : AreOfOneLine t
  pub by_leaks : o.strict ≡ false → status ≡ (if nat_lt 0 t.leaked.blocks then 1 else 0)

abbrev pub RunsWriteReports : Type 0
RunsWriteReports =
    (o : Options) (before after : List (Option (List ℕ))) (held holds heard hears : Option (List ℕ)) (status : ℕ)
    → Runs by_bytes_left by_bytes_held by_bytes_held (Search o) before after held holds heard hears status → (t : Told) × IsRunReport o held holds status t
