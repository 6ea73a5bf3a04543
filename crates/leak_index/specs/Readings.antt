-- Readings: at which distances from its start a block is led to.
use Rattle.std.specs.Prelude.{ℕ, ◌-◌, Bool, true, false, List, length, take, nat_lt, if◌then◌else◌, Option, Some, None, option_map}
use Rattle.std.specs.List.{position_from}
use Rattle.leak_index.specs.Leads.{Distances}
use Rattle.leak_index.specs.declared.reading.Reading.{Reading}
use Rattle.leak_index.specs.declared.error.ReadingError.{ReadingError}
use Rattle.leak_index.specs.declared.error.ReadingError.TheVariants.{TooMany, TooLarge}

-- the listed displacements, or none if all distances count
abbrev pub listed_by : Reading → Option (List ℕ)
listed_by r = if r.interior then None else Some (take r.count r.values)

-- the distances that a reading stands for
abbrev pub distances_of : Reading → Distances
distances_of r = record { listed = listed_by r; skips_ends = r.skips_ends }

-- the greatest distance from the start of a block of the size that counts
abbrev pub last_of : Bool → ℕ → ℕ
last_of false size = size
last_of true size = size - 1

-- why the values are no reading, if they aren't: they are too many, or the first that is too large has the number
abbrev pub refusal_of : List ℕ → Option ReadingError
refusal_of values = if nat_lt 16 (length values) then Some TooMany else option_map TooLarge (position_from (nat_lt 65535) 0 values)
