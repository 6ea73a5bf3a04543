-- The places of the texts so far.
use Rattle.std.proofs.Common.{◌≡◌, ◌<◌, length, map, take}
use Rattle.std.specs.List.{All}
use Rattle.leak_report.specs.Numbered.{bytes_each, text_with}
use Rattle.leak_report.proofs.numbering.places.Given as goal

abbrev pub invariant-loop-text : goal.invariant-loop-text
invariant-loop-text l = (map (text_with (bytes_each l.sorted)) l.places.items ≡ bytes_each (take l.text-index l.texts)) × All (λ n. n < length l.sorted) l.places.items
