-- The rows of the leaked blocks so far.
use Rattle.std.proofs.Common.{map, take}
use Rattle.leak_report.specs.Listing.{leak_of}
use Rattle.leak_report.proofs.Ascending.{AreAscending}
use Rattle.leak_report.proofs.by_text.rows_by_text.Given as goal

abbrev pub invariant-loop-at : goal.invariant-loop-at
invariant-loop-at l = AreAscending l.leaked.prefix.now l.leaked.log.now (map (leak_of l.leaks) (take l.at-index l.at-items)) l.rows.items l.last
