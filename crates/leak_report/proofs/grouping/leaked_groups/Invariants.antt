-- The rows of the leaked blocks so far, by place.
use Rattle.std.proofs.Common.{map, take}
use Rattle.leak_report.specs.Groups.{AreGroups}
use Rattle.leak_report.specs.Listing.{leak_of}
use Rattle.leak_report.proofs.grouping.leaked_groups.Given as goal

abbrev pub invariant-loop-at : goal.invariant-loop-at
invariant-loop-at l = AreGroups l.leaked.prefix.now l.leaked.log.now (map (leak_of l.leaked.leaks.now) (take l.at-index l.placed)) l.groups
