-- The items so far are numbers, and the first of their values are kept.
use Rattle.leak_request.proofs.Listing.{AreRead, size_after}
use Rattle.leak_request.proofs.displacements.read_displace.Given as goal

abbrev pub invariant-items : goal.invariant-items
invariant-items l = AreRead l.text l.rest l.count l.values

abbrev pub decreases-items : goal.decreases-items
decreases-items l = size_after l.rest
