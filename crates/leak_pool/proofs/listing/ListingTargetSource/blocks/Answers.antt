-- There is a list for each block.
use Rattle.std.proofs.Common.{sym}
use Rattle.leak_pool.specs.ListsLaw.{long_lists}
use Rattle.leak_pool.proofs.listing.ListingTargetSource.blocks.Goals as goal

pub returns : goal.returns
returns c = sym (long_lists _ _ _)
