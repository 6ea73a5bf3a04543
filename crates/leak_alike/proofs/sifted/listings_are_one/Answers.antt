-- Both cores are alike.
use Rattle.leak_alike.proofs.ListingLemmas.{listings_of_sifted}
use Rattle.leak_alike.proofs.sifted.listings_are_one.Goals as goal

pub returns : goal.returns
returns c = listings_of_sifted
