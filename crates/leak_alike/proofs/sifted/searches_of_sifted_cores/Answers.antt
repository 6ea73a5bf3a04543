-- Both cores are alike, by the log, and they have one head.
use Rattle.leak_alike.proofs.SiftedSearches.{refused_of_sifted, searches_of_sifted, signs_of_sifted}
use Rattle.leak_alike.proofs.sifted.searches_of_sifted_cores.Goals as goal

pub returns : goal.returns
returns c = record { found = searches_of_sifted; signs = signs_of_sifted; refused = refused_of_sifted }
