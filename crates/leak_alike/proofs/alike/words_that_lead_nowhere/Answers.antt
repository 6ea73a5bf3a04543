-- What a search reads of alike cores is the same.
use Rattle.leak_alike.proofs.AlikeCores.{searches_of_alike_are_one, signs_of_alike_are_one}
use Rattle.leak_alike.proofs.alike.words_that_lead_nowhere.Goals as goal

pub returns : goal.returns
returns c = record { found = searches_of_alike_are_one; signs = signs_of_alike_are_one }
