-- The graph of alike cores is one, and so are the first lines of their reports.
use Rattle.leak_alike.proofs.AlikeHolders.{answers_of_alike_are_one, holders_of_alike_are_one}
use Rattle.leak_alike.proofs.alike.holders_of_alike_cores.Goals as goal

pub returns : goal.returns
returns c = record { holders = holders_of_alike_are_one; chosen = answers_of_alike_are_one }
