-- The head tells of all but words.
use Rattle.leak_alike.proofs.HeadRefusals.{head_refusals}
use Rattle.leak_alike.proofs.OneHeads.{agree_but_words, threads_of_one_head}
use Rattle.leak_alike.proofs.sifted.files_of_one_head.Goals as goal

pub returns : goal.returns
returns c = record { agree = agree_but_words; threads = threads_of_one_head; refused = head_refusals }
