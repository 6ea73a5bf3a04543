-- Both cores are alike, by the log, and they have one head.
use Rattle.leak_alike.proofs.SiftedAnswers.{answers_of_sifted, holders_of_sifted, refused_answers_of_sifted, refused_holders_of_sifted}
use Rattle.leak_alike.proofs.sifted.holders_of_sifted_cores.Goals as goal

pub returns : goal.returns
returns c = record {
  holders = holders_of_sifted;
  chosen = answers_of_sifted;
  refused_holders = refused_holders_of_sifted;
  refused_chosen = refused_answers_of_sifted;
}
