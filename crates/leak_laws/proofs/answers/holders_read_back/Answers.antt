-- From the lemmas.
use Rattle.leak_laws.proofs.AnswerReading.{answer_is_told, answers_read_back}
use Rattle.leak_laws.proofs.HolderReading.{holders_are_told, holders_read_back}
use Rattle.leak_laws.proofs.answers.holders_read_back.Goals as goal

pub returns : goal.returns
returns c = record { told = holders_are_told; one = holders_read_back; answers_told = answer_is_told; one_answer = answers_read_back }
