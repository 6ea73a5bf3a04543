-- From the lemmas.
use Rattle.leak_laws.proofs.HeldTexts.{answer_of_lines, growth_of_lines, holders_of_lines, why_of_lines}
use Rattle.leak_laws.proofs.answers.answers_are_of_lines.Goals as goal

pub returns : goal.returns
returns c = record { growth = growth_of_lines; holders = holders_of_lines; chosen = answer_of_lines; why = why_of_lines }
