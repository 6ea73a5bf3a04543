-- From the lemmas of Lines.
use Rattle.leak_program.proofs.Lines.{lines}
use Rattle.leak_program.proofs.messages.messages_are_lines.Goals as goal

pub returns : goal.returns
returns c = lines
