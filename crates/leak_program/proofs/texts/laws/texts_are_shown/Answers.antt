-- From the lemmas of TextLemmas.
use Rattle.leak_program.proofs.TextLemmas.{displace_shown, find_shown, read_shown, reason_shown, write_shown}
use Rattle.leak_program.proofs.texts.laws.texts_are_shown.Goals as goal

pub returns : goal.returns
returns c = record { inputs = find_shown; readers = read_shown; writers = write_shown; files = reason_shown; lists = displace_shown }
