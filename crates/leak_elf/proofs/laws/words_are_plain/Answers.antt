-- From the lemmas of PlainWords.
use Rattle.leak_elf.proofs.PlainWords.{word_plain}
use Rattle.leak_elf.proofs.laws.words_are_plain.Goals as goal

pub returns : goal.returns
returns c = word_plain
