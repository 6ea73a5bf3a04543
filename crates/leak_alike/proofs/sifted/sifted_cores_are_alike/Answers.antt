-- Each word is what is kept of it, and of those that rules ask for all is kept.
use Rattle.leak_alike.proofs.SiftedLemmas.{alike_by_log, alike_cores}
use Rattle.leak_alike.proofs.SiftedWords.{sifted_words_kept}
use Rattle.leak_alike.proofs.sifted.sifted_cores_are_alike.Goals as goal

pub returns : goal.returns
returns c = record { words = sifted_words_kept; alike = alike_cores; by_log = alike_by_log }
