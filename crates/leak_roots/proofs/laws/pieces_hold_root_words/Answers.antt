-- From the lemmas of Bridges.
use Rattle.leak_roots.proofs.Bridges.{pieces_words, pieces_made, places_words}
use Rattle.leak_roots.proofs.laws.pieces_hold_root_words.Goals as goal

pub returns : goal.returns
returns c = record { words = pieces_words; made = pieces_made; roots = places_words }
