-- Live blocks ascend and don't overlap, and they begin above 0.
use Rattle.leak_alike.proofs.NowhereWords.{outside_like_zero, outside_nowhere, zero_nowhere}
use Rattle.leak_alike.proofs.alike.words_outside_the_blocks.Goals as goal

pub returns : goal.returns
returns c = record { outside = outside_nowhere; zero = zero_nowhere; alike = outside_like_zero }
