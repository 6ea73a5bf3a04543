-- Those among the blocks so far.
use Rattle.std.proofs.Common.{◌≡◌, take, not}
use Rattle.std.specs.List.{count_by}
use Rattle.leak_chunks.specs.Fit.{fits_of}
use Rattle.leak_chunks.proofs.fitting.count_misfits_among.Given as goal

abbrev pub invariant-loop-block : goal.invariant-loop-block
invariant-loop-block g l = (l.near.words.now ≡ l.words) × (l.misfits ≡ count_by not (fits_of (g.W.Words.word_at l.words) (take l.block-index l.blocks)))
