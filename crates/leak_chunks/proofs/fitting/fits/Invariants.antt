-- An entry for each block so far.
use Rattle.std.proofs.Common.{◌≡◌, take}
use Rattle.leak_chunks.specs.Fit.{fits_of}
use Rattle.leak_chunks.proofs.fitting.fits.Given as goal

abbrev pub invariant-loop-block : goal.invariant-loop-block
invariant-loop-block g l = (l.near.words.now ≡ l.words) × (l.fits.items ≡ fits_of (g.W.Words.word_at l.words) (take l.block-index l.blocks))
