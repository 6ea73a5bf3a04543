-- A word has 64 bits.
use Rattle.std.proofs.Common.{Fits, ℕ, ◌<◌, ◌^◌, get_or, arith}
use Rattle.std.specs.Int.{w64}
use Rattle.leak_sift.proofs.behind.are_words.Goals as goal

pub returns : goal.returns
returns c k = let b : Fits w64 (get_or c.args.words.now k 0) = c.type_inv.words k in omega (arith, b)
