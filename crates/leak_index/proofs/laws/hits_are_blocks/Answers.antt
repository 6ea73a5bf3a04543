-- The law, from the lemma on the list.
use Rattle.std.proofs.Common.{length, arith}
use Rattle.leak_index.specs.Hits.{hits_of}
use Rattle.leak_index.proofs.Few.{hits_below}
use Rattle.leak_index.proofs.laws.hits_are_blocks.Goals as goal

pub returns : goal.returns
unfolding hits_of
returns c index word = hits_below 0 (length index.blocks) index.reading index.blocks word (omega arith)
