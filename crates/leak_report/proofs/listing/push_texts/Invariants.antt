-- The texts of the blocks so far.
use Rattle.std.proofs.Common.{◌≡◌, ◌++◌, take}
use Rattle.leak_report.specs.Numbered.{bytes_each, texts_of}
use Rattle.leak_report.proofs.listing.push_texts.Given as goal

abbrev pub invariant-loop-block : goal.invariant-loop-block
invariant-loop-block l = bytes_each l.out.items ≡ bytes_each l.initial.out.items ++ texts_of l.log (take l.block-index l.blocks)
