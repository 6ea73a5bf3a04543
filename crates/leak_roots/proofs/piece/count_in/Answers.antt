-- From the lemmas of Numbered.
use Rattle.std.proofs.Common.{sym, ◌∙◌, arith}
use Rattle.leak_roots.proofs.Numbered.{length_range_pieces, some_pieces, few_pieces}
use Rattle.leak_roots.proofs.piece.count_in.Goals as goal

pub returns-clause-count : goal.returns-clause-count
returns-clause-count c = c.div_ceil.ensures ∙ sym (length_range_pieces c.args.words c.args.range)

pub returns-clause-some : goal.returns-clause-some
returns-clause-some c = let s = some_pieces c.args.words c.args.range c.requires.some c.requires.range in let n = length_range_pieces c.args.words c.args.range in let e = c.div_ceil.ensures in omega arith

pub returns-clause-fits : goal.returns-clause-fits
returns-clause-fits c = let s = few_pieces c.args.words c.args.range c.requires.some c.requires.range in let n = length_range_pieces c.args.words c.args.range in let e = c.div_ceil.ensures in omega arith
