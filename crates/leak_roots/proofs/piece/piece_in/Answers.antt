-- From the lemmas of Numbered.
use Rattle.std.proofs.Common.{ℕ, ◌+◌, ◌*◌, ◌∙◌, sym, ap, arith}
use Rattle.leak_roots.specs.declared.piece.Piece.TheVariants.{Memory}
use Rattle.leak_roots.proofs.Numbered.{length_range_pieces, range_piece_at}
use Rattle.leak_roots.proofs.piece.piece_in.Goals as goal

pub span_of-from-requires-clause-place : goal.span_of-from-requires-clause-place
span_of-from-requires-clause-place c = let n = length_range_pieces c.args.words c.args.range in omega arith

pub returns : goal.returns
returns c = λ d. ap (λ (s : ℕ × ℕ). Memory (c.args.range.0 + 8 * s.0) (c.args.range.0 + 8 * s.1)) c.span_of-from.ensures.value ∙ sym (range_piece_at c.args.words c.args.range c.args.place d c.requires.place)
