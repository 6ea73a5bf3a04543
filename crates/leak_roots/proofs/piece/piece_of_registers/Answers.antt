-- From the lemmas of Numbered.
use Rattle.std.proofs.Common.{ℕ, ◌∙◌, sym, ap}
use Rattle.leak_roots.specs.declared.piece.Piece.TheVariants.{Registers}
use Rattle.leak_roots.proofs.Numbered.{register_piece_at}
use Rattle.leak_roots.proofs.piece.piece_of_registers.Goals as goal

pub returns : goal.returns
returns c = λ d. ap (λ (s : ℕ × ℕ). Registers s.0 s.1) c.span_of-from.ensures.value ∙ sym (register_piece_at c.args.words c.args.count c.args.place d c.requires.place)
