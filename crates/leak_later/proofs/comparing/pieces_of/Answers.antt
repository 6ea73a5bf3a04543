-- By arithmetic, from what the calls promise.
use Rattle.std.proofs.Common.{ℕ, List, [], subst, append-nil, arith}
use Rattle.leak_elf.specs.Words.{word_of}
use Rattle.leak_later.specs.Pieces.{IsCover}
use Rattle.leak_later.proofs.comparing.pieces_of.Goals as goal

pub returns : goal.returns
returns g c =
    let start = c.saturating_mul.ensures in
    subst (λ (ps : List (ℕ × ℕ)). IsCover (word_of c.args.core.now) 0 ps) (append-nil c.loop-addr.pieces.items)
    (c.loop-addr.invariant.cover [] (λ a h. c.in_default.ensures.least a (omega arith)))
