-- The lowest bits are shifted to the top, which drops the others.
use Rattle.std.proofs.Common.{◌≡◌, ℕ, ◌+◌, ◌-◌, ◌*◌, ◌%◌, ◌^◌, count_ones, subst, arith}
use Rattle.leak_index.proofs.Ones.{ones_shifted}
use Rattle.leak_index.proofs.ranks.ones_below.Goals as goal

pub returns : goal.returns
returns c =
    let all : c.args.many + (64 - c.args.many) ≡ 64 = omega arith in
    subst (λ (w : ℕ). count_ones (c.args.bits * 2 ^ (64 - c.args.many) % 2 ^ w) ≡ count_ones (c.args.bits % 2 ^ c.args.many)) all (ones_shifted c.args.bits c.args.many (64 - c.args.many))
