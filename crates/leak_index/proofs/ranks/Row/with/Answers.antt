-- The bit of the block's granule wasn't set, and is.
use Rattle.std.proofs.Common.{◌≡◌, Bool, true, false, ◌*◌, ◌/◌, ◌%◌, ◌^◌, arith}
use Rattle.std.proofs.lemmas.Nat.{one_shl}
use Rattle.leak_index.proofs.RowCounts.{bit_room, with_bit}
use Rattle.leak_index.proofs.ranks.Row.with.Goals as goal

apart_and_not : (x : Bool) → x ≡ true → x ≡ false → ⊥
apart_and_not x set unset = cc

pub overflow_add-result : goal.overflow_add-result
overflow_add-result c =
    let bit : 1 * 2 ^ (c.args.start / 16 % 64) % 2 ^ 64 ≡ 2 ^ (c.args.start / 16 % 64) = one_shl (c.args.start / 16 % 64) 64 (omega arith) in
    omega (arith, bit, bit_room c.args.blocks.now c.args.number c.args.start c.args.self c.requires.disjoint c.requires.here c.requires.aligned c.requires.inside (omega arith) c.requires.row)

pub returns-then-self : goal.returns-then-self
returns-then-self c =
    with_bit c.args.blocks.now c.args.number c.args.start (1 * 2 ^ (c.args.start / 16 % 64) % 2 ^ 64) c.args.self c.is_apart-apart.result c.requires.disjoint c.requires.here c.requires.aligned c.requires.inside (omega arith)
    (one_shl (c.args.start / 16 % 64) 64 (omega arith)) (λ t. (c.if-self.true, c.is_apart-apart.ensures t)) c.requires.row

pub returns-else-self : goal.returns-else-self
returns-else-self c =
    with_bit c.args.blocks.now c.args.number c.args.start (1 * 2 ^ (c.args.start / 16 % 64) % 2 ^ 64) c.args.self c.args.self.apart c.requires.disjoint c.requires.here c.requires.aligned c.requires.inside (omega arith)
    (one_shl (c.args.start / 16 % 64) 64 (omega arith)) (λ t. absurd (apart_and_not c.args.self.apart t c.if-self.false)) c.requires.row
