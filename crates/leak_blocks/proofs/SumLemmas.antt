-- Blocks that are apart have less than 2^64 bytes together.
use Rattle.std.proofs.Common.{ℕ, ◌+◌, ◌^◌, ◌<◌, ◌≤◌, List, [], ◌∷◌, sum_by, arith}
use Rattle.std.specs.List.{AllByRecursion}
use Rattle.std.proofs.lemmas.List.Sums.{sum_by-cons}
use Rattle.leak_blocks.specs.declared.block.Block.{Block}
use Rattle.leak_blocks.specs.Span.{AreAddressed, AreDisjoint, span_end}

sum_above : (low : ℕ) (bs : List Block) → low ≤ 2 ^ 64 → AreAddressed bs → AreDisjoint bs → AllByRecursion (λ b. low ≤ b.start) bs → low + sum_by (λ b. b.size) bs ≤ 2 ^ 64
sum_above low [] le a d above = omega arith
sum_above low (b ∷ bs) le a d above =
    let fits : b.start + b.size < 2 ^ 64 = a.0.fits in
    let rest : span_end b + sum_by (λ b. b.size) bs ≤ 2 ^ 64 = sum_above (span_end b) bs (omega arith) a.1 d.1 d.0 in
    omega (arith, rest, above.0, sum_by-cons (λ b. b.size) b bs)

all_above : (bs : List Block) → AreAddressed bs → AllByRecursion (λ b. 1 ≤ b.start) bs
all_above [] h = tt
all_above (b ∷ bs) h = (omega (arith, h.0.above), all_above bs h.1)

pub sum_fits : (bs : List Block) → AreAddressed bs → AreDisjoint bs → sum_by (λ b. b.size) bs < 2 ^ 64
sum_fits bs a d = omega (arith, sum_above 1 bs (omega arith) a d (all_above bs a))
