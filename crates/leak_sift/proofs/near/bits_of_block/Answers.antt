-- The size word's bit, and those behind the least chunk.
use Rattle.std.proofs.Common.{◌≡◌, ◌+◌, ◌-◌, ◌*◌, ◌==◌, ℕ, ap, arith}
use Rattle.std.specs.List.{list_any}
use Rattle.leak_chunks.specs.Fit.{least_chunk}
use Rattle.leak_sift.specs.Kept.{distances}
use Rattle.leak_sift.proofs.BitsLemmas.{either_bits, same_bits}
use Rattle.leak_sift.proofs.near.bits_of_block.Goals as goal

pub returns : goal.returns
returns c =
    let place = c.args.place in
    let b = c.args.block.now in
    let links = c.args.links in
    let end : c.in-Some-checked_add.end ≡ b.start + least_chunk b.size - 8 = omega (arith, c.in-Some.ensures, c.in-Some-checked_add.ensures, c.padding.ensures) in
    either_bits (λ k. place + 8 * k == b.start - 8) (λ k. list_any (λ d. place + 8 * k == b.start + least_chunk b.size - 8 + d) (distances links)) 64 c.bit_of-size.result c.bits_behind.result
    (same_bits (λ k. place + 8 * k == c.size_place.result) (λ k. place + 8 * k == b.start - 8) 64 c.bit_of-size.result (λ k h. ap (λ (n : ℕ). place + 8 * k == n) c.size_place.ensures) c.bit_of-size.ensures)
    (same_bits (λ k. list_any (λ d. place + 8 * k == c.in-Some-checked_add.end + d) (distances links)) (λ k. list_any (λ d. place + 8 * k == b.start + least_chunk b.size - 8 + d) (distances links)) 64 c.bits_behind.result
    (λ k h. ap (λ (n : ℕ). list_any (λ d. place + 8 * k == n + d) (distances links)) end) c.bits_behind.ensures)
