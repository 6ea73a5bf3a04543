-- The end is so many words ahead of the place, or behind it.
use Rattle.std.proofs.Common.{◌≡◌, ◌∙◌, ◌+◌, ◌-◌, ◌*◌, ◌/◌, ◌%◌, ◌^◌, ℕ, ◌==◌, ap, sym, subst, arith}
use Rattle.std.specs.List.{list_any}
use Rattle.leak_sift.specs.Grouped.{AreBits}
use Rattle.leak_sift.specs.Kept.{distances}
use Rattle.leak_sift.proofs.BitsLemmas.{ahead_bits, asked, passed_bits}
use Rattle.leak_sift.proofs.near.bits_behind.Goals as goal
use Rattle.leak_sift.proofs.near.bits_behind.Goals.{then-links, else-links}

pub returns-then-distance-le32 : goal.returns-then-distance-le32
returns-then-distance-le32 c =
    let place = c.args.place in
    let end = c.args.end in
    let is : asked c.args.links ≡ c.if-links.asked = elim c.if-links.branch [
      | then-links w ↦ ap asked w.if-links.true ∙ sym w.asked-is
      | else-links w ↦ ap asked w.if-links.false ∙ sym w.asked-is
    ] in
    subst (λ (a : ℕ). AreBits (λ k. list_any (λ d. place + 8 * k == end + d) (distances c.args.links)) 64 (a / 2 ^ ((place - end) / 8))) is
    (passed_bits c.args.links end place ((place - end) / 8) (omega (arith, c.if-end-place.true, c.if-distance-eq0.true)))

pub returns-then-distance-lt512 : goal.returns-then-distance-lt512
returns-then-distance-lt512 c =
    let place = c.args.place in
    let end = c.args.end in
    let is : asked c.args.links ≡ c.if-links.asked = elim c.if-links.branch [
      | then-links w ↦ ap asked w.if-links.true ∙ sym w.asked-is
      | else-links w ↦ ap asked w.if-links.false ∙ sym w.asked-is
    ] in
    subst (λ (a : ℕ). AreBits (λ k. list_any (λ d. place + 8 * k == end + d) (distances c.args.links)) 64 (a * 2 ^ ((end - place) / 8) % 2 ^ 64)) is
    (ahead_bits c.args.links end place ((end - place) / 8) (omega (arith, c.if-end-place.false, c.if-distance-eq0-2.true)) (omega (arith, c.if-distance-lt512.true)))
