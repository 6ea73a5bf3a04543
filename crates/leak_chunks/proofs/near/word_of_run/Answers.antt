-- The run has it in its group of 8 bytes.
use Rattle.std.proofs.Common.{◌≡◌, ◌∙◌, ◌*◌, ◌+◌, ◌/◌, ◌≤◌, ℕ, Some, length, sym, ap, subst, arith}
use Rattle.std.specs.Int.{w64}
use Rattle.leak_elf.specs.Fields.{number_at}
use Rattle.leak_chunks.proofs.near.word_of_run.Goals as goal

pub returns : goal.returns
returns c word_at is =
    let distance : ℕ = c.saturating_sub-distance.result in
    let group : ℕ = distance / 8 in
    let whole : 8 * group ≡ distance = omega arith in
    let at : c.args.from + 8 * group ≡ c.args.addr = omega (arith, whole, c.saturating_sub-distance.ensures) in
    let within : 8 * group + 8 ≤ length c.args.run.now = omega (arith, whole) in
    subst (λ (a : ℕ). word_at a ≡ Some c.word_in.result) at
    (is group within ∙ ap (λ (k : ℕ). Some (number_at w64 c.args.run.now k)) whole ∙ ap (λ (x : ℕ). Some x) (sym c.word_in.ensures))
