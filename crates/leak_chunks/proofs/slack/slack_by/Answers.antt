-- From the lemmas of SlackLemmas.
use Rattle.std.proofs.Common.{◌≡◌, ◌+◌, arith, sym, ◌∙◌, if◌then◌else◌, true, false}
use Rattle.leak_chunks.specs.Fit.{chunk_size, is_mapped}
use Rattle.leak_chunks.proofs.SlackLemmas.{beyond_the_last, no_slack, some_slack, ends_at, taken_is}
use Rattle.leak_chunks.proofs.slack.slack_by.Goals as goal
use Rattle.leak_chunks.proofs.slack.slack_by.Goals.{then-is_mapped, else-is_mapped}

pub returns-in_default : goal.returns-in_default
returns-in_default c = beyond_the_last c.args.block.now c.args.word.0 (omega (arith, c.in_default.ensures, c.chunk_size.ensures))

pub returns-then-end-first : goal.returns-then-end-first
returns-then-end-first c =
    let after : c.in-Some.after ≡ c.args.block.now.start + chunk_size c.args.word.0 = omega (arith, c.in-Some.ensures, c.chunk_size.ensures) in
    let taken : c.if-is_mapped.taken ≡ (if is_mapped c.args.word.0 then 16 else 8) = elim c.if-is_mapped.branch [
      | then-is_mapped w ↦ taken_is c.args.word.0 c.if-is_mapped.taken true (sym w.if-is_mapped.true ∙ c.is_mapped.ensures) w.taken-is
      | else-is_mapped w ↦ taken_is c.args.word.0 c.if-is_mapped.taken false (sym w.if-is_mapped.false ∙ c.is_mapped.ensures) w.taken-is
    ] in
    no_slack c.args.block.now c.args.word.0 c.saturating_sub-end.result (c.saturating_sub-end.ensures ∙ ends_at c.args.block.now c.args.word.0 c.in-Some.after c.if-is_mapped.taken after taken) c.if-end-first.true

pub returns : goal.returns
returns c =
    let after : c.in-Some.after ≡ c.args.block.now.start + chunk_size c.args.word.0 = omega (arith, c.in-Some.ensures, c.chunk_size.ensures) in
    let taken : c.if-is_mapped.taken ≡ (if is_mapped c.args.word.0 then 16 else 8) = elim c.if-is_mapped.branch [
      | then-is_mapped w ↦ taken_is c.args.word.0 c.if-is_mapped.taken true (sym w.if-is_mapped.true ∙ c.is_mapped.ensures) w.taken-is
      | else-is_mapped w ↦ taken_is c.args.word.0 c.if-is_mapped.taken false (sym w.if-is_mapped.false ∙ c.is_mapped.ensures) w.taken-is
    ] in
    some_slack c.args.block.now c.args.word.0 c.saturating_sub-end.result (c.saturating_sub-end.ensures ∙ ends_at c.args.block.now c.args.word.0 c.in-Some.after c.if-is_mapped.taken after taken)
    (omega (arith, c.in-Some.ensures, c.chunk_size.ensures)) c.if-end-first.false
