-- From the last block that begins by the allocation's last address.
use Rattle.std.proofs.Common.{◌≡◌, ◌+◌, ◌-◌, max, ℕ, filter, arith, sym, ◌∙◌, subst, Option}
use Rattle.leak_blocks.specs.Numbers.{IsMet}
use Rattle.leak_blocks.proofs.NumberLemmas.{is_by, last_listed, none_listed, found_met, found_unmet, number_within}
use Rattle.leak_blocks.proofs.numbers.last_met.Goals as goal

pub returns-in_err-number : goal.returns-in_err-number
returns-in_err-number c = λ blocks of.
    let last : ℕ = c.args.line.now.addr + (c.max.result - 1) in
    let m : c.max.result ≡ max c.args.line.now.size 1 = c.max.ensures in
    let h : c.range.result ≡ filter (is_by last) c.args.numbers.now.entries = c.range.ensures.between tt in
    subst (λ (o : Option ℕ). IsMet c.args.line.now blocks o) (sym c.from_residual.ensures)
    (none_listed c.args.allocated.now c.args.numbers.now.entries blocks of last c.args.line.now (omega arith) (sym h ∙ c.in_err-number.ensures.steps.0))

pub block_at-block-requires : goal.block_at-block-requires
block_at-block-requires c =
    let last : ℕ = c.args.line.now.addr + (c.max.result - 1) in
    let h : c.range.result ≡ filter (is_by last) c.args.numbers.now.entries = c.range.ensures.between tt in
    number_within c.args.allocated.now c.args.numbers.now.entries c.requires.held.0 last _ c.requires.held.1
    (last_listed c.args.allocated.now c.args.numbers.now.entries c.requires.held.0 c.requires.held.1 last _ _ (sym h ∙ c.in_ok-number.ensures.steps))

pub returns-then-saturating_sub-max : goal.returns-then-saturating_sub-max
returns-then-saturating_sub-max c = λ blocks of.
    let last : ℕ = c.args.line.now.addr + (c.max.result - 1) in
    let m : c.max.result ≡ max c.args.line.now.size 1 = c.max.ensures in
    let h : c.range.result ≡ filter (is_by last) c.args.numbers.now.entries = c.range.ensures.between tt in
    found_met c.args.allocated.now c.args.numbers.now.entries blocks of last c.args.line.now (omega arith) _ c.block_at-block.result c.block_at-block.ensures
    (last_listed c.args.allocated.now c.args.numbers.now.entries blocks of last _ _ (sym h ∙ c.in_ok-number.ensures.steps)) (omega arith)

pub returns-else-saturating_sub-max : goal.returns-else-saturating_sub-max
returns-else-saturating_sub-max c = λ blocks of.
    let last : ℕ = c.args.line.now.addr + (c.max.result - 1) in
    let m : c.max.result ≡ max c.args.line.now.size 1 = c.max.ensures in
    let h : c.range.result ≡ filter (is_by last) c.args.numbers.now.entries = c.range.ensures.between tt in
    found_unmet c.args.allocated.now c.args.numbers.now.entries blocks of last c.args.line.now (omega arith) _ c.block_at-block.result c.block_at-block.ensures
    (last_listed c.args.allocated.now c.args.numbers.now.entries blocks of last _ _ (sym h ∙ c.in_ok-number.ensures.steps)) (omega arith)
