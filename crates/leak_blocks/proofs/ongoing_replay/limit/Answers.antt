-- From the first block that begins at the address or above it.
use Rattle.std.proofs.Common.{◌≡◌, filter, sym, ap, ◌∙◌}
use Rattle.leak_blocks.proofs.PartLemmas.{is_from, none_from, first_from}
use Rattle.leak_blocks.proofs.ongoing_replay.limit.Goals as goal

pub returns-in-Some : goal.returns-in-Some
returns-in-Some c = λ blocks of.
    let h : c.range.result ≡ filter (is_from c.args.last) c.args.numbers.now.entries = c.range.ensures.between tt in
    first_from c.args.last blocks _ _ of.disjoint (ap (filter (is_from c.args.last)) (sym of.listed) ∙ sym h ∙ c.in-Some.ensures.steps)

pub returns-in-None : goal.returns-in-None
returns-in-None c = λ blocks of.
    let h : c.range.result ≡ filter (is_from c.args.last) c.args.numbers.now.entries = c.range.ensures.between tt in
    none_from c.args.last _ blocks (ap (filter (is_from c.args.last)) (sym of.listed) ∙ sym h ∙ c.in-None.ensures.steps.0)
