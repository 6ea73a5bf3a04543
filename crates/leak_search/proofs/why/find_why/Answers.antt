-- From the lemmas of InputLemmas, WhyLemmas and SignLemmas.
use Rattle.std.proofs.Common.{◌∙◌, List, ap}
use Rattle.leak_notes.specs.declared.sets.RegisterSet.{RegisterSet}
use Rattle.leak_why.specs.Text.{text_of}
use Rattle.leak_search.proofs.InputLemmas.{as_input, input_callers}
use Rattle.leak_search.proofs.WhyLemmas.{tells_why, no_block}
use Rattle.leak_search.proofs.SignLemmas.{are_of_one}
use Rattle.leak_search.proofs.why.find_why.Goals as goal

pub returns-in_default-clause-refused : goal.returns-in_default-clause-refused
returns-in_default-clause-refused c = λ other. no_block c.args.core.now c.args.log.now c.args.address c.in_ok-input.input c.in_ok-input.ensures.ok c.in_default.ensures.none

pub text-requires : goal.text-requires
text-requires c = record { in_log = input_callers c.args.core.now c.args.log.now c.in_ok-input.input c.in_ok-input.ensures.ok }

pub returns-clause-ok : goal.returns-clause-ok
returns-clause-ok c =
    tells_why c.args.core.now c.args.log.now _ c.args.rules.skip c.args.address c.in_ok-input.input c.new-lookup.result c.in_ok-roots.roots c.in-Some.block c.in_ok-chain.chain _
    c.in_ok-input.ensures.ok c.new-lookup.ensures c.in_ok-input.ensures.skip (c.in_ok-roots.ensures _ (as_input _ _ _ _ c.in_ok-input.ensures.ok.1))
    c.in-Some.ensures.some c.in_ok-chain.ensures.why c.in_ok-chain.ensures.reach
    (c.in_ok-text.ensures ∙ ap (λ (s : List RegisterSet). text_of c.args.log.now c.in_ok-input.input.live.blocks s c.in-Some.block c.in_ok-chain.chain) (c.as_slice.ensures.value ∙ c.in_ok-sets.ensures))
    c.is_some.ensures

pub returns-clause-signs : goal.returns-clause-signs
returns-clause-signs c = are_of_one c.args.rules.other_heap c.args.core.now c.args.log.now c.in_ok-input.input _ c.in_ok-input.ensures.ok c.in_ok-consistency.ensures.signs
