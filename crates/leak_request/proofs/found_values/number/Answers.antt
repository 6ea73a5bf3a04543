-- From the lemmas of Values.
use Rattle.std.proofs.Common.{◌<◌, ◌^◌, subst}
use Rattle.std.specs.Str.Parse.{ExplainsUnsignedError, HasUnsignedDigitsIfOk, ParsesUnsigned}
use Rattle.clap.specs.Words.{found_of}
use Rattle.clap.proofs.WalkLemmas.{one_text-rows}
use Rattle.leak_request.proofs.Values.{no_number_read, number_read}
use Rattle.leak_request.proofs.found_values.number.Goals as goal

pub returns-clause-some : goal.returns-clause-some
returns-clause-some c =
    let f = found_of c.args.found.now in
    let id = c.args.id.now in
    number_read (λ bs r. ParsesUnsigned 32 10 bs r × ExplainsUnsignedError 10 bs r × HasUnsignedDigitsIfOk bs r) c.get_one.result _ _ (one_text-rows f id) c.get_one.ensures.none c.get_one.ensures.value (λ t v g. (g.0.0.0, g.0.1))

pub returns-clause-none : goal.returns-clause-none
returns-clause-none c =
    let f = found_of c.args.found.now in
    let id = c.args.id.now in
    no_number_read (λ bs r. ParsesUnsigned 32 10 bs r × ExplainsUnsignedError 10 bs r × HasUnsignedDigitsIfOk bs r) c.get_one.result _ _ (one_text-rows f id)
    c.get_one.ensures.value (λ t e n fits g is. g.0 (is.0, subst (λ v. v < 2 ^ 32) is.1 fits))
