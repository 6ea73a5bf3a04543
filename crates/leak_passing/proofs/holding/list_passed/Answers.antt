-- From the lemmas of FoundLemmas and HoldingLemmas.
use Rattle.std.proofs.Common.{◌≡◌, ◌∙◌, ◌++◌, ap, inl, refl, sym, ℕ, List}
use Rattle.std.proofs.lemmas.Result.{err_from_is_err_and}
use Rattle.leak_sift.specs.Behind.{bytes_behind}
use Rattle.leak_search.specs.Inputs.{IsInputFault}
use Rattle.leak_holder_search.specs.Holders.{IsFaultOfHolders}
use Rattle.leak_holder_search.specs.Since.{earlier}
use Rattle.leak_passing.specs.Holding.{file_of}
use Rattle.leak_passing.proofs.FoundLemmas.{has_words, moved, whole_or_head}
use Rattle.leak_passing.proofs.HoldingLemmas.{read_as, read_of_kept, refused_holders}
use Rattle.leak_passing.proofs.holding.list_passed.Goals as goal

pub input_of_passed-requires-clause-words : goal.input_of_passed-requires-clause-words
input_of_passed-requires-clause-words g c = has_words _ _ _ _ _ _ c.requires.passed.2.kept

pub input_of_passed-requires-clause-head : goal.input_of_passed-requires-clause-head
input_of_passed-requires-clause-head g c = rw (c.as_slice.ensures.value) (whole_or_head _ _ _ _ _ _ c.requires.passed.2.kept)

pub input_of_passed-requires-clause-read : goal.input_of_passed-requires-clause-read
input_of_passed-requires-clause-read g c =
    let it = c.requires.passed in
    (it.1, read_as it.0 it.1 c.args.rules.skip c.args.passed it.2)

pub list_for_holders-requires-clause-read : goal.list_for_holders-requires-clause-read
list_for_holders-requires-clause-read g c κs within =
    let it = c.requires.passed in
    read_of_kept _ it.1 _ c.in_ok-input.input (c.as_slice-2.ensures.value ∙ it.2.text) (c.in_ok-input.ensures.ok it.1 (read_as it.0 it.1 c.args.rules.skip c.args.passed it.2))

pub returns-in_err-input-clause-refused : goal.returns-in_err-input-clause-refused
returns-in_err-input-clause-refused g c =
    let p = err_from_is_err_and c.from_residual.result c.from_residual.ensures.1 in
    let passed = c.args.passed in
    let e = c.in_err-input.field-0.0 in
    rw (p.1, p.2) (λ other core log is.
    refused_holders core log c.args.rules.skip passed is c.holders_of_sifted_cores.ensures.refused_holders (earlier c.args.since) e
    (inl (moved (λ f l. IsInputFault 1 f l e) _ _ _ _ (ap (λ (l : List ℕ). l ++ bytes_behind passed.words passed.len) c.as_slice.ensures.value)
    refl (c.in_err-input.ensures.refused other log (read_as core log c.args.rules.skip passed is)))))

pub returns-in_err-core-clause-refused : goal.returns-in_err-core-clause-refused
returns-in_err-core-clause-refused g c =
    let p = err_from_is_err_and c.from_residual-in_err-core.result c.from_residual-in_err-core.ensures.1 in
    let passed = c.args.passed in
    let e = c.in_err-core.field-0.0 in
    rw (p.1, p.2) (λ other core log is.
    let read = (c.in_ok-input.ensures.ok log (read_as core log c.args.rules.skip passed is)).1 in
    let file : c.in_ok-input.input.image ≡ file_of passed = read.image ∙ ap (λ (l : List ℕ). l ++ bytes_behind passed.words passed.len) c.as_slice.ensures.value in
    refused_holders core log c.args.rules.skip passed is c.holders_of_sifted_cores.ensures.refused_holders (earlier c.args.since) e
    (moved (λ f l. IsFaultOfHolders f l (earlier c.args.since) e) _ _ _ _ file (c.as_slice-2.ensures.value ∙ is.text) (c.in_err-core.ensures.refused other)))

pub returns-clause-listed : goal.returns-clause-listed
returns-clause-listed g c =
    let it = c.requires.passed in
    let passed = c.args.passed in
    let read = c.in_ok-input.ensures.ok it.1 (read_as it.0 it.1 c.args.rules.skip passed it.2) in
    record {
      input = c.in_ok-input.input;
      image = read.1.image ∙ ap (λ (l : List ℕ). l ++ bytes_behind passed.words passed.len) c.as_slice.ensures.value;
      read = read_of_kept _ it.1 _ c.in_ok-input.input it.2.text read;
      skip = c.in_ok-input.ensures.skip;
      full = c.in_ok-input.ensures.full;
      log = refl;
      continued = rw (← c.as_slice-2.ensures.value) c.in_ok-core.ensures.continued;
      live_is = sym c.without_core-live.ensures.live;
      lists = c.in_ok-core.ensures.listed;
      signs = c.in_ok-core.ensures.signs;
    }
