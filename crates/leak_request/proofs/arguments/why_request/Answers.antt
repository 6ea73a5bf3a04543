-- From the lemmas of Complete.
use Rattle.std.proofs.Common.{refl, subst}
use Rattle.std.specs.Prelude.{IsSomeAnd}
use Rattle.leak_index.specs.Readings.{listed_by}
use Rattle.leak_request.specs.Address.{IsBadAddress}
use Rattle.leak_request.specs.FoundRows.{found_rows}
use Rattle.leak_request.specs.Requests.{AreAt}
use Rattle.leak_request.proofs.Complete.{none_lacks_why}
use Rattle.leak_request.proofs.arguments.why_request.Goals as goal

pub returns-in-Err-clause-refused : goal.returns-in-Err-clause-refused
returns-in-Err-clause-refused c = (
  none_lacks_why (found_rows c.args.found.now) c.in_ok-paths.paths.items c.in-Some.word.now (subst (λ ids. AreAt (found_rows c.args.found.now) ids c.in_ok-paths.paths.items) c.ids_of.ensures c.in_ok-paths.ensures.ok) c.in-Some.ensures,
  c.in-Err.ensures.refused,
)

pub returns-in_default-address-clause-refused : goal.returns-in_default-address-clause-refused
returns-in_default-address-clause-refused c = (
  refl,
  none_lacks_why (found_rows c.args.found.now) c.in_ok-paths.paths.items c.in-Some.word.now (subst (λ ids. AreAt (found_rows c.args.found.now) ids c.in_ok-paths.paths.items) c.ids_of.ensures c.in_ok-paths.ensures.ok) c.in-Some.ensures,
  (listed_by c.in-Ok.reading, c.in-Ok.ensures.ok),
  subst (λ o. IsSomeAnd o IsBadAddress) c.in-Some.ensures (subst IsBadAddress c.as_bytes.ensures.value c.in_default-address.ensures.none),
)
