-- From the lemmas of ListedLemmas.
use Rattle.leak_search.proofs.ListedLemmas.{at_some, listed_by, not_told}
use Rattle.leak_search.proofs.listing_input.list_in_turn.Goals as goal

pub returns-in-Some : goal.returns-in-Some
returns-in-Some g c = record {
  many = λ e. not_told _ _ e;
  value = λ lines input.
      listed_by lines c.args.input.now _ _ _ _ c.in_ok-head.ensures.lookup (c.in_ok-head.ensures.leading lines input)
      (at_some _ c.in_ok-listing.field-0 c.in-Some.listing c.in-Some.is c.in_ok-listing.ensures.value);
  within = at_some _ c.in_ok-listing.field-0 c.in-Some.listing c.in-Some.is c.in_ok-listing.ensures.within;
  over = _;
}
