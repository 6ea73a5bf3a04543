-- The first lines tell of the root words that were found.
use Rattle.leak_search.proofs.preparing.prepare_to_mark.Goals as goal

pub returns-clause-leading : goal.returns-clause-leading
returns-clause-leading g c = λ lines input. record {
  all = c.in_ok-roots-2.field-0.roots;
  roots = c.in_ok-roots-2.ensures.roots lines input;
  head_is = c.head_of-head-2.ensures;
  led = c.in_ok-roots-3.ensures.led;
}
