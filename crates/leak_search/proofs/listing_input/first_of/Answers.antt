-- What the root words lead to that were tested, all of them lead to.
use Rattle.std.proofs.Common.{◌∙◌, List, ℕ, subst}
use Rattle.std.specs.Prelude.{◌↔◌}
use Rattle.leak_marks.specs.Lists.{Has}
use Rattle.leak_search.proofs.ListedLemmas.{not_told}
use Rattle.leak_search.proofs.listing_input.first_of.Goals as goal

pub returns : goal.returns
returns c = record {
  many = λ e. not_told _ _ e;
  inside = c.in_ok-first.ensures.inside;
  led = λ lines is.
      let lead = c.in_ok-roots.ensures lines is in
      record {
        places = lead.all;
        roots = lead.roots;
        head_is = c.head_of.ensures ∙ lead.head_is;
        blocks = record {
          once = c.in_ok-first.ensures.once;
          led = subst (λ (led : List ℕ). (b : ℕ) → Has c.in_ok-first.first.items b ↔ Has led b) lead.led c.in_ok-first.ensures.led;
        };
      };
}
