-- From the lemmas of GraphLemmas and BothLemmas.
use Rattle.std.proofs.Common.{Bool, List, length, sym, ap, ◌∙◌}
use Rattle.leak_holder_search.specs.Held.{both}
use Rattle.leak_holder_search.proofs.GraphLemmas.{first_inside}
use Rattle.leak_holder_search.proofs.BothLemmas.{both_each, set_each}
use Rattle.leak_holder_search.proofs.held.held_by.Goals as goal

pub holders_of-requires-clause-inside : goal.holders_of-requires-clause-inside
holders_of-requires-clause-inside g c κs within = rw (c.first-first.ensures) (first_inside c.args.analysis.now.listed.listing)

pub holders_of-requires-clause-reached : goal.holders_of-requires-clause-reached
holders_of-requires-clause-reached g c κs within = rw (c.first-first.ensures, c.table_of-table.ensures.of.reached) c.requires.known.reached

pub holders_of-requires-clause-told : goal.holders_of-requires-clause-told
holders_of-requires-clause-told g c κs within =
    ap length c.as_slice-set.ensures.value ∙ set_each _ c.requires.known _ c.requires.choice ∙ sym c.requires.known.one_each

pub in_both-requires : goal.in_both-requires
in_both-requires g c =
    c.table_of-table.ensures.complete.counted ∙ ap length c.table_of-table.ensures.of.of_blocks ∙ sym (set_each _ c.requires.known _ c.requires.choice)
    ∙ sym (ap length (c.as_slice.ensures.value ∙ c.requires.choice.own) ∙ both_each _ _)

pub returns : goal.returns
returns g c = record {
  table = c.table_of-table.result;
  of = c.table_of-table.ensures.of;
  each = ap length c.in_ok-told.ensures ∙ both_each _ _ ∙ ap length (c.as_slice.ensures.value ∙ c.requires.choice.own) ∙ both_each _ _ ∙ set_each _ c.requires.known _ c.requires.choice;
  are = record {
    told_are =
        c.in_ok-told.ensures ∙ ap (λ (xs : List Bool). both xs c.table_of-table.result.counted.now)
        (c.as_slice.ensures.value ∙ c.requires.choice.own ∙ ap (both c.args.choice.now.set.items) (sym c.table_of-table.ensures.of.reached));
    rows =
        rw (← c.count_texts-texts.ensures, ← c.as_slice-set.ensures.value, ← c.table_of-table.ensures.of.of_texts, ← c.first-first.ensures)
        c.in_ok-parts.ensures;
  };
}
