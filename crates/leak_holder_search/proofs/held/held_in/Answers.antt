-- From the lemmas of GraphLemmas and BothLemmas.
use Rattle.std.proofs.Common.{◌↔◌, ◌<◌, ℕ, Bool, false, List, length, sym, ap, subst, ◌∙◌}
use Rattle.std.specs.Prelude.{IsTrue, slice_index_or}
use Rattle.leak_pool.specs.Listing.{targets_in}
use Rattle.leak_without.specs.Without.{IsHeldBy, chosen, graph_of}
use Rattle.leak_holders.specs.Parts.{parts_by}
use Rattle.leak_holder_search.specs.Held.{both}
use Rattle.leak_holder_search.proofs.GraphLemmas.{first_inside}
use Rattle.leak_holder_search.proofs.BothLemmas.{both_each, set_each}
use Rattle.leak_holder_search.proofs.held.held_in.Goals as goal

pub held_blocks-requires-clause-inside : goal.held_blocks-requires-clause-inside
held_blocks-requires-clause-inside c = rw (c.first.ensures) (first_inside c.args.analysis.now.listed.listing)

pub held_blocks-requires-clause-told : goal.held_blocks-requires-clause-told
held_blocks-requires-clause-told c =
    ap length c.as_slice.ensures.value ∙ set_each _ c.requires.known _ c.requires.choice ∙ sym c.requires.known.one_each

pub parts_of-requires-clause-told : goal.parts_of-requires-clause-told
parts_of-requires-clause-told c =
    ap length c.as_slice-held.ensures.value ∙ c.in_ok-held.ensures.len ∙ ap length c.as_slice.ensures.value ∙ set_each _ c.requires.known _ c.requires.choice
    ∙ ap length (sym c.table_of-table.ensures.of.of_blocks)

pub in_both-requires : goal.in_both-requires
in_both-requires c =
    c.table_of-table.ensures.complete.counted ∙ ap length c.table_of-table.ensures.of.of_blocks ∙ sym (set_each _ c.requires.known _ c.requires.choice)
    ∙ sym (ap length c.as_slice-held.ensures.value ∙ c.in_ok-held.ensures.len ∙ ap length c.as_slice.ensures.value)

pub returns : goal.returns
returns c =
    let a = c.args.analysis.now in
    let targets : List (List ℕ) = targets_in a.listed.listing in
    let long = c.in_ok-held.ensures.len ∙ ap length c.as_slice.ensures.value ∙ set_each a c.requires.known _ c.requires.choice in
    record {
      table = c.table_of-table.result;
      of = c.table_of-table.ensures.of;
      each = ap length c.in_ok-told.ensures ∙ both_each _ _ ∙ ap length c.as_slice-held.ensures.value ∙ long;
      are = record {
        held = c.in_ok-held.held.items;
        len = long ∙ sym c.requires.known.one_each;
        holds =
            subst (λ (first : List ℕ). (b : ℕ) → b < length targets
            → IsTrue (slice_index_or c.in_ok-held.held.items b false) ↔ IsHeldBy (graph_of first targets) (chosen c.args.choice.now.set.items) b) c.first.ensures
            (subst (λ (set : List Bool). (b : ℕ) → b < length targets
            → IsTrue (slice_index_or c.in_ok-held.held.items b false) ↔ IsHeldBy (graph_of c.first.result.now targets) (chosen set) b)
            c.as_slice.ensures.value c.in_ok-held.ensures.each);
        told_are = c.in_ok-told.ensures ∙ ap (λ (hs : List Bool). both hs c.table_of-table.result.counted.now) c.as_slice-held.ensures.value;
        rows =
            c.in_ok-parts.ensures ∙ ap (λ (hs : List Bool). parts_by c.table_of-table.result (λ b. slice_index_or hs b false) c.count_texts.result) c.as_slice-held.ensures.value
            ∙ ap (parts_by c.table_of-table.result (λ b. slice_index_or c.in_ok-held.held.items b false)) c.count_texts.ensures;
      };
    }
