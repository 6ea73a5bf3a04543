-- From the lemmas of ListingLemmas.
use Rattle.std.proofs.Common.{◌≡◌, ◌∙◌, ◌-◌, ◌^◌, ℕ, List, [], length, ap, sym, rules, arith}
use Rattle.leak_blocks.specs.declared.block.Block.{Block}
use Rattle.leak_marks.specs.Lists.{Has}
use Rattle.leak_pool.specs.Edges.{AreEdges}
use Rattle.leak_pool.specs.Scopes.{all_targets}
use Rattle.leak_pool.proofs.ListingLemmas.{blocks_listed, edges_listed, lists_are}
use Rattle.leak_pool.proofs.ScopeLemmas.{long_all}
use Rattle.leak_pool.proofs.listing_blocks.list_blocks.Goals as goal

pub invariant_of-result : goal.invariant_of-result
invariant_of-result g c =
    let w = g.W.Words.word_at c.args.words.now in let i = g.L.Lookup.index c.args.lookup.now in
    let are : AreEdges (all_targets w i) c.row_size-size.result c.in-Some.rows.items = search (c.in_ok-rows.ensures.listed, rules) in
    let long : length c.blocks-blocks.result.now ≡ length i.blocks = ap (λ (l : List Block). length l) (c.blocks-blocks.ensures.value ∙ sym c.requires.same_blocks) in
    record {
      listed = edges_listed (all_targets w i) _ c.row_size-size.result c.in-Some.rows.items (long ∙ sym (long_all w i)) are;
      inside = blocks_listed w i _ c.row_size-size.result c.in-Some.rows.items [] long are (λ b h. absurd (omega (arith, h)));
    }

pub returns-clause-value : goal.returns-clause-value
returns-clause-value g c =
    let w = g.W.Words.word_at c.args.words.now in let i = g.L.Lookup.index c.args.lookup.now in
    let are : AreEdges (all_targets w i) c.row_size-size.result c.in-Some.rows.items = search (c.in_ok-rows.ensures.listed, rules) in
    let long : length c.blocks-blocks.result.now ≡ length i.blocks = ap (λ (l : List Block). length l) (c.blocks-blocks.ensures.value ∙ sym c.requires.same_blocks) in
    let few = c.if-blocks.false in
    record {
      few = omega (arith, few, long);
      blocks = long;
      targets = lists_are (all_targets w i) _ c.row_size-size.result c.in-Some.rows.items (long ∙ sym (long_all w i)) are;
    }
