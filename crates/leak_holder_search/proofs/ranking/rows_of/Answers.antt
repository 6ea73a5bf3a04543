-- From the lemmas of GraphLemmas and RowLemmas.
use Rattle.std.proofs.Common.{ℕ, List, length, ap, subst}
use Rattle.std.proofs.lemmas.Result.{IfOk-weaker}
use Rattle.leak_pool.specs.Listing.{targets_in}
use Rattle.leak_without.specs.Without.{graph_of}
use Rattle.leak_holders.specs.Holders.{AreHolders}
use Rattle.leak_holder_search.specs.Analyses.{AreRowsIn, blocks_in, graph_in, texts_in}
use Rattle.leak_holder_search.specs.Text.{AreRowsOf}
use Rattle.leak_holder_search.proofs.GraphLemmas.{first_inside}
use Rattle.leak_holder_search.proofs.RowLemmas.{inside_of}
use Rattle.leak_holder_search.proofs.ranking.rows_of.Goals as goal

pub holders-requires-clause-inside : goal.holders-requires-clause-inside
holders-requires-clause-inside g c κs within = rw (c.first.ensures) (first_inside c.args.analysis.now.listed.listing)

pub holders-requires-clause-reached : goal.holders-requires-clause-reached
holders-requires-clause-reached g c κs within = rw (c.first.ensures, c.table_of.ensures.of.reached) c.requires.reached

pub returns-clause-are : goal.returns-clause-are
returns-clause-are g c =
    let a = c.args.analysis.now in
    let listed = graph_of c.first.result.now (targets_in a.listed.listing) in
    IfOk-weaker c.holders.result (λ v. AreHolders listed c.table_of.result c.count_texts.result v.items) (λ v. AreRowsIn a v.items)
    (λ v is. record {
      table = c.table_of.result;
      known = c.table_of.ensures.of;
      holders =
          subst (λ (n : ℕ). AreHolders (graph_in a) c.table_of.result n v.items) c.count_texts.ensures
          (subst (λ (first : List ℕ). AreHolders (graph_of first (targets_in a.listed.listing)) c.table_of.result c.count_texts.result v.items) c.first.ensures is);
    }) c.holders.ensures

pub returns-clause-inside : goal.returns-clause-inside
returns-clause-inside g c =
    let a = c.args.analysis.now in
    let listed = graph_of c.first.result.now (targets_in a.listed.listing) in
    IfOk-weaker c.holders.result (λ v. AreHolders listed c.table_of.result c.count_texts.result v.items)
    (λ v. AreRowsOf (length (blocks_in a)) (length (texts_in a)) v.items)
    (λ v is. subst (λ (n : ℕ). AreRowsOf (length (blocks_in a)) n v.items) c.count_texts.ensures
    (inside_of listed c.table_of.result c.count_texts.result _ v.items is (ap length c.table_of.ensures.of.of_blocks))) c.holders.ensures
