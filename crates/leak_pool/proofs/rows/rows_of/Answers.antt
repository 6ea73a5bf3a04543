-- From the lemmas of EdgeLemmas.
use Rattle.std.proofs.Common.{◌∙◌, map, ap, arith, rules}
use Rattle.std.proofs.lemmas.List.{length-map}
use Rattle.leak_scan.specs.Targets.{block_targets}
use Rattle.leak_pool.specs.Items.{targets_of_block}
use Rattle.leak_pool.proofs.EdgeLemmas.{listed_more, moved, target_of}
use Rattle.leak_pool.proofs.RowLemmas.{count_more, count_over, row_made, same_over}
use Rattle.leak_pool.proofs.rows.rows_of.Goals as goal

pub loop-k-preserved : goal.loop-k-preserved
loop-k-preserved g c =
    let w = g.W.Words.word_at c.args.words.now in let i = g.L.Lookup.index c.args.lookup.now in
    let here = target_of w i c.args.blocks.now c.loop-k.k _ (omega arith) in
    let grown = moved _ w i _ _ _ _ c.loop-k.invariant.same (c.in_ok-list_next.ensures.listed (search rules)) in
    record {
      same = ap (λ m. g.W.Words.word_at m) c.in_ok-list_next.ensures.same ∙ c.loop-k.invariant.same;
      within = c.in_ok-list_next.ensures.within;
      listed = listed_more (targets_of_block (map (block_targets w i) c.args.blocks.now)) c.loop-k.k c.loop-k.starts.items c.loop-k.targets.items _ _ _ c.loop-k.invariant.listed
          grown here (let e = c.in_ok-push-2.ensures.items in let l = c.len.ensures in search (e, l, rules));
      count = count_more (map (block_targets w i) c.args.blocks.now) c.loop-k.k c.loop-k.targets.items _ _ (let l = length-map c.args.blocks.now (block_targets w i) in omega (arith, l)) c.loop-k.invariant.count grown here;
    }

pub returns-then-not-branch : goal.returns-then-not-branch
returns-then-not-branch g c =
    let w = g.W.Words.word_at c.args.words.now in let i = g.L.Lookup.index c.args.lookup.now in
    count_over (map (block_targets w i) c.args.blocks.now) c.loop-k.k c.args.room c.loop-k.targets.items _ (let l = length-map c.args.blocks.now (block_targets w i) in omega (arith, l)) c.loop-k.invariant.count
    (target_of w i c.args.blocks.now c.loop-k.k _ (omega arith))
    (same_over _ w i _ _ _ _ c.loop-k.invariant.same (c.in_ok-list_next.ensures.over (search rules)))

pub returns : goal.returns
returns g c =
    let w = g.W.Words.word_at c.args.words.now in let i = g.L.Lookup.index c.args.lookup.now in
    row_made (map (block_targets w i) c.args.blocks.now) c.loop-k.k c.args.room (record { starts = c.loop-k.starts; targets = c.loop-k.targets })
    (let l = length-map c.args.blocks.now (block_targets w i) in omega (arith, l)) c.loop-k.invariant.listed c.loop-k.invariant.count c.loop-k.invariant.within
