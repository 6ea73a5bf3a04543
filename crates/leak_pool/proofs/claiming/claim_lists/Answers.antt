-- From the lemmas of PartLemmas and ScanLemmas.
use Rattle.std.proofs.Common.{List, ℕ, ◌+◌, [], None, drop, flat_map, get_or}
use Rattle.leak_pool.specs.declared.target_list.TargetList.{TargetList}
use Rattle.leak_pool.proofs.PartLemmas.{part_has, next_part}
use Rattle.leak_pool.proofs.ScanLemmas.{scanning_part}
use Rattle.leak_pool.proofs.claiming.claim_lists.Goals as goal

abbrev none : TargetList
none = record { targets = record { ref_ptr = (0, 0); now = [] }; ahead = None }

pub claim_listed-requires-clause-inside : goal.claim_listed-requires-clause-inside
claim_listed-requires-clause-inside c b h =
    c.requires.inside b (part_has (λ (x : TargetList). x.targets.now) none c.args.lists.now c.loop-of_block.of_block-index b c.loop-of_block-test.true h)

pub loop-of_block-preserved : goal.loop-of_block-preserved
loop-of_block-preserved c =
    let now : TargetList → List ℕ = λ x. x.targets.now in let i = c.loop-of_block.of_block-index in let lists = c.args.lists.now in
    scanning_part _ _ (now (get_or lists i none)) (flat_map now (drop (i + 1) lists)) _ _ c.loop-of_block.seat c.loop-of_block.list.items _ _ c.loop-of_block.invariant
    (next_part now none lists i c.loop-of_block-test.true) c.claim_listed.ensures.same.0 c.claim_listed.ensures.same.1 c.claim_listed.ensures.sound c.claim_listed.ensures.listed
    c.in_ok-claim_listed.ensures.done
