-- From the lemmas of PairLemmas and GrowthLemmas.
use Rattle.std.proofs.Common.{ℕ, ◌+◌, ◌<◌, ◌≤◌, ◌^◌, length, ap, arith}
use Rattle.leak_search.proofs.PairLemmas.{is_true}
use Rattle.leak_growth.proofs.GrowthLemmas.{callers_in, all_numbered, finds, too_many}
use Rattle.leak_growth.proofs.growth.find_growth.Goals as goal

pub returns-then-blocks-clause-refused : goal.returns-then-blocks-clause-refused
returns-then-blocks-clause-refused c = λ other.
    let many : 2 ^ 32 ≤ length c.in-Ok.first.live.blocks + length c.in-Ok-replay_bytes.second.live.blocks =
    omega (arith, ap length c.blocks-2.ensures.value, ap length c.blocks-3.ensures.value, c.if-blocks.true) in
    too_many c.args.log1.now c.args.log2.now c.in-Ok.first c.in-Ok-replay_bytes.second c.in-Ok.ensures.ok c.in-Ok-replay_bytes.ensures.ok
    (is_true _ _ c.is_continued.ensures c.if-not-is_continued.false) many

pub text-requires-clause-first_in_log : goal.text-requires-clause-first_in_log
text-requires-clause-first_in_log c = callers_in c.args.log1.now c.in-Ok.first c.in-Ok.ensures.ok

pub text-requires-clause-second_in_log : goal.text-requires-clause-second_in_log
text-requires-clause-second_in_log c = callers_in c.args.log2.now c.in-Ok-replay_bytes.second c.in-Ok-replay_bytes.ensures.ok

pub text-requires-clause-first_numbered : goal.text-requires-clause-first_numbered
text-requires-clause-first_numbered c = all_numbered c.args.log1.now c.in-Ok.first c.in-Ok.ensures.ok

pub text-requires-clause-second_numbered : goal.text-requires-clause-second_numbered
text-requires-clause-second_numbered c = all_numbered c.args.log2.now c.in-Ok-replay_bytes.second c.in-Ok-replay_bytes.ensures.ok

pub returns-clause-ok : goal.returns-clause-ok
returns-clause-ok c =
    let few : length c.in-Ok.first.live.blocks + length c.in-Ok-replay_bytes.second.live.blocks < 2 ^ 32 =
    omega (arith, ap length c.blocks-2.ensures.value, ap length c.blocks-3.ensures.value, c.if-blocks.false) in
    finds c.args.log1.now c.args.log2.now c.in-Ok.first c.in-Ok-replay_bytes.second c.count_lines.result _ c.in-Ok.ensures.ok c.in-Ok-replay_bytes.ensures.ok
    (is_true _ _ c.is_continued.ensures c.if-not-is_continued.false) few c.count_lines.ensures c.in_ok-report.ensures c.in_ok-signs.ensures
