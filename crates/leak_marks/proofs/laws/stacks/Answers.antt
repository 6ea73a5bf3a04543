-- From the lemmas of ListLemmas and StackLemmas.
use Rattle.std.proofs.Common.{[], ◌++◌}
use Rattle.leak_marks.specs.Lists.{Has}
use Rattle.leak_marks.proofs.ListLemmas.{none_has, has_front, has_back, of_append}
use Rattle.leak_marks.proofs.StackLemmas.{kept_nothing, kept_item, kept_block}
use Rattle.leak_marks.proofs.laws.stacks.Goals as goal

pub returns-clause-nothing : goal.returns-clause-nothing
returns-clause-nothing c targets seen = kept_nothing targets (Has []) seen (λ b h. none_has b h)

pub returns-clause-items : goal.returns-clause-items
returns-clause-items c targets items next before between after list more left later k n stays rest =
    kept_item targets (Has items) (Has next) (Has (items ++ next)) before between after list more left later (has_front items next) (has_back items next) (of_append items next) k n stays rest

pub returns-clause-own : goal.returns-clause-own
returns-clause-own c targets items before between after list more left later block k own n stays rest =
    kept_block targets (Has items) before between after list more left later block k own n stays rest
