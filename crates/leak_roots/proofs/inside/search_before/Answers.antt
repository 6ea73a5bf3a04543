-- From the lemmas of LeftOut.
use Rattle.std.proofs.Common.{ltb, arith, rules}
use Rattle.std.proofs.lemmas.Bool.{ltb-true, ltb-false, lt-ltb}
use Rattle.std.proofs.lemmas.List.Sorted.{IsPartitionPoint-from_clause}
use Rattle.std.specs.List.Sorted.{IsPartitionedBy}
use Rattle.leak_blocks.specs.declared.small.Span.{Span}
use Rattle.leak_roots.proofs.Spans.{lasts_ascend}
use Rattle.leak_roots.proofs.inside.search_before.Goals as goal

pub returns-clause-within : goal.returns-clause-within
returns-clause-within c =
    let parted : IsPartitionedBy (λ (s : Span). ltb s.last c.args.addr) c.args.spans.now = λ i j d le lt h. lt-ltb _ _ (let t = ltb-true _ _ h in lasts_ascend c.args.spans.now i j d c.args.addr c.requires le lt t) in
    let point = IsPartitionPoint-from_clause (λ (s : Span). ltb s.last c.args.addr) _ _ c.partition_point.ensures.partitioned parted (λ a r q k. search rules) in
    λ k d h. ltb-true _ _ (point.0 k d (omega arith) h)

pub returns-clause-beyond : goal.returns-clause-beyond
returns-clause-beyond c =
    let parted : IsPartitionedBy (λ (s : Span). ltb s.last c.args.addr) c.args.spans.now = λ i j d le lt h. lt-ltb _ _ (let t = ltb-true _ _ h in lasts_ascend c.args.spans.now i j d c.args.addr c.requires le lt t) in
    let point = IsPartitionPoint-from_clause (λ (s : Span). ltb s.last c.args.addr) _ _ c.partition_point.ensures.partitioned parted (λ a r q k. search rules) in
    λ k d h l. ltb-false _ _ (point.1 k d h l)
