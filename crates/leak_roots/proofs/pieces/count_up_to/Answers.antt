-- From lemmas of std.
use Rattle.std.proofs.Common.{leb, arith, rules}
use Rattle.std.proofs.lemmas.Bool.{leb-true, leb-false, le-leb}
use Rattle.std.proofs.lemmas.List.Sorted.{IsPartitionPoint-from_clause}
use Rattle.std.specs.List.Sorted.{IsPartitionedBy}
use Rattle.leak_roots.specs.declared.pieces.Long.{Long}
use Rattle.leak_roots.proofs.pieces.count_up_to.Goals as goal

pub returns-clause-within : goal.returns-clause-within
returns-clause-within c =
    let parted : IsPartitionedBy (λ (l : Long). leb l.first c.args.piece) c.args.long.now = λ i j d le lt h. le-leb _ _ (let t = leb-true _ _ h in let a = c.requires i j d le lt in omega arith) in
    let point = IsPartitionPoint-from_clause (λ (l : Long). leb l.first c.args.piece) _ _ c.partition_point.ensures.partitioned parted (λ a r q k. search rules) in
    λ k d h. leb-true _ _ (point.0 k d (omega arith) h)

pub returns-clause-beyond : goal.returns-clause-beyond
returns-clause-beyond c =
    let parted : IsPartitionedBy (λ (l : Long). leb l.first c.args.piece) c.args.long.now = λ i j d le lt h. le-leb _ _ (let t = leb-true _ _ h in let a = c.requires i j d le lt in omega arith) in
    let point = IsPartitionPoint-from_clause (λ (l : Long). leb l.first c.args.piece) _ _ c.partition_point.ensures.partitioned parted (λ a r q k. search rules) in
    λ k d h l. leb-false _ _ (point.1 k d h l)
