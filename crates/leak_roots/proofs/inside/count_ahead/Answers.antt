-- The ranges ascend, and so do the spans.
use Rattle.std.proofs.Common.{ℕ, ap, leb, sym, arith, rules}
use Rattle.std.proofs.lemmas.Bool.{leb-true, le-leb}
use Rattle.std.proofs.lemmas.Option.{get_or_from_slice_get}
use Rattle.std.proofs.lemmas.List.Sorted.{IsPartitionPoint-from_clause}
use Rattle.std.specs.List.Sorted.{IsPartitionedBy}
use Rattle.leak_blocks.specs.declared.small.Span.{Span}
use Rattle.leak_roots.proofs.LeftOut.{ends_ascend}
use Rattle.leak_roots.proofs.Spans.{firsts_ascend}
use Rattle.leak_roots.proofs.inside.count_ahead.Goals as goal

pub returns-in-Some-clause-ahead : goal.returns-in-Some-clause-ahead
returns-in-Some-clause-ahead c =
    let memory = c.args.memory.now in
    let at : ℕ = c.in-Some.span.now.first in
    let parted : IsPartitionedBy (λ (r : ℕ × ℕ). leb r.1 at) memory = λ i j d le lt h. le-leb _ _ (ends_ascend memory i j d at c.requires.ranges le lt (leb-true _ _ h)) in
    let point = IsPartitionPoint-from_clause (λ (r : ℕ × ℕ). leb r.1 at) _ _ c.partition_point.ensures.partitioned parted (λ a r q k. search rules) in
    λ k j r d early there.
    let end = leb-true _ _ (point.0 k r (let b = c.partition_point.ensures.bound in omega arith) early) in
    let same = ap (λ (s : Span). s.first) (get_or_from_slice_get c.args.spans.now 0 c.in-Some.span.now d (sym c.in-Some.ensures.value)) in
    let first = firsts_ascend c.args.spans.now 0 j d c.requires.apart (omega arith) there in
    omega arith
