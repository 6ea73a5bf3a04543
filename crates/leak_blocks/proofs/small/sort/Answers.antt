-- From the lemmas of SmallLemmas.
use Rattle.std.proofs.Common.{rules, ◌≤◌}
use Rattle.std.proofs.lemmas.List.Sorted.{IsNonDecreasingBy-from_sort_by_key, All-permutation}
use Rattle.leak_blocks.specs.declared.small.Span.{Span}
use Rattle.leak_blocks.proofs.SmallLemmas.{same_sorted}
use Rattle.leak_blocks.proofs.small.sort.Goals as goal

pub returns-clause-ascending : goal.returns-clause-ascending
returns-clause-ascending c = IsNonDecreasingBy-from_sort_by_key (λ (s : Span). s.first) c.sort_by_key.new.self c.in_ok-sort_by_key.ensures.sorted (λ a r f h. search rules)

pub returns-clause-spans : goal.returns-clause-spans
returns-clause-spans c = All-permutation (λ (s : Span). s.first ≤ s.last) c.args.spans.now c.sort_by_key.new.self c.sort_by_key.ensures.permutation c.requires

pub returns-clause-same : goal.returns-clause-same
returns-clause-same c = same_sorted c.args.spans.now c.sort_by_key.new.self c.sort_by_key.ensures.permutation
