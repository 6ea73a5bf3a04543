-- From the lemmas of Sorted and Meeting.
use Rattle.std.proofs.Common.{◌≡◌, ◌∙◌, ◌<◌, length, get_or, ap, subst, sym, List, map, filter, rules}
use Rattle.std.proofs.lemmas.List.{take_all}
use Rattle.std.proofs.lemmas.List.Sorted.{IsNonDecreasingBy-from_sort_by_key, answers_always}
use Rattle.leak_elf.specs.declared.header.Header.{Header}
use Rattle.leak_elf.specs.declared.segment.Segment.{Segment}
use Rattle.leak_elf.specs.Headers.{has_addresses}
use Rattle.leak_elf.specs.Segments.{segment_of, IsAscending}
use Rattle.leak_elf.proofs.Sorted.{tie, sorted_is}
use Rattle.leak_elf.proofs.Meeting.{kept_some}
use Rattle.leak_elf.proofs.segment.kept_segments.Goals as goal

pub returns-clause-ascending : goal.returns-clause-ascending
returns-clause-ascending c = IsNonDecreasingBy-from_sort_by_key (λ (s : Segment). s.vaddr) _ c.in_ok-sort_by_key.ensures.sorted (λ a r q k. search rules)

pub returns-clause-items : goal.returns-clause-items
returns-clause-items c =
    let hs = c.args.headers.now in
    let up : IsAscending c.sort_by_key.new.self.items = IsNonDecreasingBy-from_sort_by_key (λ (s : Segment). s.vaddr) _ c.in_ok-sort_by_key.ensures.sorted (λ a r q k. search rules) in
    let pushed : c.loop-header.segments.items ≡ map segment_of (filter has_addresses hs) =
    c.loop-header.invariant ∙ ap (λ (xs : List Header). map segment_of (filter has_addresses xs)) (take_all c.loop-header.header-index hs c.loop-header-test.false) in
    let stable : (x : Segment) → filter (tie x) c.sort_by_key.new.self.items ≡ filter (tie x) c.loop-header.segments.items =
    c.in_ok-sort_by_key.ensures.stable (λ s. s.vaddr) (answers_always _ _ _ (λ f a r g h. search rules)) in
    sorted_is (map segment_of (filter has_addresses hs)) c.sort_by_key.new.self.items up (λ x. stable x ∙ ap (filter (tie x)) pushed)

pub returns-clause-some : goal.returns-clause-some
returns-clause-some c =
    let items = returns-clause-items c in
    λ k d l. subst (λ (xs : List Segment). k < length xs → 0 < (get_or xs k d).memsz) (sym items) (kept_some c.args.headers.now k d) l
