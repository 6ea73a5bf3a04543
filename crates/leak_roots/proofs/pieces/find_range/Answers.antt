-- From the lemmas of Cutting and Numbered.
use Rattle.std.proofs.Common.{◌-◌, length, get_or, refl, arith}
use Rattle.std.proofs.lemmas.List.{get_or_default}
use Rattle.leak_roots.specs.declared.pieces.Long.{Long}
use Rattle.leak_roots.proofs.Cutting.{range_is}
use Rattle.leak_roots.proofs.Numbered.{some_pieces, listed_ascend, listed_at, found_first, found_after}
use Rattle.leak_roots.proofs.pieces.find_range.Goals as goal

abbrev none : Long
none = record { first = 0; range = 0 }

pub count_up_to-next-requires : goal.count_up_to-next-requires
count_up_to-next-requires c = λ i j d le lt.
    listed_ascend c.args.words c.args.ranges.now 0 c.args.long.now (length c.args.ranges.now) i j d c.requires.some c.requires.ranges (omega arith) c.requires.long le lt

pub returns-then-next-eq0-clause-range : goal.returns-then-next-eq0-clause-range
returns-then-next-eq0-clause-range c =
    let a = found_first c.args.words c.args.ranges.now c.args.long.now c.count_up_to-next.result c.args.piece c.requires.some c.requires.ranges c.requires.long c.requires.piece c.count_up_to-next.ensures.beyond (omega arith) in
    a.inside

pub returns-then-next-eq0-clause-within : goal.returns-then-next-eq0-clause-within
returns-then-next-eq0-clause-within c = λ d.
    let a = found_first c.args.words c.args.ranges.now c.args.long.now c.count_up_to-next.result c.args.piece c.requires.some c.requires.ranges c.requires.long c.requires.piece c.count_up_to-next.ensures.beyond (omega arith) in
    some_pieces c.args.words (get_or c.args.ranges.now c.args.piece d) c.requires.some (range_is c.args.ranges.now c.args.piece d c.requires.ranges a.inside)

pub returns-then-next-eq0-clause-place : goal.returns-then-next-eq0-clause-place
returns-then-next-eq0-clause-place c =
    let a = found_first c.args.words c.args.ranges.now c.args.long.now c.count_up_to-next.result c.args.piece c.requires.some c.requires.ranges c.requires.long c.requires.piece c.count_up_to-next.ensures.beyond (omega arith) in
    let f = a.first in omega arith

pub bounds-ranges-last : goal.bounds-ranges-last
bounds-ranges-last c =
    let b = c.count_up_to-next.ensures.bound in
    let l = listed_at c.args.words c.args.ranges.now 0 c.args.long.now (length c.args.ranges.now) (c.count_up_to-next.result - 1) none c.requires.long (omega arith) in l.0

pub count_in-count-requires-clause-range : goal.count_in-count-requires-clause-range
count_in-count-requires-clause-range c =
    let b = c.count_up_to-next.ensures.bound in
    let l = listed_at c.args.words c.args.ranges.now 0 c.args.long.now (length c.args.ranges.now) (c.count_up_to-next.result - 1) none c.requires.long (omega arith) in
    range_is c.args.ranges.now _ (0, 0) c.requires.ranges l.0

pub returns-then-within-count-clause-place : goal.returns-then-within-count-clause-place
returns-then-within-count-clause-place c =
    let b = c.count_up_to-next.ensures.bound in
    let low = c.count_up_to-next.ensures.within (c.count_up_to-next.result - 1) none (omega arith) in
    let l = listed_at c.args.words c.args.ranges.now 0 c.args.long.now (length c.args.ranges.now) (c.count_up_to-next.result - 1) none c.requires.long (omega arith) in
    let e = l.1 in omega arith

pub offset_bounds-ranges-last : goal.offset_bounds-ranges-last
offset_bounds-ranges-last c =
    let b = c.count_up_to-next.ensures.bound in
    let l = listed_at c.args.words c.args.ranges.now 0 c.args.long.now (length c.args.ranges.now) (c.count_up_to-next.result - 1) none c.requires.long (omega arith) in
    let i = l.0 in omega arith

pub overflow_add-result-else-within-count : goal.overflow_add-result-else-within-count
overflow_add-result-else-within-count c =
    let b = c.count_up_to-next.ensures.bound in
    let low = c.count_up_to-next.ensures.within (c.count_up_to-next.result - 1) none (omega arith) in
    let e = c.count_in-count.ensures.count in
    let a = found_after c.args.words c.args.ranges.now c.args.long.now c.count_up_to-next.result c.args.piece _ none (0, 0) c.requires.some c.requires.ranges c.requires.long c.requires.piece c.count_up_to-next.ensures.beyond (omega arith) b (omega arith) refl in
    let i = a.inside in omega arith

pub returns-else-within-count-clause-range : goal.returns-else-within-count-clause-range
returns-else-within-count-clause-range c =
    let b = c.count_up_to-next.ensures.bound in
    let low = c.count_up_to-next.ensures.within (c.count_up_to-next.result - 1) none (omega arith) in
    let e = c.count_in-count.ensures.count in
    let a = found_after c.args.words c.args.ranges.now c.args.long.now c.count_up_to-next.result c.args.piece _ none (0, 0) c.requires.some c.requires.ranges c.requires.long c.requires.piece c.count_up_to-next.ensures.beyond (omega arith) b (omega arith) refl in
    let i = a.inside in rw e i

pub returns-else-within-count-clause-within : goal.returns-else-within-count-clause-within
returns-else-within-count-clause-within c = λ d.
    let b = c.count_up_to-next.ensures.bound in
    let low = c.count_up_to-next.ensures.within (c.count_up_to-next.result - 1) none (omega arith) in
    let e = c.count_in-count.ensures.count in
    let a = found_after c.args.words c.args.ranges.now c.args.long.now c.count_up_to-next.result c.args.piece _ none (0, 0) c.requires.some c.requires.ranges c.requires.long c.requires.piece c.count_up_to-next.ensures.beyond (omega arith) b (omega arith) refl in
    rw e (some_pieces c.args.words (get_or c.args.ranges.now _ d) c.requires.some (range_is c.args.ranges.now _ d c.requires.ranges a.inside))

pub returns-else-within-count-clause-place : goal.returns-else-within-count-clause-place
returns-else-within-count-clause-place c =
    let b = c.count_up_to-next.ensures.bound in
    let low = c.count_up_to-next.ensures.within (c.count_up_to-next.result - 1) none (omega arith) in
    let e = c.count_in-count.ensures.count in
    let a = found_after c.args.words c.args.ranges.now c.args.long.now c.count_up_to-next.result c.args.piece _ none (0, 0) c.requires.some c.requires.ranges c.requires.long c.requires.piece c.count_up_to-next.ensures.beyond (omega arith) b (omega arith) refl in
    let f = a.first in rw e (omega arith)

pub overflow_add-result : goal.overflow_add-result
overflow_add-result c =
    let b = c.count_up_to-next.ensures.bound in
    let l = listed_at c.args.words c.args.ranges.now 0 c.args.long.now (length c.args.ranges.now) (c.count_up_to-next.result - 1) none c.requires.long (omega arith) in
    let i = l.0 in omega arith

pub returns-then-within-count-clause-range : goal.returns-then-within-count-clause-range
returns-then-within-count-clause-range c =
    let b = c.count_up_to-next.ensures.bound in
    let l = listed_at c.args.words c.args.ranges.now 0 c.args.long.now (length c.args.ranges.now) (c.count_up_to-next.result - 1) none c.requires.long (omega arith) in
    l.0

pub returns-then-within-count-clause-within : goal.returns-then-within-count-clause-within
returns-then-within-count-clause-within c = λ d.
    let b = c.count_up_to-next.ensures.bound in
    let l = listed_at c.args.words c.args.ranges.now 0 c.args.long.now (length c.args.ranges.now) (c.count_up_to-next.result - 1) none c.requires.long (omega arith) in
    let e = c.count_in-count.ensures.count in
    let t = c.if-within-count.true in
    let same = get_or_default c.args.ranges.now (get_or c.args.long.now (c.count_up_to-next.result - 1) none).range d (0, 0) l.0 in
    rw same (omega arith)
