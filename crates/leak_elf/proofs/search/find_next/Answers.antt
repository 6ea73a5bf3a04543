-- From the lemmas of Holders.
use Rattle.std.proofs.Common.{◌≡◌, ◌-◌, ◌<◌, ◌∙◌, sym, arith, false, get_or, length, [], ◌∷◌, None}
use Rattle.leak_elf.specs.declared.segment.Segment.{Segment}
use Rattle.leak_elf.specs.Words.{NoneHeld, IsNextHeld, IsHolder}
use Rattle.leak_elf.proofs.Holders.{none_before, none_until, least_here, gives_none, holder_gives}
use Rattle.leak_elf.proofs.search.find_next.Goals as goal
use Rattle.leak_elf.proofs.search.find_next.Goals.{then-count-gt0+else-is_some, else-count-gt0}

abbrev empty : Segment
empty = record { vaddr = 0; memsz = 0; offset = 0; filesz = 0; writable = false }

pub returns-then-is_some-clause-least : goal.returns-then-is_some-clause-least
returns-then-is_some-clause-least c =
    let n = c.count_up_to-count.result in
    let count = c.count_up_to-count.ensures in
    least_here c.args.segments.now c.args.from n empty c.find_next_in-here.result c.requires.kept c.if-count-gt0.true count.bound count.within count.beyond c.find_next_in-here.ensures.least (sym c.is_some.ensures ∙ c.if-is_some.true)

pub returns-in_err-holder-clause-least : goal.returns-in_err-holder-clause-least
returns-in_err-holder-clause-least c =
    let segs = c.args.segments.now in
    let n = c.count_up_to-count.result in
    let from = c.args.from in
    let count = c.count_up_to-count.ensures in
    let last : 0 < n → IsNextHeld (get_or segs (n - 1) empty ∷ []) from None = λ p.
    elim c.if-count-gt0.branch [
      | then-count-gt0+else-is_some w ↦ gives_none _ from w.find_next_in-here.result w.find_next_in-here.ensures.least (sym w.is_some.ensures ∙ w.if-is_some.false)
      | else-count-gt0 w ↦ absurd (omega (arith, w.if-count-gt0.false))
    ] in
    let none : NoneHeld segs n from = none_before segs from n empty c.requires.kept count.bound count.within count.beyond last in
    let all : n ≡ length segs = let b = count.bound in let e = c.requires.holders.each in let f = c.in_err-holder.ensures.lookup in omega arith in
    rw (c.from_residual.ensures, ← all) none

pub returns-in_err-get-clause-least : goal.returns-in_err-get-clause-least
returns-in_err-get-clause-least c =
    let segs = c.args.segments.now in
    let n = c.count_up_to-count.result in
    let from = c.args.from in
    let count = c.count_up_to-count.ensures in
    let last : 0 < n → IsNextHeld (get_or segs (n - 1) empty ∷ []) from None = λ p.
    elim c.if-count-gt0.branch [
      | then-count-gt0+else-is_some w ↦ gives_none _ from w.find_next_in-here.result w.find_next_in-here.ensures.least (sym w.is_some.ensures ∙ w.if-is_some.false)
      | else-count-gt0 w ↦ absurd (omega (arith, w.if-count-gt0.false))
    ] in
    let none : NoneHeld segs n from = none_before segs from n empty c.requires.kept count.bound count.within count.beyond last in
    let got = c.in_ok-holder.ensures.lookup.3 in
    let holder = c.in_ok-holder.field-0.now in
    let is : IsHolder segs n holder = rw (got.1 0) (c.requires.holders.first n 0 (let e = c.requires.holders.each in let l = got.0 in omega arith)) in
    let all : holder ≡ length segs = let b = is.bound in let e = c.in_err-get.ensures.lookup.3 in omega arith in
    rw (c.from_residual-in_err-get.ensures, ← all) (none_until segs from n holder none is)

pub returns-clause-least : goal.returns-clause-least
returns-clause-least c =
    let segs = c.args.segments.now in
    let n = c.count_up_to-count.result in
    let from = c.args.from in
    let count = c.count_up_to-count.ensures in
    let last : 0 < n → IsNextHeld (get_or segs (n - 1) empty ∷ []) from None = λ p.
    elim c.if-count-gt0.branch [
      | then-count-gt0+else-is_some w ↦ gives_none _ from w.find_next_in-here.result w.find_next_in-here.ensures.least (sym w.is_some.ensures ∙ w.if-is_some.false)
      | else-count-gt0 w ↦ absurd (omega (arith, w.if-count-gt0.false))
    ] in
    let none : NoneHeld segs n from = none_before segs from n empty c.requires.kept count.bound count.within count.beyond last in
    let got = c.in_ok-holder.ensures.lookup.3 in
    let holder = c.in_ok-holder.field-0.now in
    let is : IsHolder segs n holder = rw (got.1 0) (c.requires.holders.first n 0 (let e = c.requires.holders.each in let l = got.0 in omega arith)) in
    let found = c.in_ok-get.ensures.lookup.3 in
    let least : IsNextHeld (get_or segs holder empty ∷ []) from c.find_next_in.result = rw (← found.1 empty) c.find_next_in.ensures.least in
    holder_gives segs from holder n empty c.find_next_in.result c.requires.kept found.0 is.from_on (count.beyond holder empty is.from_on found.0) is (none_until segs from n holder none is) least
