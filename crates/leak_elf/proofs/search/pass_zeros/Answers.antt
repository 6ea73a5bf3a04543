-- From the lemmas of Split and Zeros.
use Rattle.std.proofs.Common.{◌++◌, ◌+◌, ◌-◌, get_or, length, false, refl, arith}
use Rattle.leak_elf.specs.declared.segment.Segment.{Segment}
use Rattle.leak_elf.proofs.Split.{BeginsAt, multiple_behind}
use Rattle.leak_elf.proofs.Zeros.{zeros_passed, is_there}
use Rattle.leak_elf.proofs.search.pass_zeros.Goals as goal

abbrev empty : Segment
empty = record { vaddr = 0; memsz = 0; offset = 0; filesz = 0; writable = false }

pub returns-then-at-held-clause-word : goal.returns-then-at-held-clause-word
returns-then-at-held-clause-word g c _ =
    let file = c.args.held.now ++ g.R.Rest.bytes c.args.rest.now in
    let i = c.count_up_to-count.result - 1 in
    let low = c.count_up_to-count.ensures.within i empty (omega arith) in
    is_there file c.args.segments.now i empty c.args.from c.requires.of_file.kept c.if-from-ne0.false (omega arith) low (omega arith)

pub returns-then-zeros-end-clause-zeros : goal.returns-then-zeros-end-clause-zeros
returns-then-zeros-end-clause-zeros g c =
    let held = c.args.held.now in
    let rest = g.R.Rest.bytes c.args.rest.now in
    let segs = c.args.segments.now in
    let n = c.count_up_to-count.result in
    let s = get_or segs (n - 1) empty in
    let at = s.offset + (c.args.from - s.vaddr) in
    let counted = c.count_up_to-count.ensures in
    let low = counted.within (n - 1) empty (omega arith) in
    let begins : BeginsAt s c.args.from at = (low, omega arith, refl) in
    zeros_passed held rest segs n empty c.args.from at c.skip_zeros.result (s.vaddr + s.filesz) c.requires (omega arith) counted.bound counted.within begins (omega arith) c.skip_zeros.ensures (omega arith) (omega arith)

pub returns-clause-zeros : goal.returns-clause-zeros
returns-clause-zeros g c =
    let held = c.args.held.now in
    let rest = g.R.Rest.bytes c.args.rest.now in
    let segs = c.args.segments.now in
    let n = c.count_up_to-count.result in
    let s = get_or segs (n - 1) empty in
    let at = s.offset + (c.args.from - s.vaddr) in
    let counted = c.count_up_to-count.ensures in
    let low = counted.within (n - 1) empty (omega arith) in
    let begins : BeginsAt s c.args.from at = (low, omega arith, refl) in
    zeros_passed held rest segs n empty c.args.from at c.skip_zeros.result (c.args.from + (c.skip_zeros.result - (at - length held))) c.requires (omega arith) counted.bound counted.within begins (omega arith) c.skip_zeros.ensures (omega arith) (omega arith)

pub returns-clause-word : goal.returns-clause-word
returns-clause-word g c _ =
    let held = c.args.held.now in
    let rest = g.R.Rest.bytes c.args.rest.now in
    let segs = c.args.segments.now in
    let n = c.count_up_to-count.result in
    let s = get_or segs (n - 1) empty in
    let at = s.offset + (c.args.from - s.vaddr) in
    let low = c.count_up_to-count.ensures.within (n - 1) empty (omega arith) in
    let begins : BeginsAt s c.args.from at = (low, omega arith, refl) in
    let even = multiple_behind held rest segs (n - 1) empty c.args.from at c.requires c.if-from-ne0.false (omega arith) begins (omega arith) in
    let multiple = c.skip_zeros.ensures.multiple in
    is_there (held ++ rest) segs (n - 1) empty (c.args.from + (c.skip_zeros.result - (at - length held))) c.requires.of_file.kept (omega (arith, c.if-from-ne0.false)) (omega arith) (omega arith) (omega arith)
