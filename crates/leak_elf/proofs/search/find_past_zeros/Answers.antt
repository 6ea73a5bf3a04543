-- From the lemmas of Zeros.
use Rattle.std.proofs.Common.{◌++◌, false}
use Rattle.leak_elf.specs.declared.segment.Segment.{Segment}
use Rattle.leak_elf.proofs.Zeros.{next_past}
use Rattle.leak_elf.proofs.search.find_past_zeros.Goals as goal

abbrev empty : Segment
empty = record { vaddr = 0; memsz = 0; offset = 0; filesz = 0; writable = false }

pub returns-clause-zeros : goal.returns-clause-zeros
returns-clause-zeros g c =
    let file = c.args.held.now ++ g.R.Rest.bytes c.args.rest.now in
    let passed = c.pass_zeros-later.ensures in
    next_past file c.args.segments.now c.args.from c.pass_zeros-later.result.0 empty c.find_next.result c.requires.split.of_file.kept passed.later passed.zeros c.find_next.ensures.least
