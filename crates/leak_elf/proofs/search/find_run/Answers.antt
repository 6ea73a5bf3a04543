-- From the lemmas of Held.
use Rattle.std.proofs.Common.{◌-◌, arith, false, refl}
use Rattle.leak_elf.specs.declared.segment.Segment.{Segment}
use Rattle.leak_elf.proofs.Held.{run_at}
use Rattle.leak_elf.proofs.search.find_run.Goals as goal

abbrev empty : Segment
empty = record { vaddr = 0; memsz = 0; offset = 0; filesz = 0; writable = false }

pub returns : goal.returns
returns g c =
    let n = c.count_up_to-count.result in
    let low = c.count_up_to-count.ensures.within (n - 1) empty (omega arith) in
    run_at c.args.held.now (g.R.Rest.bytes c.args.rest.now) c.args.segments.now c.args.from (n - 1) _ c.min.result empty c.requires.of_file.kept c.if-from-ne0.false (omega arith) low (omega arith) refl (omega arith) (omega arith)
