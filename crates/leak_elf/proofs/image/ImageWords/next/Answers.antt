-- From the lemmas of Held.
use Rattle.std.proofs.Common.{◌∙◌, ◌++◌, sym, subst, false}
use Rattle.leak_elf.specs.declared.segment.Segment.{Segment}
use Rattle.leak_elf.specs.Segments.{AreKeptSegments}
use Rattle.leak_elf.proofs.Held.{next_readable}
use Rattle.leak_elf.proofs.image.ImageWords.next.Goals as goal

abbrev empty : Segment
empty = record { vaddr = 0; memsz = 0; offset = 0; filesz = 0; writable = false }

pub returns-clause-least : goal.returns-clause-least
returns-clause-least g c =
    let v = c.self.invariant in
    let file = c.self.inside.held.now ++ g.R.Rest.bytes c.self.inside.rest in
    let slice = c.as_slice-segments.ensures.value in
    let made = next_readable file c.as_slice-segments.result.now c.args.from empty c.find_next.result (slice ∙ v.1) (subst AreKeptSegments (sym slice) v.3.of_file.kept) c.find_next.ensures.least in
    rw (← c.self.view_is) made
