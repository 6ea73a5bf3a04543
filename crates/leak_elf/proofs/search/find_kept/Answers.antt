-- From the lemmas of KeptWords.
use Rattle.std.proofs.Common.{◌≡◌, ℕ, arith, get_or, List, ◌+◌, ◌-◌, ◌*◌, ◌≤◌, IfSome, false, refl, subst}
use Rattle.leak_elf.specs.declared.segment.Segment.{Segment}
use Rattle.leak_elf.proofs.KeptWords.{kept_behind}
use Rattle.leak_elf.proofs.search.find_kept.Goals as goal

abbrev empty : Segment
empty = record { vaddr = 0; memsz = 0; offset = 0; filesz = 0; writable = false }

pub returns-clause-kept : goal.returns-clause-kept
returns-clause-kept g c =
    let segs = c.args.segments.now in
    let i = c.count_up_to-before.result - 1 in
    let s = get_or segs i empty in
    let at = s.offset + (c.args.from - s.vaddr) in
    let low = c.count_up_to-before.ensures.within i empty (omega arith) in
    let high : c.args.from + 8 * c.args.count ≤ s.vaddr + s.filesz = omega (arith, c.if-saturating_sub-max.false) in
    let same = kept_behind c.args.held.now (g.R.Rest.bytes c.args.rest.now) segs i empty c.args.from at c.args.count c.requires c.if-from-ne0.false (omega arith) low high refl (omega arith) in
    subst (λ (words : List ℕ). IfSome c.kept.result (λ kept. kept.now ≡ words)) same c.kept.ensures
