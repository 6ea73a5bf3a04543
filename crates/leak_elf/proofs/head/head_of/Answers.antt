-- From the lemmas of HeadLengths.
use Rattle.std.proofs.Common.{◌≡◌, ◌≤◌, ◌+◌, ◌*◌, ◌/◌, ◌∙◌, sym, refl, arith, ◌&&◌, length, max}
use Rattle.leak_elf.specs.Fields.{e_phoff}
use Rattle.leak_elf.specs.Headers.{is_extended, lacks_section_header, header_count}
use Rattle.leak_elf.specs.Head.{HasTable}
use Rattle.leak_elf.specs.HeadLength.{section_end, IsLeast}
use Rattle.leak_elf.proofs.HeadLengths.{least_section, least_table, least_notes, least_both, is_length, none_lacks, unfit_dumped, found_some, found_none, section_found}
use Rattle.leak_elf.proofs.head.head_of.Goals as goal
use Rattle.leak_elf.proofs.head.head_of.Goals.{then-head-via-then-head, then-head-via-else-head+then-are_unfit}

pub needs-requires-then-section-len : goal.needs-requires-then-section-len
needs-requires-then-section-len c =
    let bytes = c.args.bytes.now in
    let long : 64 ≤ length bytes = omega (arith, c.if-bytes-lt-FILE_HEADER_SIZE.false) in
    (omega (arith, c.if-section-len.true), rw c.section_end-section.ensures.value (least_section bytes long))

pub returns-in_default : goal.returns-in_default
returns-in_default c held b small head =
    let bytes = c.args.bytes.now in
    let long : 64 ≤ length bytes = omega (arith, c.if-bytes-lt-FILE_HEADER_SIZE.false) in
    let lacks = found_none (is_extended bytes && lacks_section_header bytes) (header_count bytes) (sym c.in_default.ensures.value) in
    let fits : section_end bytes ≤ length bytes = omega (arith, c.if-section-len.false, c.section_end-section.ensures.value) in
    absurd (none_lacks held bytes b long lacks fits head)

pub needs-requires-then-table-len : goal.needs-requires-then-table-len
needs-requires-then-table-len c =
    let bytes = c.args.bytes.now in
    let long : 64 ≤ length bytes = omega (arith, c.if-bytes-lt-FILE_HEADER_SIZE.false) in
    let found = found_some (is_extended bytes && lacks_section_header bytes) (header_count bytes) c.in-Some.count (sym c.in-Some.ensures.value) in
    (omega (arith, c.if-table-len.true), rw (c.u64_at.ensures, found.1) (least_table bytes long (section_found bytes found.0)))

pub returns-then-head : goal.returns-then-head
returns-then-head c held b small head =
    let bytes = c.args.bytes.now in
    let long : 64 ≤ length bytes = omega (arith, c.if-bytes-lt-FILE_HEADER_SIZE.false) in
    let found = found_some (is_extended bytes && lacks_section_header bytes) (header_count bytes) c.in-Some.count (sym c.in-Some.ensures.value) in
    let section = section_found bytes found.0 in
    let from = c.max.result in
    let end = c.notes_end-end.result in
    let table : HasTable bytes = record { file_header = long; section_header = section; program_headers = omega (arith, c.if-table-len.false, c.u64_at.ensures, found.1) } in
    let both : from ≡ max (section_end bytes) (e_phoff bytes + 56 * header_count bytes) = c.max.ensures ∙ rw (c.section_end-section.ensures.value, c.u64_at.ensures, found.1) refl in
    let low : IsLeast bytes from = rw both (least_both bytes (section_end bytes) (e_phoff bytes + 56 * header_count bytes) (least_section bytes long) (least_table bytes long section)) in
    let least = least_notes bytes from end ((end + 7) / 8 * 8) table low c.notes_end-end.ensures.value refl in
    elim c.then-head.branch [
      | then-head-via-then-head w ↦ let l = least held b head in absurd (omega (arith, w.if-head.true))
      | then-head-via-else-head+then-are_unfit w ↦ unfit_dumped held bytes ((end + 7) / 8 * 8) b table least (sym w.are_unfit.ensures ∙ w.if-are_unfit.true) head
    ]

pub returns : goal.returns
returns c =
    let bytes = c.args.bytes.now in
    let long : 64 ≤ length bytes = omega (arith, c.if-bytes-lt-FILE_HEADER_SIZE.false) in
    let found = found_some (is_extended bytes && lacks_section_header bytes) (header_count bytes) c.in-Some.count (sym c.in-Some.ensures.value) in
    let section = section_found bytes found.0 in
    let from = c.max.result in
    let end = c.notes_end-end.result in
    let table : HasTable bytes = record { file_header = long; section_header = section; program_headers = omega (arith, c.if-table-len.false, c.u64_at.ensures, found.1) } in
    let both : from ≡ max (section_end bytes) (e_phoff bytes + 56 * header_count bytes) = c.max.ensures ∙ rw (c.section_end-section.ensures.value, c.u64_at.ensures, found.1) refl in
    let low : IsLeast bytes from = rw both (least_both bytes (section_end bytes) (e_phoff bytes + 56 * header_count bytes) (least_section bytes long) (least_table bytes long section)) in
    let fit = sym c.are_unfit.ensures ∙ c.if-are_unfit.false in (
      is_length bytes from end ((end + 7) / 8 * 8) table (omega (arith, both)) (omega (arith, both)) c.notes_end-end.ensures.value refl fit,
      least_notes bytes from end ((end + 7) / 8 * 8) table low c.notes_end-end.ensures.value refl,
    )
