-- From the lemmas of Parts.
use Rattle.std.proofs.Common.{◌≡◌, ◌<◌, List, length, Some, ap, subst, sym, ◌∙◌}
use Rattle.std.proofs.lemmas.Result.{err_from_is_err_and}
use Rattle.leak_elf.specs.declared.segment.NotePart.{NotePart}
use Rattle.leak_elf.specs.Segments.{note_parts_of}
use Rattle.leak_notes.specs.Entry.{Entry}
use Rattle.leak_notes.specs.Threads.{Registers, TakesUp, first_fault_among}
use Rattle.leak_notes.proofs.Parts.{part_more, part_refused, part_read, taken_whole, no_thread, all_taken}
use Rattle.leak_notes.proofs.threads.Threads.read.Goals as goal

no_part : NotePart
no_part = record { offset = 0; filesz = 0 }

pub loop-i-preserved : goal.loop-i-preserved
unfolding no_part
loop-i-preserved g c =
    let there : c.loop-i.i < length (note_parts_of c.args.image.now) = rw c.note_parts-part-items.ensures at c.loop-i-test.true in
    part_more _ _ no_part _ _ there c.loop-i.invariant
    (subst (λ (es : List Entry). TakesUp c.loop-i.threads c.take_part.new.self es)
    (part_read c.args.image.now c.note_parts-part-items.result.now c.loop-i.i no_part c.note_bytes.result.now c.note_parts-part-items.ensures c.note_bytes.ensures.value) c.in_ok-take_part.ensures.ok)

pub returns-in_err-take_part-clause-refused : goal.returns-in_err-take_part-clause-refused
unfolding no_part
returns-in_err-take_part-clause-refused g c =
    let p = err_from_is_err_and c.from_residual.result c.from_residual.ensures.1 in
    let there : c.loop-i.i < length (note_parts_of c.args.image.now) = rw c.note_parts-part-items.ensures at c.loop-i-test.true in
    rw (p.1, p.2)
    (λ other. part_refused c.args.image.now c.loop-i.i no_part c.loop-i.threads c.in_err-take_part.field-0.0 there c.loop-i.invariant
    (subst (λ (es : List Entry). first_fault_among es ≡ Some c.in_err-take_part.field-0.0)
    (part_read c.args.image.now c.note_parts-part-items.result.now c.loop-i.i no_part c.note_bytes.result.now c.note_parts-part-items.ensures c.note_bytes.ensures.value) (c.in_err-take_part.ensures.refused other)))

pub returns-then-threads-eq0-clause-refused : goal.returns-then-threads-eq0-clause-refused
returns-then-threads-eq0-clause-refused g c other =
    no_thread c.args.image.now c.loop-i.threads
    (taken_whole c.args.image.now c.note_parts-part-items.result.now c.loop-i.i c.loop-i.threads c.note_parts-part-items.ensures c.loop-i-test.false c.loop-i.invariant)
    (ap (λ (r : Registers). r.threads) (sym c.threads-2.view_is) ∙ c.if-threads-eq0.true)

pub returns-clause-ok : goal.returns-clause-ok
returns-clause-ok g c =
    all_taken c.args.image.now c.loop-i.threads
    (taken_whole c.args.image.now c.note_parts-part-items.result.now c.loop-i.i c.loop-i.threads c.note_parts-part-items.ensures c.loop-i-test.false c.loop-i.invariant)
    (λ z. c.if-threads-eq0.false (ap (λ (r : Registers). r.threads) c.threads-2.view_is ∙ z))
