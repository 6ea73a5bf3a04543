-- From the lemmas of Parts and PickLemmas.
use Rattle.std.proofs.Common.{◌<◌, ◌++◌, List, length, ap, ◌∙◌}
use Rattle.leak_elf.specs.declared.segment.NotePart.{NotePart}
use Rattle.leak_elf.specs.Segments.{note_parts_of}
use Rattle.leak_notes.specs.Entry.{Entry}
use Rattle.leak_notes.specs.Sets.{set_of, sets_of}
use Rattle.leak_notes.proofs.Parts.{part_read}
use Rattle.leak_notes.proofs.PickLemmas.{picked_none, picked_more, picked_whole}
use Rattle.leak_notes.proofs.sets.register_sets.Goals as goal

no_part : NotePart
no_part = record { offset = 0; filesz = 0 }

pub loop-i-init : goal.loop-i-init
loop-i-init g c = picked_none set_of c.args.image.now c.new-sets.result.items c.new-sets.ensures.items

pub loop-i-preserved : goal.loop-i-preserved
unfolding no_part
loop-i-preserved g c =
    let there : c.loop-i.i < length (note_parts_of c.args.image.now) = rw c.note_parts-part-items.ensures at c.loop-i-test.true in
    picked_more set_of c.args.image.now c.loop-i.i no_part c.loop-i.sets.items c.push_sets.new.sets.items there
    (c.in_ok-push_sets.ensures ∙ ap (λ (es : List Entry). c.loop-i.sets.items ++ sets_of es)
    (part_read c.args.image.now c.note_parts-part-items.result.now c.loop-i.i no_part c.note_bytes.result.now c.note_parts-part-items.ensures c.note_bytes.ensures.value))
    c.loop-i.invariant

pub returns : goal.returns
returns g c = picked_whole set_of c.args.image.now c.note_parts-part-items.result.now c.loop-i.i c.loop-i.sets.items c.note_parts-part-items.ensures c.loop-i-test.false c.loop-i.invariant
