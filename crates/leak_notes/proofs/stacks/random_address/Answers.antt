-- From the lemmas of Parts and PickLemmas.
use Rattle.std.proofs.Common.{◌<◌, ◌++◌, List, length, ap, ◌∙◌}
use Rattle.leak_elf.specs.declared.segment.NotePart.{NotePart}
use Rattle.leak_elf.specs.Segments.{note_parts_of}
use Rattle.leak_notes.specs.Entry.{Entry}
use Rattle.std.specs.Prelude.{filter_map}
use Rattle.leak_notes.specs.Stacks.{first_said, random_of_entry, random_of}
use Rattle.leak_notes.proofs.Parts.{part_read}
use Rattle.leak_notes.proofs.PickLemmas.{picked_none, picked_more, picked_whole}
use Rattle.leak_notes.proofs.stacks.random_address.Goals as goal

no_part : NotePart
no_part = record { offset = 0; filesz = 0 }

pub loop-i-init : goal.loop-i-init
loop-i-init g c = picked_none random_of_entry c.args.image.now c.new-said.result.items c.new-said.ensures.items

pub loop-i-preserved : goal.loop-i-preserved
unfolding no_part
loop-i-preserved g c =
    let there : c.loop-i.i < length (note_parts_of c.args.image.now) = rw c.note_parts-part-items.ensures at c.loop-i-test.true in
    picked_more random_of_entry c.args.image.now c.loop-i.i no_part c.loop-i.said.items c.push_said.new.said.items there
    (c.in_ok-push_said.ensures ∙ ap (λ (es : List Entry). c.loop-i.said.items ++ filter_map random_of_entry es)
    (part_read c.args.image.now c.note_parts-part-items.result.now c.loop-i.i no_part c.note_bytes.result.now c.note_parts-part-items.ensures c.note_bytes.ensures.value))
    c.loop-i.invariant

pub returns : goal.returns
unfolding random_of
returns g c =
    c.first_said.ensures
    ∙ ap first_said (c.deref.ensures.value ∙ picked_whole random_of_entry c.args.image.now c.note_parts-part-items.result.now c.loop-i.i c.loop-i.said.items c.note_parts-part-items.ensures c.loop-i-test.false c.loop-i.invariant)
