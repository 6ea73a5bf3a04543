-- The part that is read is the part with the number.
use Rattle.std.proofs.Common.{◌≡◌, ◌<◌, ◌≤◌, ◌+◌, ◌∙◌, ℕ, sym, ap, subst, List, length, get_or}
use Rattle.std.proofs.lemmas.List.{get_or_default}
use Rattle.leak_elf.specs.declared.segment.NotePart.{NotePart}
use Rattle.leak_elf.specs.Segments.{note_parts_of, bytes_at}
use Rattle.leak_elf.proofs.Heads.{bytes_front}
use Rattle.leak_elf.proofs.image.Image.note_bytes.Goals as goal

pub returns-clause-value : goal.returns-clause-value
returns-clause-value g c d =
    let part = c.index-part.result.now in
    let held = c.self.inside.held.now in
    let rest = g.R.Rest.bytes c.self.inside.rest in
    let parts : c.self.inside.parts.items ≡ note_parts_of c.args.self.now = c.self.invariant.2 ∙ ap note_parts_of c.self.view_is in
    let same : get_or (note_parts_of c.args.self.now) c.args.i d ≡ part =
    get_or_default (note_parts_of c.args.self.now) c.args.i d part c.requires ∙ ap (λ (xs : List NotePart). get_or xs c.args.i part) (sym parts) ∙ sym c.index-part.ensures in
    let bound : c.args.i < length c.self.inside.parts.items = subst (λ (xs : List NotePart). c.args.i < length xs) (sym parts) c.requires in
    let lies = subst (λ (p : NotePart). 0 < p.filesz → p.offset + p.filesz ≤ length held) (sym c.index-part.ensures) (c.self.invariant.4 c.args.i part bound) in
    rw same (c.bytes_from.ensures.bytes ∙ sym (bytes_front held rest part.offset part.filesz lies) ∙ ap (λ (file : List ℕ). bytes_at file part.offset part.filesz) c.self.view_is)

pub returns-clause-end : goal.returns-clause-end
returns-clause-end g c d =
    let part = c.index-part.result.now in
    let parts : c.self.inside.parts.items ≡ note_parts_of c.args.self.now = c.self.invariant.2 ∙ ap note_parts_of c.self.view_is in
    let same : get_or (note_parts_of c.args.self.now) c.args.i d ≡ part =
    get_or_default (note_parts_of c.args.self.now) c.args.i d part c.requires ∙ ap (λ (xs : List NotePart). get_or xs c.args.i part) (sym parts) ∙ sym c.index-part.ensures in
    rw same c.bytes_from.ensures.end
