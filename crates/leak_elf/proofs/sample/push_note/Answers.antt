-- From what the calls promise.
use Rattle.std.proofs.Common.{append_assoc, refl}
use Rattle.leak_elf.specs.Sample.{note_entry}
use Rattle.leak_elf.proofs.sample.push_note.Goals as goal

pub returns : goal.returns
unfolding note_entry
returns c =
    rw (c.in_ok-push_zeros-2.ensures, c.in_ok-push_zeros.ensures, c.in_ok-push-4.ensures, c.in_ok-push-3.ensures, c.in_ok-push-2.ensures, c.in_ok-push.ensures)
    (rw (c.to_le_bytes.ensures, c.to_le_bytes-2.ensures, c.to_le_bytes-3.ensures)
    (simp append_assoc refl))
