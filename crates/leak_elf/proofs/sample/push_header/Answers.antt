-- From what the calls promise.
use Rattle.std.proofs.Common.{append_assoc, refl}
use Rattle.leak_elf.specs.Sample.{program_header}
use Rattle.leak_elf.proofs.sample.push_header.Goals as goal

pub returns : goal.returns
unfolding program_header
returns c =
    rw (c.in_ok-push-8.ensures, c.in_ok-push-7.ensures, c.in_ok-push-6.ensures, c.in_ok-push-5.ensures, c.in_ok-push-4.ensures, c.in_ok-push-3.ensures, c.in_ok-push-2.ensures, c.in_ok-push.ensures)
    (rw (c.to_le_bytes.ensures, c.to_le_bytes-2.ensures, c.to_le_bytes-3.ensures, c.to_le_bytes-4.ensures, c.to_le_bytes-5.ensures, c.to_le_bytes-6.ensures, c.to_le_bytes-7.ensures, c.to_le_bytes-8.ensures)
    (simp append_assoc refl))
