-- From lemmas of std.
use Rattle.std.proofs.Common.{◌+◌, ◌*◌, ◌∙◌, sym, refl, arith, ℕ}
use Rattle.std.proofs.lemmas.List.FromFn.{map-range_with_len_more}
use Rattle.leak_elf.specs.Headers.{header_at}
use Rattle.leak_elf.specs.Fields.{e_phoff}
use Rattle.leak_elf.proofs.header.read_headers.Goals as goal

pub loop-i-preserved : goal.loop-i-preserved
loop-i-preserved c =
    let more = map-range_with_len_more (λ (i : ℕ). header_at c.args.core.now (e_phoff c.args.core.now + 56 * i)) 0 c.loop-i.i c.loop-i.i (omega arith) in
    c.in_ok-push.ensures.items ∙ (rw (c.loop-i.invariant, c.read_header.ensures, c.u64_at-start.ensures) refl) ∙ sym more
