-- From the lemmas of Samples.
use Rattle.std.proofs.Common.{◌∙◌, ◌-◌, ℕ, List, get_or, ap, sym}
use Rattle.std.specs.Int.{w64, to_le_bytes}
use Rattle.leak_elf.specs.Sample.{patched}
use Rattle.leak_elf.proofs.Samples.{with_words_more}
use Rattle.leak_elf.proofs.sample.set_words.Goals as goal

pub loop-addr-preserved : goal.loop-addr-preserved
loop-addr-preserved c =
    let w = get_or c.args.words.now c.loop-addr.addr-index (0, 0) in
    c.set_word.ensures ∙ ap (λ (file : List ℕ). patched file (w.0 - 0xf000) (to_le_bytes w64 w.1)) c.loop-addr.invariant
    ∙ sym (with_words_more c.args.core.now c.args.words.now c.loop-addr.addr-index (0, 0) c.loop-addr-test.true)
