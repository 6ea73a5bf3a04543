-- From the lemmas of DifferLemmas.
use Rattle.std.proofs.Common.{◌∙◌, ap, sym, ℕ, ◌+◌, ◌*◌, ◌<◌, Option, arith}
use Rattle.leak_elf.specs.Words.{word_of}
use Rattle.leak_elf.specs.Aligned.{aligned_words}
use Rattle.leak_later.specs.Differing.{is_changed}
use Rattle.leak_later.proofs.DifferLemmas.{differs_at, same_words}
use Rattle.leak_later.proofs.comparing.words_differ.Goals as goal

pub returns-then-is_changed : goal.returns-then-is_changed
returns-then-is_changed g c =
    let at : ℕ = 4096 * c.args.page + 8 * c.loop-k.k in
    let few : c.loop-k.k < 512 = c.loop-k-test.true in
    sym (differs_at (word_of c.args.first.now) (word_of c.args.second.now) c.args.page at (omega arith) (omega arith)
    (ap (λ (o : Option ℕ). is_changed o (word_of c.args.second.now at)) (sym c.word.ensures.value)
    ∙ ap (λ (o : Option ℕ). is_changed c.word.result o) (sym c.word-in-loop-k.ensures.value)
    ∙ sym c.is_changed.ensures ∙ c.if-is_changed.true))

pub returns : goal.returns
returns g c = sym (same_words (word_of c.args.first.now) (word_of c.args.second.now) c.args.page (aligned_words c.args.second.now)
    (λ k h. let all = c.loop-k-test.false in c.loop-k.invariant k (omega arith)))
