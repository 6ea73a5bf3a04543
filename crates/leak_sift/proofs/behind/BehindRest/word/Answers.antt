-- From the lemmas of BehindLemmas.
use Rattle.std.proofs.Common.{◌∙◌, ap, List, ℕ, Some, None, arith}
use Rattle.std.specs.ControlFlow.{continue_value}
use Rattle.leak_elf.specs.Head.{aligned_number_at}
use Rattle.leak_sift.proofs.BehindLemmas.{behind_some, word_at}
use Rattle.leak_sift.proofs.behind.BehindRest.word.Goals as goal

pub returns-in_err-word : goal.returns-in_err-word
returns-in_err-word c =
    let it = behind_some c.self.inside.words c.in_ok-words.words c.self.inside.len c.args.self.now (c.branch-words.ensures ∙ ap continue_value c.in_ok-words.is) c.self.invariant c.self.view_is in
    c.from_residual-in_err-word.ensures
    ∙ word_at c.in_ok-words.words.now c.self.inside.len c.args.at None it.0 c.if-at-ne0.false c.in_err-word.ensures tt
    ∙ ap (λ (bytes : List ℕ). aligned_number_at bytes c.args.at) it.1

pub returns : goal.returns
returns c =
    let it = behind_some c.self.inside.words c.in_ok-words.words c.self.inside.len c.args.self.now (c.branch-words.ensures ∙ ap continue_value c.in_ok-words.is) c.self.invariant c.self.view_is in
    word_at c.in_ok-words.words.now c.self.inside.len c.args.at (Some c.in_ok-word.word) it.0 c.if-at-ne0.false c.in_ok-word.ensures (omega arith)
    ∙ ap (λ (bytes : List ℕ). aligned_number_at bytes c.args.at) it.1
