-- From the lemmas of KeptLemmas.
use Rattle.std.proofs.Common.{◌≡◌, ◌∙◌, ℕ, ◌+◌, ◌-◌, ◌*◌, ◌/◌, ◌^◌, ◌<◌, ◌≤◌, List, length, ap, subst, sym, arith}
use Rattle.std.specs.ControlFlow.{continue_value}
use Rattle.leak_elf.specs.Head.{aligned_number_at}
use Rattle.leak_elf.specs.Words.{kept_words}
use Rattle.leak_sparse.specs.Words.{kept_from}
use Rattle.leak_sift.specs.Behind.{AreWords}
use Rattle.leak_sift.proofs.BehindLemmas.{behind_some}
use Rattle.leak_sift.proofs.KeptLemmas.{behind_kept}
use Rattle.leak_sift.proofs.behind.BehindRest.kept.Goals as goal

pub returns : goal.returns
returns c =
    let words = c.in_ok-words.words.now in
    let it = behind_some c.self.inside.words c.in_ok-words.words c.self.inside.len c.args.self.now (c.branch-words.ensures ∙ ap continue_value c.in_ok-words.is) c.self.invariant c.self.view_is in
    let place = c.args.at / 8 in
    let count : place + c.args.count - place ≡ c.args.count = omega arith in
    let is = c.kept_between-kept.ensures ∙ ap (kept_from words place) count in
    let fit : AreWords (kept_from words place c.args.count) = subst AreWords is c.are_words.ensures in
    is ∙ sym (behind_kept words c.self.inside.len c.args.at place c.args.count it.0 (omega (arith, c.if-at-ne0.false)) (omega (arith, c.if-left-count.false, c.len.ensures)) fit)
    ∙ ap (λ (bytes : List ℕ). kept_words (aligned_number_at bytes) c.args.at c.args.count) it.1
