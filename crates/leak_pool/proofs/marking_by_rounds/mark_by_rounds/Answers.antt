-- From the lemmas of EndLemmas.
use Rattle.std.proofs.Common.{◌≡◌, ℕ, List, [], Vec, Global, map, length, replicate, ap, sym, subst, ◌∙◌, arith}
use Rattle.leak_marks.specs.Lists.{mark_of}
use Rattle.leak_pool.specs.Marking.{IsSet}
use Rattle.leak_pool.specs.Rounds.{graph_over}
use Rattle.leak_pool.proofs.EndLemmas.{marked_of_words, marked_none}
use Rattle.leak_pool.proofs.marking_by_rounds.mark_by_rounds.Goals as goal

abbrev items : Vec ℕ Global → List ℕ
items v = v.items

pub returns-clause-marks : goal.returns-clause-marks
returns-clause-marks g c =
    let roots : List (List ℕ) = g.S.TargetSource.roots c.args.source.now in
    let targets : List (List ℕ) = g.S.TargetSource.targets c.args.source.now in
    let first : c.blocks-2.result ≡ length targets = c.blocks-2.ensures in
    let set : IsSet c.in_ok-set.set.items c.blocks-3.result (λ b. mark_of c.as_slice.result.now b ≡ 1) = c.in_ok-set.ensures in
    let same : IsSet c.in_ok-set.set.items (length targets) (λ b. mark_of c.as_slice.result.now b ≡ 1) =
    subst (λ (n : ℕ). IsSet c.in_ok-set.set.items n (λ b. mark_of c.as_slice.result.now b ≡ 1)) c.blocks-3.ensures set in
    marked_of_words (graph_over roots targets c.args.given.now) (length targets) c.args.plan.workers c.in_ok-words.rounds c.in_ok-words.words.items (map items c.in_ok-words.claims.items) c.in_ok-set.set.items
    (let z = c.if-blocks-eq0.false in omega arith) c.in_ok-words.ensures.words
    (subst (λ (l : List ℕ). IsSet c.in_ok-set.set.items (length targets) (λ b. mark_of l b ≡ 1)) c.as_slice.ensures.value same)

pub returns-then-blocks-eq0-clause-marks : goal.returns-then-blocks-eq0-clause-marks
returns-then-blocks-eq0-clause-marks g c = marked_none (g.S.TargetSource.roots c.args.source.now) (g.S.TargetSource.targets c.args.source.now) c.args.given.now c.args.plan.workers (map items c.in_ok-no_claims.field-0.items) _
    (sym c.blocks-2.ensures ∙ c.if-blocks-eq0.true) (c.in_ok-no_claims.ensures.lists ∙ ap (λ (n : ℕ). replicate n []) c.workers.ensures.number) c.new.ensures.items (λ i b h. c.targets_are_blocks.ensures i b h)

pub returns-clause-gate : goal.returns-clause-gate
returns-clause-gate g c = λ some. c.in_ok-words.ensures.gate

pub returns-then-blocks-eq0-clause-gate : goal.returns-then-blocks-eq0-clause-gate
returns-then-blocks-eq0-clause-gate g c = λ some.
    absurd (let n = c.blocks-2.ensures in let none = c.if-blocks-eq0.true in omega arith)
