-- From the lemmas of StepLemmas and EndLemmas.
use Rattle.std.proofs.Common.{◌≡◌, ℕ, List, [], Vec, Global, length, ◌∙◌, ap, subst, arith}
use Rattle.std.specs.Prelude.{min}
use Rattle.leak_marks.specs.Lists.{times, Within, mark_of, word_count}
use Rattle.leak_pool.specs.Course.{HaveGone, HaveLed, IsCourse}
use Rattle.leak_pool.specs.Rounds.{AreWords, Going, graph_over}
use Rattle.leak_pool.specs.MarkingState.{HaveCome, claims_of}
use Rattle.leak_pool.proofs.StepLemmas.{ok_at}
use Rattle.leak_pool.proofs.EndLemmas.{words_at_end}
use Rattle.leak_pool.proofs.StackSizeLemmas.{course_by_plan}
use Rattle.leak_pool.proofs.marking_by_rounds.mark_words.Goals as goal

abbrev items : Vec ℕ Global → List ℕ
items v = v.items

pub returns-clause-words : goal.returns-clause-words
returns-clause-words g c =
    let roots = g.S.TargetSource.roots c.args.source.now in let targets = g.S.TargetSource.targets c.args.source.now in
    let p = c.in_ok-state-3.state in
    let going = subst (λ (l : List ℕ). Going roots targets c.args.given.now c.workers-workers.result (claims_of p) l p.seat) c.in_ok-state-3.ensures.ended c.in_ok-state-3.ensures.between.going in
    subst (λ (n : ℕ). AreWords (graph_over roots targets c.args.given.now) (length targets) n c.in_ok-words.words.items (claims_of p) c.in_ok-state-3.rounds) c.workers-workers.ensures.number
    (words_at_end roots targets c.args.given.now c.workers-workers.result c.in_ok-state-3.rounds (claims_of p) p.seat c.in_ok-words.words.items
    c.whole_runs.ensures.partition going
    (λ full. ok_at c.close.result c.in_ok-words.words (λ w. Within p.seat.seen p.seat.claims × ((b : ℕ) → mark_of w.items b ≡ times b p.seat.claims)) c.in_ok-words.was (c.close.ensures.whole full))
    (c.in_ok-words.ensures.len ∙ ap word_count (c.in_ok-marks.ensures.0 ∙ c.blocks-3.ensures))
    c.in_ok-state-3.ensures.rounds)

pub returns-clause-course : goal.returns-clause-course
returns-clause-course g c =
    let roots = g.S.TargetSource.roots c.args.source.now in let targets = g.S.TargetSource.targets c.args.source.now in
    let p = c.in_ok-state-3.state in
    let going = subst (λ (l : List ℕ). Going roots targets c.args.given.now c.workers-workers.result (claims_of p) l p.seat) c.in_ok-state-3.ensures.ended c.in_ok-state-3.ensures.between.going in
    let cut : c.min-stack.result ≡ min c.args.plan.stack (length targets) = let s = c.stack.ensures.number in let b = c.blocks-2.ensures in let m = c.min-stack.ensures in omega arith in
    let come = subst (λ (l : List ℕ). HaveCome roots targets c.workers-workers.result c.min-stack.result c.in_ok-state-3.rounds (claims_of p) l p.seat.seen) c.in_ok-state-3.ensures.ended c.in_ok-state-3.ensures.course in
    subst (λ (n : ℕ). HaveLed roots targets n c.args.plan.stack c.in_ok-state-3.rounds (claims_of p) []) c.workers-workers.ensures.number
    (come.0, come.1, course_by_plan roots targets c.args.given.now c.workers-workers.result c.min-stack.result c.args.plan.stack (claims_of p) p.seat come.0 cut going come.2)

pub returns-clause-gate : goal.returns-clause-gate
returns-clause-gate g c =
    let roots = g.S.TargetSource.roots c.args.source.now in let targets = g.S.TargetSource.targets c.args.source.now in
    let passed : ℕ → ℕ → Type 0 = g.G.Gate.passed c.args.gate.now in
    let p = c.in_ok-state-3.state in
    let going = subst (λ (l : List ℕ). Going roots targets c.args.given.now c.workers-workers.result (claims_of p) l p.seat) c.in_ok-state-3.ensures.ended c.in_ok-state-3.ensures.between.going in
    let cut : c.min-stack.result ≡ min c.args.plan.stack (length targets) = let s = c.stack.ensures.number in let b = c.blocks-2.ensures in let m = c.min-stack.ensures in omega arith in
    let gone = c.in_ok-state-3.ensures.gate c.in_ok-state-2.ensures.gate in
    let course : IsCourse roots targets c.workers-workers.result c.min-stack.result (claims_of p) [] gone.0 =
    subst (λ (l : List ℕ). IsCourse roots targets c.workers-workers.result c.min-stack.result (claims_of p) l gone.0) c.in_ok-state-3.ensures.ended gone.2 in
    subst (λ (n : ℕ). HaveGone passed (length roots) roots targets n c.args.plan.stack c.in_ok-state-3.rounds (claims_of p) []) c.workers-workers.ensures.number
    (gone.0, gone.1, course_by_plan roots targets c.args.given.now c.workers-workers.result c.min-stack.result c.args.plan.stack (claims_of p) p.seat gone.0 cut going course, gone.3)
