-- From the lemmas of ListingLemmas.
use Rattle.std.proofs.Common.{◌≡◌, ◌<◌, ◌∙◌, ℕ, List, [], length, Option, arith, sym, ap, subst}
use Rattle.leak_pool.specs.Course.{HaveGone, HaveLed}
use Rattle.leak_pool.specs.Lists.{each_alone, lists_in}
use Rattle.leak_pool.specs.Listing.{targets_in}
use Rattle.leak_pool.specs.ListsLaw.{long_lists}
use Rattle.leak_pool.specs.Marking.{MarksFromRoots, lists_of}
use Rattle.leak_pool.proofs.FromLemmas.{if_ok}
use Rattle.leak_pool.proofs.ListingLemmas.{long_alone, marks_listed}
use Rattle.leak_pool.proofs.marking_by_listing.mark_by_listing.Goals as goal

pub returns-clause-marks : goal.returns-clause-marks
returns-clause-marks g c = λ word_at index places is.
    if_ok _ (MarksFromRoots word_at index places c.args.plan.workers) c.mark_by_rounds.result (λ m marked. marks_listed word_at index places c.args.listing.now is c.args.plan.workers m marked) c.mark_by_rounds.ensures.marks

pub returns-clause-course : goal.returns-clause-course
returns-clause-course g c =
    let l = c.args.listing.now in let long = long_lists l.blocks l.size l.rows.items in
    if_ok _ (λ m. 0 < l.blocks → HaveLed (each_alone l.first.items) (targets_in l) c.args.plan.workers c.args.plan.stack m.rounds (lists_of m) []) c.mark_by_rounds.result
    (λ m led some. led (omega (arith, long, some))) c.mark_by_rounds.ensures.course

pub returns-clause-gate : goal.returns-clause-gate
returns-clause-gate g c =
    let l = c.args.listing.now in let long = long_lists l.blocks l.size l.rows.items in
    let passed : ℕ → ℕ → Type 0 = g.G.Gate.passed c.args.gate.now in
    if_ok _ (λ m. 0 < l.blocks → HaveGone passed (length l.first.items) (each_alone l.first.items) (targets_in l) c.args.plan.workers c.args.plan.stack m.rounds (lists_of m) []) c.mark_by_rounds.result
    (λ m gone some. subst (λ (n : ℕ). HaveGone passed n (each_alone l.first.items) (targets_in l) c.args.plan.workers c.args.plan.stack m.rounds (lists_of m) []) (long_alone l.first.items) (gone (omega (arith, long, some))))
    c.mark_by_rounds.ensures.gate
