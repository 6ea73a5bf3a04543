-- From the lemmas of ListLemmas.
use Rattle.std.proofs.Common.{rules, subst, inl, inr, ⊎_elim, List, ℕ}
use Rattle.leak_marks.specs.Lists.{Has}
use Rattle.leak_marks.proofs.ListLemmas.{of_push}
use Rattle.leak_pool.proofs.claiming.claim.Goals as goal

pub returns-clause-gained : goal.returns-clause-gained
returns-clause-gained c b h =
    let n = c.seen.ensures.no (search rules) in
    ⊎_elim (λ old. inl old) (λ e. inr (e, n.1)) (of_push c.args.list.now.items c.args.block b (subst (λ (l : List ℕ). Has l b) c.push_reserved.ensures.items h))
