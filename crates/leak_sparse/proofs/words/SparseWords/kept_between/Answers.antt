-- The kept words from the one rank to the other are those of the places between.
use Rattle.std.proofs.Common.{◌≡◌, ◌∙◌, ℕ, ◌+◌, ◌-◌, ◌≤◌, List, length, take, drop, ap, sym, arith}
use Rattle.leak_sparse.specs.Words.{kept_from, kept_of}
use Rattle.leak_sparse.proofs.RangeLemmas.{are_kept, ascend, between, first_rank, last_rank, len_is}
use Rattle.leak_sparse.proofs.words.SparseWords.kept_between.Goals as goal

pub split_at-requires : goal.split_at-requires
split_at-requires c =
    let kept = ap length c.as_slice.ensures.value in
    omega (arith, first_rank c.self.inside.groups.items c.self.inside.kept.items c.self.inside.len c.args.self.now c.self.invariant c.self.view_is c.args.from c.args.to c.requires.order c.requires.within, c.rank-before.ensures, kept)

pub overflow_sub-rank : goal.overflow_sub-rank
overflow_sub-rank c =
    omega (arith, ascend c.self.inside.groups.items c.self.inside.kept.items c.self.inside.len c.args.self.now c.self.invariant c.self.view_is c.args.from c.args.to c.requires.order c.requires.within, c.rank-before.ensures, c.rank.ensures)

pub split_at-requires-2 : goal.split_at-requires-2
split_at-requires-2 c =
    let kept = ap length c.as_slice.ensures.value in
    omega (arith, last_rank c.self.inside.groups.items c.self.inside.kept.items c.self.inside.len c.args.self.now c.self.invariant c.self.view_is c.args.from c.args.to c.requires.order c.requires.within, c.rank-before.ensures, c.rank.ensures, c.split_at.ensures.back_len, kept)

pub returns : goal.returns
returns c =
    let kept = c.self.inside.kept.items in
    let first = c.rank-before.result in
    let last = c.rank.result in
    c.split_at-2.ensures.front ∙ ap (λ (ws : List ℕ). take (last - first) ws) (c.split_at.ensures.back ∙ ap (λ (ws : List ℕ). drop first ws) c.as_slice.ensures.value)
    ∙ ap (λ (r : ℕ). between kept r last) c.rank-before.ensures
    ∙ ap (λ (r : ℕ). between kept (kept_of (take c.args.from c.args.self.now)) r) c.rank.ensures
    ∙ are_kept c.self.inside.groups.items kept c.self.inside.len c.args.self.now c.self.invariant c.self.view_is c.args.from c.args.to c.requires.order c.requires.within
