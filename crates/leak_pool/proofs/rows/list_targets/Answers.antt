-- From the lemmas of ListLemmas.
use Rattle.std.proofs.Common.{◌≡◌, ◌++◌, [], ◌∷◌, ℕ, List, subst, sym, ap, ◌∙◌, append_assoc, arith, rules, length, ◌+◌, ◌<◌}
use Rattle.leak_marks.specs.Lists.{Has}
use Rattle.leak_marks.proofs.ListLemmas.{here, there}
use Rattle.leak_pool.proofs.RowLemmas.{all_there, over_more}
use Rattle.leak_pool.proofs.rows.list_targets.Goals as goal

pub overflow_cast-block : goal.overflow_cast-block
overflow_cast-block g c =
    let i = c.loop-block.invariant.small c.in-Some.block (subst (λ (l : List ℕ). Has l c.in-Some.block) (sym c.in-Some.ensures.steps) (here c.in-Some.block c.next.new.self)) in omega (arith, i)

pub loop-block-preserved : goal.loop-block-preserved
loop-block-preserved g c =
    let i = c.loop-block.invariant in record {
      within = let l = c.in_ok-push.ensures.len in let n = c.if-len-room.false in let w = i.within in omega (arith, l, n, w);
      rest = ap (λ (l : List ℕ). l ++ c.next.new.self) c.in_ok-push.ensures.items ∙ append_assoc c.loop-block.targets.items (c.in-Some.block ∷ []) c.next.new.self
          ∙ ap (λ (l : List ℕ). c.loop-block.targets.items ++ l) (sym c.in-Some.ensures.steps) ∙ i.rest;
      small = λ b h. i.small b (subst (λ (l : List ℕ). Has l b) (sym c.in-Some.ensures.steps) (there c.in-Some.block c.next.new.self b h));
    }

pub returns-then-len-room-clause-over : goal.returns-then-len-room-clause-over
returns-then-len-room-clause-over g c _ =
    let first = c.into_iter-block-iterator.result in
    let all : first ≡ c.args.found = search (c.into_iter-block-iterator.ensures.into_iter_gives, rules) in
    subst (λ (l : List ℕ). c.args.room < length c.args.targets.now.items + length l) all
    (over_more c.loop-block.targets.items c.args.targets.now.items first c.loop-block.block-iterator c.next.new.self c.in-Some.block c.args.room c.loop-block.invariant.rest c.in-Some.ensures.steps
    (let n = c.len.ensures in let e = c.if-len-room.true in omega (arith, n, e)))

pub returns-clause-listed : goal.returns-clause-listed
returns-clause-listed g c _ =
    let first = c.into_iter-block-iterator.result in
    let all : first ≡ c.args.found = search (c.into_iter-block-iterator.ensures.into_iter_gives, rules) in
    subst (λ (l : List ℕ). c.loop-block.targets.items ≡ c.args.targets.now.items ++ l) all
    (all_there c.loop-block.targets.items c.args.targets.now.items first c.loop-block.block-iterator c.loop-block.invariant.rest c.in-None.ensures.steps.0)
