-- From the lemmas of RowLemmas.
use Rattle.std.proofs.Common.{◌<◌, ◌≤◌, ℕ, length, refl, sym, subst, arith}
use Rattle.std.proofs.lemmas.List.{length-map}
use Rattle.leak_tests_marking.proofs.RowLemmas.{now_of, row_any, row_more}
use Rattle.leak_tests_marking.proofs.lists.lists_of.Goals as goal

pub loop-list-init : goal.loop-list-init
loop-list-init c p b low h = absurd (omega arith)

pub loop-list-preserved : goal.loop-list-preserved
loop-list-preserved c p b low h =
    row_more c.args.lists.now (length c.args.lists.now) c.loop-list.list-index _ c.loop-list-test.true c.loop-list.invariant (c.if-not-are_blocks.ensures refl) p b low h

pub invariant_of-result : goal.invariant_of-result
invariant_of-result c = record {
  count = length-map c.args.lists.now now_of;
  within = λ p b h.
      let all : length c.args.lists.now ≤ c.loop-list.list-index = c.loop-list-test.false in
      subst (λ (n : ℕ). b < n) (sym (length-map c.args.lists.now now_of))
      (row_any c.args.lists.now (length c.args.lists.now) (λ q x low i. c.loop-list.invariant q x (omega arith) i) p b h);
}
