-- From the lemmas of RowLemmas.
use Rattle.std.proofs.Common.{[], sym, ap, ◌∙◌, arith}
use Rattle.leak_growth.proofs.RowLemmas.{changed_more, same_more}
use Rattle.leak_growth.proofs.rows.changed_rows.Goals as goal
use Rattle.leak_growth.proofs.rows.changed_rows.Goals.{then-is_changed+in_ok-push, else-is_changed}

pub loop-i-preserved : goal.loop-i-preserved
loop-i-preserved c =
    elim c.if-is_changed.branch [
      | then-is_changed+in_ok-push w ↦
          rw (w.rows-is, w.in_ok-push.ensures.items, c.loop-i.invariant)
          (sym (changed_more c.args.texts.now c.args.earlier.now c.args.later.now c.args.new.now c.loop-i.i (record { ref_ptr = (0, 0); now = [] }) (record { blocks = 0; bytes = 0 })
          c.loop-i-test.true (omega arith) (omega arith) (omega arith) (sym c.is_changed.ensures ∙ w.if-is_changed.true)))
      | else-is_changed w ↦
          rw (w.rows-is, c.loop-i.invariant)
          (sym (same_more c.args.texts.now c.args.earlier.now c.args.later.now c.args.new.now c.loop-i.i (record { ref_ptr = (0, 0); now = [] }) (record { blocks = 0; bytes = 0 })
          c.loop-i-test.true (omega arith) (omega arith) (omega arith) (sym c.is_changed.ensures ∙ w.if-is_changed.false)))
    ]
