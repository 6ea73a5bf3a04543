-- From the lemmas of LeftOut and Few.
use Rattle.std.proofs.Common.{refl, sym, ◌∙◌, ap, length, length-append, append-nil}
use Rattle.leak_roots.proofs.Ranges.{kept_one, lost_one}
use Rattle.leak_roots.proofs.LeftOut.{kept_first, kept_more, kept_less}
use Rattle.leak_roots.proofs.Few.{few_first, few_more, few_same}
use Rattle.leak_roots.proofs.inside.Kept.push.Goals as goal
use Rattle.leak_roots.proofs.inside.Kept.push.Goals.{then-stretch, else-stretch+then-keeps+in_ok-push, else-stretch+else-keeps}

pub loop-from-init : goal.loop-from-init
loop-from-init g c = record {
  kept = kept_first (g.T.RangeTest.keeps c.args.test.now) c.args.range c.args.self.now c.requires.range c.requires.fits;
  few = few_first c.args.self.now.spans.now c.args.range (length c.args.self.now.memory.items);
}

pub loop-from-preserved : goal.loop-from-preserved
loop-from-preserved g c =
    let keeps = g.T.RangeTest.keeps c.args.test.now in
    let e = c.stretch_from-stretch.ensures in
    let k = c.loop-from.invariant.kept in
    let l = c.loop-from.self in
    let end = c.stretch_from-stretch.result.end in
    let old = length c.args.self.now.memory.items in
    elim c.if-stretch.branch [
      | then-stretch w ↦
          rw w.self-is (record {
            kept = kept_less keeps c.args.range c.args.self.now l _ c.loop-from.from end c.requires.range k e.some e.within e.multiple (λ a m n o. e.alike a m n o ∙ w.if-stretch.true) refl refl refl;
            few = few_same c.args.self.now.spans.now c.args.range old (length l.memory.items) c.loop-from.from end c.loop-from.invariant.few c.loop-from-test.true e.some;
          })
      | else-stretch+then-keeps+in_ok-push w ↦
          let one = kept_one keeps (c.loop-from.from, end) (sym w.keeps.ensures ∙ w.if-keeps.true) in
          rw w.self-is (record {
            kept = kept_more keeps c.args.range c.args.self.now l _ c.loop-from.from end c.requires.range k e.some e.within e.multiple (λ a m n o. e.alike a m n o ∙ w.if-stretch.false) refl (rw one w.in_ok-push.ensures.items) refl;
            few = few_more c.args.self.now.spans.now c.args.range old (length l.memory.items) (length w.push.new.self.items) c.loop-from.from end c.loop-from.invariant.few c.loop-from-test.true e.some
                (ap length w.in_ok-push.ensures.items ∙ length-append l.memory.items _) (rw k.adds.spans at (e.cut w.if-stretch.false));
          })
      | else-stretch+else-keeps w ↦
          let none = lost_one keeps (c.loop-from.from, end) (sym w.keeps.ensures ∙ w.if-keeps.false) in
          rw w.self-is (record {
            kept = kept_more keeps c.args.range c.args.self.now l _ c.loop-from.from end c.requires.range k e.some e.within e.multiple (λ a m n o. e.alike a m n o ∙ w.if-stretch.false) refl (rw none (sym (append-nil l.memory.items))) refl;
            few = few_same c.args.self.now.spans.now c.args.range old (length l.memory.items) c.loop-from.from end c.loop-from.invariant.few c.loop-from-test.true e.some;
          })
    ]
