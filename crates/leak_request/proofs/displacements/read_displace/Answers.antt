-- From the lemmas of Listing.
use Rattle.std.proofs.Common.{subst, Option, Some, ℕ, List}
use Rattle.std.specs.Borrow.{Bor}
use Rattle.leak_request.proofs.Listing.{AreRead, dropped_read, kept_read, other_after, size_after-less}
use Rattle.leak_request.proofs.displacements.read_displace.Goals as goal
use Rattle.leak_request.proofs.displacements.read_displace.Goals.{then-count-lt-KEPT, else-count-lt-KEPT}

pub returns-in_default-number-clause-refused : goal.returns-in_default-number-clause-refused
returns-in_default-number-clause-refused c =
    let read : AreRead c.args.text.now (Some c.in-Some.left) c.items.count c.items.values = subst (λ (r : Option (Bor (List ℕ))). AreRead c.args.text.now r c.items.count c.items.values) c.in-Some.is c.items.invariant in
    other_after _ _ read c.cut.ensures.items c.in_default-number.ensures

pub items-preserved : goal.items-preserved
items-preserved c =
    let read : AreRead c.args.text.now (Some c.in-Some.left) c.items.count c.items.values = subst (λ (r : Option (Bor (List ℕ))). AreRead c.args.text.now r c.items.count c.items.values) c.in-Some.is c.items.invariant in
    let less = size_after-less c.in-Some.left c.cut.result.1 c.cut.ensures.shorter in
    let number = c.in-Some-number.ensures in
    elim c.if-count-lt-KEPT.branch [
      | then-count-lt-KEPT w ↦ rw (w.values-is, number.1) (kept_read c.cut.result.1 _ read c.cut.ensures.items less number.0 w.if-count-lt-KEPT.true)
      | else-count-lt-KEPT w ↦ rw w.values-is (dropped_read c.cut.result.1 _ read c.cut.ensures.items less number.0 w.if-count-lt-KEPT.false)
    ]
