-- From the lemmas of Listed.
use Rattle.std.proofs.Common.{ap, ◌∙◌}
use Rattle.leak_report.specs.Places.{place_of}
use Rattle.leak_report.proofs.Listed.{first_none, first_more, first_all}
use Rattle.leak_report.proofs.grouping.leaks_with_places.Goals as goal

pub loop-number-init : goal.loop-number-init
loop-number-init c = rw c.in_ok-placed.ensures.items (first_none c.args.prefix.now c.args.log.now c.args.leaks.now)

pub loop-number-preserved : goal.loop-number-preserved
loop-number-preserved c =
    rw c.in_ok-push.ensures.items
    (first_more c.args.prefix.now c.args.log.now c.args.leaks.now c.loop-number.number c.place-place.result c.loop-number.placed.items c.loop-number.invariant c.loop-number-test.true
    (c.place-place.ensures ∙ ap (place_of c.args.prefix.now) c.caller_text.ensures))

pub returns : goal.returns
returns c = first_all c.args.prefix.now c.args.log.now c.args.leaks.now c.loop-number.number c.loop-number.placed.items c.loop-number.invariant c.loop-number-test.false
